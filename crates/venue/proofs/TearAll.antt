-- Tearing up in the morning: after it everybody is covered.
use Rattle.std.proofs.Common.{◌≡◌, ℕ, zero, suc, ◌+◌, ◌<◌, ◌≤◌, true, List, [], ◌∷◌, length, ℤ, pos, ◌+ℤ◌, ◌*ℤ◌, neg_ℤ, ◌≤ℤ◌, ap, subst, mul-le-mul_right, arith, rules}
use lib.Signed.{le_z}
use Rattle.std.proofs.lemmas.Int.{ints}
use Rattle.venue.proofs.Margins.{need_mono}
use Rattle.venue.proofs.Opposites.{near_zero}
use Rattle.venue.proofs.Picks.{by_pick, larger_within, one_more}
use Rattle.venue.proofs.TearUp.{Tears, tear_zero, tears_more, tears_none, tears_tear}
use Rattle.venue.proofs.Totals.{cash_at}
use Rattle.venue.specs.Tearing.{Nearer, Tearing, Torn}
use Rattle.venue.specs.World.{Account, Item, Limits, Order, Report, World, account, buys, covered, held, larger, need, need_from, need_in, sells}
use Rattle.venue.specs.World.{tear, tear_all, tear_items}

-- with products as unknowns
near_linear : (H H' : ℤ) → Nearer H H' → larger (H' +ℤ pos 0) (neg_ℤ H' +ℤ pos 0) ≤ℤ larger (H +ℤ pos 0) (neg_ℤ H +ℤ pos 0)
unfolding larger
near_linear H H' e = grind (arith, ints)

near_times : (h h' : ℤ) (B : ℕ) → Nearer h h' → Nearer (h *ℤ pos B) (h' *ℤ pos B)
near_times h h' B f = (omega (arith, ints, mul-le-mul_right B f.0), omega (arith, ints, mul-le-mul_right B f.1))

near_need : (c k : ℕ) (i : Item) (h h' : ℤ) → Nearer h h' → need_in c k i h' [] ≤ℤ need_in c k i h []
unfolding need_in buys sells
near_need c k i h h' f = near_linear (h *ℤ pos i.band) (h' *ℤ pos i.band) (near_times h h' i.band f)

-- without orders, who comes nearer to 0 needs no more, and who holds nothing needs nothing
torn_need : (w v : World) (c : ℕ) → Torn w v → need v c [] ≤ℤ need w c []
unfolding need account
torn_need w v c t = search (rules, need_mono, near_need)

zero_need : (c k : ℕ) (is : List Item) (x : Account) → ((j : ℕ) → k ≤ j → j < k + length is → held x j ≡ pos 0) → need_from c k is x [] ≤ℤ pos 0
unfolding need_from need_in buys sells
zero_need c k [] x f = omega (arith, ints)
zero_need c k (i ∷ is) x f =
    let r = zero_need c (suc k) is x (λ j l h. f j (omega arith) (omega arith)) in
    let e = f k (omega arith) (omega arith) in
    rw e
    (let q : larger ((pos 0 *ℤ pos i.band) +ℤ pos 0) (neg_ℤ (pos 0 *ℤ pos i.band) +ℤ pos 0) ≤ℤ pos 0 =
    larger_within _ _ _ (omega (arith, ints)) (omega (arith, ints)) in
    omega (arith, ints))

nothing_needed : (w : World) (a : ℕ) → ((j : ℕ) → j < length w.items → held (account w a) j ≡ pos 0) → pos 0 ≤ℤ (account w a).cash →
    need w a [] ≤ℤ (account w a).cash
unfolding need
nothing_needed w a f g = let z = zero_need a 0 w.items (account w a) (λ j l h. f j (omega arith)) in omega (arith, ints)

module _ (z : Limits) where
  -- account a's holdings of f items from k on
  pub tears_items : (f k a : ℕ) (w : World) → f + k ≤ length w.items → Tearing z w → a < length w.accounts → Tears z w (tear_items f k a w).0
  unfolding tear_items
  tears_items zero k a w h g la = tears_none z w g
  tears_items (suc f) k a w h g la =
      let v = (tear (length w.accounts) 0 a k w).0 in
      let t = tears_tear z a k (length w.accounts) 0 w (omega arith) g la (omega arith) in
      let m = ap length t.torn.items in
      tears_more z w v (tear_items f (suc k) a v).0 t.torn (tears_items f (suc k) a v (omega arith) t.tearing (omega arith))

  -- it holds nothing of them afterwards, if it held nothing of those before
  pub zero_items : (f k a : ℕ) (w : World) → f + k ≤ length w.items → Tearing z w → a < length w.accounts →
      ((j : ℕ) → j < k → held (account w a) j ≡ pos 0) → (j : ℕ) → j < f + k → held (account (tear_items f k a w).0 a) j ≡ pos 0
  unfolding tear_items
  zero_items zero k a w h g la d j l = d j (omega arith)
  zero_items (suc f) k a w h g la d j l =
      let v = (tear (length w.accounts) 0 a k w).0 in
      let t = tears_tear z a k (length w.accounts) 0 w (omega arith) g la (omega arith) in
      let m = ap length t.torn.items in
      zero_items f (suc k) a v (omega arith) t.tearing (omega arith)
      (one_more (λ (j : ℕ). held (account v a) j ≡ pos 0) k
      (λ j l. near_zero (held (account v a) j) (subst (λ (y : ℤ). Nearer y (held (account v a) j)) (d j l) (t.torn.near a j)))
      (tear_zero z a k w g la (omega arith))) j (omega arith)

  -- f accounts from a on
  pub tears_all : (f a : ℕ) (w : World) → f + a ≤ length w.accounts → Tearing z w → Tears z w (tear_all f a w).0
  unfolding tear_all
  tears_all zero a w h g = tears_none z w g
  tears_all (suc f) a w h g = search (rules, tears_all f, tears_more, tears_items)

  -- they are covered afterwards, if those before were
  pub covered_all : (f a : ℕ) (w : World) → f + a ≤ length w.accounts → Tearing z w → ((c : ℕ) → c < a → need w c [] ≤ℤ (account w c).cash) →
      (c : ℕ) → c < f + a → need (tear_all f a w).0 c [] ≤ℤ (account (tear_all f a w).0 c).cash
  unfolding tear_all covered
  covered_all zero a w h g d c l = d c (omega arith)
  covered_all (suc f) a w h g d c l =
      by_pick (λ (y : World × List Report). need y.0 c [] ≤ℤ (account y.0 c).cash) (covered w a w.orders) _ _
      (λ e.
      let t : le_z (need w a []) (account w a).cash ≡ true =
      subst (λ (os : List Order). le_z (need w a os) (account w a).cash ≡ true) (g.inv.empty g.still) e in
      covered_all f (suc a) w (omega arith) g
      (one_more (λ (c : ℕ). need w c [] ≤ℤ (account w c).cash) a d (omega (arith, ints))) c (omega arith))
      (λ e.
      let v = (tear_items (length w.items) 0 a w).0 in
      let t = tears_items (length w.items) 0 a w (omega arith) g (omega arith) in
      let m = ap length t.torn.items in
      let s = zero_items (length w.items) 0 a w (omega arith) g (omega arith) (λ j l. absurd (omega arith)) in
      covered_all f (suc a) v (omega arith) t.tearing
      (one_more (λ (c : ℕ). need v c [] ≤ℤ (account v c).cash) a
      (λ c l. rw (t.torn.cash c) (let x = torn_need w v c t.torn in let y = d c l in omega (arith, ints)))
      (nothing_needed v a (λ j k. s j (omega arith)) (cash_at v a (omega arith) t.tearing.inv.rich))) c (omega arith))
