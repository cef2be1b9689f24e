-- Who is torn up in the morning, and the morning as a whole.
use Rattle.std.proofs.Common.{◌≡◌, ℕ, zero, suc, ◌+◌, ◌<◌, ◌≤◌, Bool, true, false, ◌≢◌, List, [], ◌∷◌, ◌++◌, length, ℤ, ◌≤ℤ◌, ◌<ℤ◌, refl, subst, inl, inr, arith, rules}
use Rattle.std.specs.List.{AllByRecursion}
use Rattle.std.proofs.lemmas.Int.{ints}
use Rattle.std.proofs.ByRecursion.{All-append}
use Rattle.std.proofs.lemmas.Bool.{both_ways, ne_eqb}
use Rattle.venue.proofs.Days.{begun, leads_begin_day}
use Rattle.venue.proofs.Mornings.{steps_all, told_steps}
use Rattle.venue.proofs.Opposing.{between}
use Rattle.venue.proofs.Opposites.{near_zero}
use Rattle.venue.proofs.Picks.{by_pick}
use Rattle.venue.proofs.Sounds.{sound_inv}
use Rattle.venue.proofs.TearAll.{tears_all, tears_items, zero_items}
use Rattle.venue.specs.Morning.{Begun, DayBegins, Justly, tears_up}
use Rattle.venue.specs.Tearing.{Nearer, Tearing}
use Rattle.venue.specs.World.{Limits, Report, World, account, covered, done, held, kind, need, no, says, says_it, tear, tear_all}
use Rattle.venue.specs.World.{tear_items}

-- no report says that c is torn up
abbrev Spared : ℕ → List Report → Type 0
Spared c rs = AllByRecursion (λ (r : Report). tears_up c r ≡ false) rs

spared_tear : (c f b a k : ℕ) (w : World) → a ≢ c → Spared c (tear f b a k w).1
unfolding tear tears_up
spared_tear c zero b a k w n = tt
spared_tear c (suc f) b a k w n = search (rules, spared_tear c f, ne_eqb)

spared_items : (c f k a : ℕ) (w : World) → a ≢ c → Spared c (tear_items f k a w).1
unfolding tear_items
spared_items c zero k a w n = tt
spared_items c (suc f) k a w n =
    All-append (λ (r : Report). tears_up c r ≡ false) _ _ (spared_tear c (length w.accounts) 0 a k w n) (spared_items c f (suc k) a _ n)

-- those from a on have their turns after all below it
spared_all : (c f a : ℕ) (w : World) → c < a → Spared c (tear_all f a w).1
unfolding tear_all
spared_all c zero a w h = tt
spared_all c (suc f) a w h =
    by_pick (λ (y : World × List Report). Spared c y.1) (covered w a w.orders) _ _ (λ e. spared_all c f (suc a) w (omega arith))
    (λ e. All-append (λ (r : Report). tears_up c r ≡ false) _ _
    (spared_items c (length w.items) 0 a w (λ q. omega arith)) (spared_all c f (suc a) _ (omega arith)))

-- one turn
turn_none : (a : ℕ) (w : World) → tear_all 0 a w ≡ (w, [])
unfolding tear_all
turn_none a w = refl

turn_yes : (f a : ℕ) (w : World) → covered w a w.orders ≡ true → tear_all (suc f) a w ≡ tear_all f (suc a) w
unfolding tear_all
turn_yes f a w e = rw e

turn_no : (f a : ℕ) (w : World) → covered w a w.orders ≡ false →
    tear_all (suc f) a w
    ≡ (
      (tear_all f (suc a) (tear_items (length w.items) 0 a w).0).0,
      (tear_items (length w.items) 0 a w).1 ++ (tear_all f (suc a) (tear_items (length w.items) 0 a w).0).1,
    )
unfolding tear_all
turn_no f a w e = rw e

is_covered : (w : World) (a : ℕ) → covered w a w.orders ≡ true → need w a w.orders ≤ℤ (account w a).cash
unfolding covered
is_covered w a e = omega (arith, ints)

not_covered : (w : World) (a : ℕ) → covered w a w.orders ≡ false → (account w a).cash <ℤ need w a w.orders
unfolding covered
not_covered w a e = omega (arith, ints)

justly_more : (u : World) (c : ℕ) (v : World) (rs qs : List Report) → Spared c rs → Justly u c v qs → Justly u c v (rs ++ qs)
justly_more u c v rs qs e f = grind (arith, ints, All-append)

module _ (z : Limits) where
  -- a's own turn
  justly_now : (f a : ℕ) (w : World) → suc f + a ≤ length w.accounts → Tearing z w → (b : Bool) → covered w a w.orders ≡ b →
      Justly w a (tear_all (suc f) a w).0 (tear_all (suc f) a w).1
  justly_now f a w h g true e = rw (turn_yes f a w e) (inl (is_covered w a e, spared_all a f (suc a) w (omega arith)))
  justly_now f a w h g false e =
      let v = (tear_items (length w.items) 0 a w).0 in
      let t = tears_items z (length w.items) 0 a w (omega arith) g (omega arith) in
      let u = tears_all z f (suc a) v (omega arith) t.tearing in
      rw (turn_no f a w e)
      (inr (
        not_covered w a e,
        λ k l. near_zero (held (account (tear_all f (suc a) v).0 a) k)
            (subst (λ (y : ℤ). Nearer y (held (account (tear_all f (suc a) v).0 a) k))
            (zero_items z (length w.items) 0 a w (omega arith) g (omega arith) (λ j m. absurd (omega arith)) k (omega arith))
            (u.torn.near a k)),
      ))

  -- the turn of c, the d-th from a on
  justly : (f a : ℕ) (w : World) (d c : ℕ) → f + a ≤ length w.accounts → Tearing z w → d < f → c ≡ d + a → (b : Bool) → covered w a w.orders ≡ b →
      Justly (tear_all d a w).0 c (tear_all f a w).0 (tear_all f a w).1
  justly zero a w d c h g l q b e = absurd (omega arith)
  justly (suc f) a w zero c h g l q b e = search (rules, turn_none, justly_now)
  justly (suc f) a w (suc d) c h g l q true e = search (rules, turn_yes, justly f (suc a) w d c (omega arith) g (omega arith) (omega arith) _ refl)
  justly (suc f) a w (suc d) c h g l q false e =
      let v = (tear_items (length w.items) 0 a w).0 in
      let t = tears_items z (length w.items) 0 a w (omega arith) g (omega arith) in
      rw (turn_no f a w e, turn_no d a w e)
      (justly_more _ c _ (tear_items (length w.items) 0 a w).1 _ (spared_items c (length w.items) 0 a w (λ r. omega arith))
      (justly f (suc a) v d c (omega arith) t.tearing (omega arith) (omega arith) _ refl))

  -- all of it
  pub begun_all : (w : World) → Tearing z w → Begun w (begun (tear_all (length w.accounts) 0 w).0) (tear_all (length w.accounts) 0 w).1
  unfolding account need
  begun_all w g =
      let v = (tear_all (length w.accounts) 0 w).0 in
      let t = (tears_all z (length w.accounts) 0 w (omega arith) g).torn in
      let s = steps_all z (length w.accounts) 0 w (omega arith) g in
      let l = leads_begin_day z w g.inv g.still in
      record {
        trading = refl;
        covered = λ a h. l.inv.cover refl a (omega (arith, l.accounts));
        cash = t.cash;
        near = λ a k. between (held (account w a) k) (held (account v a) k) (t.near a k);
        told = λ a k. told_steps w v _ a k s;
        justly = λ a h. justly (length w.accounts) 0 w a a (omega arith) g h (omega arith) _ refl;
        steps = (v, s, refl);
        items = t.items;
        orders = t.orders;
        next = t.next;
        money = t.money;
      }

pub is_begun : DayBegins
unfolding DayBegins says says_it kind
is_begun z w s b =
    rw b (
      λ t. by_pick (λ (y : World × List Report). y.1 ≡ no ∷ []) w.trading _ _ (λ e. refl) (λ e. absurd (both_ways w.trading e t)),
      λ t. by_pick (λ (y : World × List Report). (rs : List Report) × (y.1 ≡ done 0 ∷ rs) × Begun w y.0 rs) w.trading _ _
          (λ e. absurd (both_ways w.trading t e))
          (λ e. ((tear_all (length w.accounts) 0 w).1, refl, begun_all z w (record { inv = sound_inv z w s; still = t }))),
    )
