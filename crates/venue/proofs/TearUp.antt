-- Tearing up an account: who holds one way while nobody holds the other way holds nothing, since all together hold nothing.
use Rattle.std.proofs.Common.{◌≡◌, ℕ, zero, suc, ◌+◌, ◌<◌, ◌≤◌, true, ◌≢◌, List, length, get_or, ℤ, pos, negsuc, neg_ℤ, ◌≤ℤ◌, sym, refl, ap, subst, arith, rules}
use Rattle.std.specs.List.{AllByRecursion}
use Rattle.std.proofs.lemmas.Int.{ints}
use Rattle.std.proofs.ByRecursion.{All-from_get_or}
use Rattle.venue.proofs.Opposites.{NotAgainst, near_against, not_against, opposite_self, tear_by}
use Rattle.venue.proofs.Picks.{by_pick, one_more}
use Rattle.venue.proofs.Tears.{step_one, step_tearing, step_torn, step_two, torn_more, torn_none}
use Rattle.venue.proofs.Totals.{held_share, owed_share}
use Rattle.venue.specs.Promise.{all_held}
use Rattle.venue.specs.Tearing.{Tearing, Torn}
use Rattle.venue.specs.World.{Account, Limits, Report, World, abs, account, gets, held, item, lesser, nobody, opposite, signed, tear}

-- nobody holds the other way than himself
pub opposite_apart : (w : World) (a b k : ℕ) → opposite (held (account w a) k) (held (account w b) k) ≡ true → a ≢ b
opposite_apart w a b k e q =
    opposite_self (held (account w a) k)
    (subst (λ (c : ℕ). opposite (held (account w a) k) (held (account w c) k) ≡ true) (sym q) e)

-- those before b don't hold the other way than a
abbrev pub AgainstNone : World → ℕ → ℕ → ℕ → Type 0
AgainstNone w a k b = (c : ℕ) → c < b → NotAgainst (held (account w a) k) (held (account w c) k)

-- w becomes v by steps of tearing up
pub record Tears (z : Limits) (w v : World) : Type 0 where
  pub tearing : Tearing z v
  pub torn : Torn w v

pub tears_none : (z : Limits) (w : World) → Tearing z w → Tears z w w
tears_none z w g = record { tearing = g; torn = torn_none w }

pub tears_more : (z : Limits) (w v u : World) → Torn w v → Tears z v u → Tears z w u
tears_more z w v u t r = record { tearing = r.tearing; torn = torn_more w v u t r.torn }

-- how much of account a's holding of item k is torn up against account b's
abbrev pub amount : World → ℕ → ℕ → ℕ → ℤ
amount w a b k = signed (held (account w a) k) (lesser (abs (held (account w a) k)) (abs (held (account w b) k)))

-- account a's step against b in item k
abbrev pub torn_step : World → ℕ → ℕ → ℕ → World
torn_step w a b k = gets (gets w a k (neg_ℤ (amount w a b k)) (item w k).price) b k (amount w a b k) (item w k).price

module _ (z : Limits) (a k : ℕ) where
  -- one step
  pub tearing_goes : (w : World) (b : ℕ) → Tearing z w → a < length w.accounts → b < length w.accounts → k < length w.items →
      opposite (held (account w a) k) (held (account w b) k) ≡ true → Tears z w (torn_step w a b k)
  tearing_goes w b g la lb lk e = search (rules, tear_by, step_tearing, step_torn, opposite_apart)

  -- the steps against f accounts from b on
  pub tears_tear : (f b : ℕ) (w : World) → f + b ≤ length w.accounts → Tearing z w → a < length w.accounts → k < length w.items →
      Tears z w (tear f b a k w).0
  unfolding tear
  tears_tear zero b w h g la lk = tears_none z w g
  tears_tear (suc f) b w h g la lk = search (rules, tears_tear f, tears_more, tearing_goes)

  pub against_more : (w : World) (b : ℕ) → Tearing z w → a < length w.accounts → b < length w.accounts → k < length w.items →
      opposite (held (account w a) k) (held (account w b) k) ≡ true → AgainstNone w a k b → AgainstNone (torn_step w a b k) a k (suc b)
  against_more w b g la lb lk e d =
      let t = tear_by (held (account w a) k) (held (account w b) k) e in
      let ne = opposite_apart w a b k e in
      let p = (item w k).price in
      let s = amount w a b k in
      let v = torn_step w a b k in
      let n = step_torn z w a b k p s g refl la lb ne lk t in
      one_more (λ (c : ℕ). NotAgainst (held (account v a) k) (held (account v c) k)) b
      (λ c l. near_against (held (account w a) k) (held (account v a) k) (held (account w c) k) (held (account v c) k)
      (n.near a k) (n.near c k) (d c l))
      (rw (step_one z w a b k p s g refl la lb ne lk t, step_two z w a b k p s g refl la lb ne lk t) t.apart)

  -- after them none of those holds the other way
  against_tear : (f b : ℕ) (w : World) → f + b ≤ length w.accounts → Tearing z w → a < length w.accounts → k < length w.items →
      AgainstNone w a k b → AgainstNone (tear f b a k w).0 a k (f + b)
  unfolding tear
  against_tear zero b w h g la lk d c l = d c (omega arith)
  against_tear (suc f) b w h g la lk d c l =
      by_pick (λ (y : World × List Report). NotAgainst (held (account y.0 a) k) (held (account y.0 c) k))
      (opposite (held (account w a) k) (held (account w b) k)) _ _
      (λ e.
      let o = tearing_goes w b g la (omega arith) lk e in
      let m = ap length o.torn.items in
      against_tear f (suc b) (torn_step w a b k) (omega arith) o.tearing (omega arith) (omega arith)
      (against_more w b g la (omega arith) lk e d) c (omega arith))
      (λ e.
      against_tear f (suc b) w (omega arith) g la lk
      (one_more (λ (c : ℕ). NotAgainst (held (account w a) k) (held (account w c) k)) b d
      (not_against (held (account w a) k) (held (account w b) k) e))
      c (omega arith))

-- all together hold nothing, and nobody holds the other way
holds_nothing : (k : ℕ) (xs : List Account) (a : ℕ) → a < length xs → all_held k xs ≡ pos 0 →
    ((c : ℕ) → c < length xs → NotAgainst (held (get_or xs a nobody) k) (held (get_or xs c nobody) k)) → held (get_or xs a nobody) k ≡ pos 0
holds_nothing k xs a h e f = by_sign (held (get_or xs a nobody) k) refl
  where
    by_sign : (z : ℤ) → held (get_or xs a nobody) k ≡ z → held (get_or xs a nobody) k ≡ pos 0
    by_sign (pos zero) q = q
    by_sign (pos (suc i)) q =
        let g : AllByRecursion (λ (x : Account). pos 0 ≤ℤ held x k) xs =
        All-from_get_or (λ (x : Account). pos 0 ≤ℤ held x k) xs nobody (λ c l. let t = (f c l).0 (omega (arith, ints)) in omega (arith, ints, t)) in
        let w = held_share k xs a h g in absurd (omega (arith, ints))
    by_sign (negsuc i) q =
        let g : AllByRecursion (λ (x : Account). pos 0 ≤ℤ neg_ℤ (held x k)) xs =
        All-from_get_or (λ (x : Account). pos 0 ≤ℤ neg_ℤ (held x k)) xs nobody
        (λ c l. let t = (f c l).1 (omega (arith, ints)) in omega (arith, ints, t)) in
        let w = owed_share k xs a h g in absurd (omega (arith, ints))

-- after `tear` with all accounts
pub tear_zero : (z : Limits) (a k : ℕ) (w : World) → Tearing z w → a < length w.accounts → k < length w.items →
    held (account (tear (length w.accounts) 0 a k w).0 a) k ≡ pos 0
unfolding account
tear_zero z a k w g la lk =
    let v = (tear (length w.accounts) 0 a k w).0 in
    let r = tears_tear z a k (length w.accounts) 0 w (omega arith) g la lk in
    holds_nothing k v.accounts a (omega arith) (r.tearing.inv.held k)
    (λ c l. against_tear z a k (length w.accounts) 0 w (omega arith) g la lk (λ c l. absurd (omega arith)) c (omega arith))
