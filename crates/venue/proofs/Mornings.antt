-- The steps of a morning, in plain words.
use Rattle.std.proofs.Common.{◌≡◌, ℕ, zero, suc, ◌+◌, ◌<◌, ◌≤◌, Bool, true, false, ◌&&◌, eqb, List, ◌++◌, length, ℤ, pos, ◌+ℤ◌, ◌-ℤ◌, neg_ℤ, sym, refl, ap, ◌∙◌, subst, arith, rules}
use Rattle.std.proofs.lemmas.Int.{ints}
use Rattle.std.proofs.lemmas.Bool.{eqb-true, eqb-false}
use Rattle.venue.proofs.Gets.{account_other, account_same, held_elsewhere, many_gets, wide_at, wide_gets}
use Rattle.venue.proofs.Opposites.{NotAgainst, not_against, tear_by}
use Rattle.venue.proofs.Picks.{by_pick, one_more}
use Rattle.venue.proofs.TearAll.{tears_items}
use Rattle.venue.proofs.TearUp.{AgainstNone, against_more, amount, opposite_apart, tearing_goes, tears_tear, torn_step}
use Rattle.venue.proofs.Tears.{step_one, step_torn, step_two}
use Rattle.venue.specs.Morning.{OneStep, Opposed, Steps, given, got, more, none, sum_over}
use Rattle.venue.specs.Tearing.{Tearing}
use Rattle.venue.specs.World.{Limits, Report, World, account, covered, gets, held, item, opposite, pick, tear, tear_all, tear_items, torn}
use Rattle.venue.proofs.Opposing.{between, not_opposed, one_is_0, opposed, self_opposed}

-- what one gets of item k changes no other holding
gets_others : (w : World) (a k : ℕ) (x : ℤ) (p c j : ℕ) → a < length w.accounts → k < length (account w a).holds →
    ((c ≡ a) × (j ≡ k) → ⊥) → held (account (gets w a k x p) c) j ≡ held (account w c) j
gets_others w a k x p c j la lk f = search (rules, account_same, held_elsewhere, account_other)

module _ (z : Limits) (a k : ℕ) where
  one_step : (w : World) (b : ℕ) → Tearing z w → a < length w.accounts → b < length w.accounts → k < length w.items →
      opposite (held (account w a) k) (held (account w b) k) ≡ true → AgainstNone w a k b →
      OneStep w (torn_step w a b k) a b k (amount w a b k)
  one_step w b g la lb lk e d =
      let s = amount w a b k in
      let p = (item w k).price in
      let v = gets w a k (neg_ℤ s) p in
      let t = tear_by (held (account w a) k) (held (account w b) k) e in
      let ne = opposite_apart w a b k e in
      let n = step_torn z w a b k p s g refl la lb ne lk t in
      let one = step_one z w a b k p s g refl la lb ne lk t in
      let two = step_two z w a b k p s g refl la lb ne lk t in
      let deep : k < length (account w a).holds = omega (arith, wide_at (length w.items) w a la g.inv.wide) in
      let lv : b < length v.accounts = omega (arith, many_gets w a k (neg_ℤ s) p) in
      let deep_too : k < length (account v b).holds =
      omega (arith, wide_at (length w.items) v b lv (wide_gets (length w.items) w a k (neg_ℤ s) p la g.inv.wide)) in
      record {
        opposed = opposed (held (account w a) k) (held (account w b) k) e;
        first = λ c l. not_opposed (held (account w a) k) (held (account w c) k) (d c l);
        gives = one;
        gets = two;
        most =
            rw (one, two) (one_is_0 (held (account w a) k) (held (account w b) k) _ _ e t.one t.two t.apart);
        near = between (held (account w a) k) (held (account (torn_step w a b k) a) k) (n.near a k);
        near_too = between (held (account w b) k) (held (account (torn_step w a b k) b) k) (n.near b k);
        others = λ c j f h. gets_others v b k s p c j lv deep_too h ∙ gets_others w a k (neg_ℤ s) p c j la deep f;
        cash = n.cash;
      }

  steps_tear : (f b : ℕ) (w : World) → f + b ≤ length w.accounts → Tearing z w → a < length w.accounts → k < length w.items →
      AgainstNone w a k b → Steps w (tear f b a k w).1 (tear f b a k w).0
  unfolding tear
  steps_tear zero b w h g la lk d = none
  steps_tear (suc f) b w h g la lk d =
      by_pick (λ (y : World × List Report). Steps w y.1 y.0) (opposite (held (account w a) k) (held (account w b) k)) _ _
      (λ e.
      let o = tearing_goes z a k w b g la (omega arith) lk e in
      let m = ap length o.torn.items in
      more (one_step w b g la (omega arith) lk e d)
      (steps_tear f (suc b) (torn_step w a b k) (omega arith) o.tearing (omega arith) (omega arith)
      (against_more z a k w b g la (omega arith) lk e d)))
      (λ e. steps_tear f (suc b) w (omega arith) g la lk
      (one_more (λ (c : ℕ). NotAgainst (held (account w a) k) (held (account w c) k)) b d
      (not_against (held (account w a) k) (held (account w b) k) e)))

steps_append : (w v u : World) (rs qs : List Report) → Steps w rs v → Steps v qs u → Steps w (rs ++ qs) u
steps_append w v u rs qs none t = t
steps_append w v u rs qs (more o s) t = more o (steps_append _ v u _ qs s t)

module _ (z : Limits) where
  steps_items : (f k a : ℕ) (w : World) → f + k ≤ length w.items → Tearing z w → a < length w.accounts →
      Steps w (tear_items f k a w).1 (tear_items f k a w).0
  unfolding tear_items
  steps_items zero k a w h g la = none
  steps_items (suc f) k a w h g la =
      let v = (tear (length w.accounts) 0 a k w).0 in
      let t = tears_tear z a k (length w.accounts) 0 w (omega arith) g la (omega arith) in
      let m = ap length t.torn.items in
      steps_append w v _ _ _ (steps_tear z a k (length w.accounts) 0 w (omega arith) g la (omega arith) (λ c l. absurd (omega arith)))
      (steps_items f (suc k) a v (omega arith) t.tearing (omega arith))

  pub steps_all : (f a : ℕ) (w : World) → f + a ≤ length w.accounts → Tearing z w → Steps w (tear_all f a w).1 (tear_all f a w).0
  unfolding tear_all
  steps_all zero a w h g = none
  steps_all (suc f) a w h g =
      by_pick (λ (y : World × List Report). Steps w y.1 y.0) (covered w a w.orders) _ _
      (λ e. steps_all f (suc a) w (omega arith) g)
      (λ e.
      let v = (tear_items (length w.items) 0 a w).0 in
      let t = tears_items z (length w.items) 0 a w (omega arith) g (omega arith) in
      steps_append w v _ _ _ (steps_items (length w.items) 0 a w (omega arith) g (omega arith))
      (steps_all f (suc a) v (omega arith) t.tearing))

-- holdings by the reports
pub told_step : (w v : World) (a b k : ℕ) (s : ℤ) (c j : ℕ) → OneStep w v a b k s →
    held (account v c) j +ℤ given c j (torn a b k s) ≡ held (account w c) j +ℤ got c j (torn a b k s)
unfolding given got
told_step w v a b k s c j o = by_cases (eqb a c) (eqb b c) (eqb k j) refl refl refl
  where
    here : (d : ℕ) (x : ℤ) → held (account v d) k ≡ held (account w d) k +ℤ x → d ≡ c → k ≡ j → held (account v c) j ≡ held (account w c) j +ℤ x
    here d x e q r =
        subst (λ (y : ℕ). held (account v y) j ≡ held (account w y) j +ℤ x) q
        (subst (λ (y : ℕ). held (account v d) y ≡ held (account w d) y +ℤ x) r e)

    elsewhere : eqb k j ≡ false → held (account v c) j +ℤ pos 0 ≡ held (account w c) j +ℤ pos 0
    elsewhere g =
        let d = o.others c j (λ x. eqb-false k j g (sym x.1)) (λ x. eqb-false k j g (sym x.1)) in omega (arith, ints)

    by_cases : (p q r : Bool) → eqb a c ≡ p → eqb b c ≡ q → eqb k j ≡ r →
        held (account v c) j +ℤ pick (p && r) s (pos 0) ≡ held (account w c) j +ℤ pick (q && r) s (pos 0)
    by_cases true true true e f g =
        absurd (self_opposed (held (account w a) k)
        (subst (λ (y : ℕ). Opposed (held (account w a) k) (held (account w y) k)) (eqb-true b c f ∙ sym (eqb-true a c e)) o.opposed))
    by_cases true false true e f g =
        let d = here a (neg_ℤ s) o.gives (eqb-true a c e) (eqb-true k j g) in omega (arith, ints)
    by_cases false true true e f g =
        let d = here b s o.gets (eqb-true b c f) (eqb-true k j g) in omega (arith, ints)
    by_cases false false true e f g =
        let d = o.others c j (λ x. eqb-false a c e (sym x.0)) (λ x. eqb-false b c f (sym x.0)) in omega (arith, ints)
    by_cases p q false e f g = let d = elsewhere g in search rules

pub told_steps : (w v : World) (rs : List Report) (c j : ℕ) → Steps w rs v →
    held (account v c) j ≡ (held (account w c) j -ℤ sum_over (given c j) rs) +ℤ sum_over (got c j) rs
unfolding sum_over
told_steps w v rs c j none = omega (arith, ints)
told_steps w v rs c j (more o s) =
    let e = told_steps _ v _ c j s in
    let d = told_step w _ _ _ _ _ c j o in
    omega (arith, ints)
