-- Payments by what is asked of them.
use Rattle.std.proofs.Common.{◌≡◌, ℕ, ◌+◌, ◌-◌, ◌<◌, ◌≤◌, Bool, true, false, ◌&&◌, ltb, leb, [], ◌∷◌, length, pos, ◌+ℤ◌, ◌-ℤ◌, ◌≤ℤ◌, ⊎_elim, arith}
use lib.Signed.{le_z}
use Rattle.std.proofs.lemmas.Int.{ints}
use Rattle.std.proofs.lemmas.Bool.{cases_Bool, lt-ltb, le-leb}
use Rattle.std.proofs.lemmas.Bool.Decides.{nat_tests}
use Rattle.venue.specs.World.{World, Limits, account, need, with_account, with_money, says_it, pay_in, pay_out, done, no, pick}

-- what a test that fails gives
pub by_failed : {A : Type 0} (b : Bool) (x y : A) → (b ≡ true → ⊥) → pick b x y ≡ y
by_failed b x y n = ⊎_elim (λ (e : b ≡ true). absurd (n e)) (λ (e : b ≡ false). rw e) (cases_Bool b)

module _ (z : Limits) (w : World) (a x : ℕ) where
  abbrev pub MayPayIn : Type 0
  MayPayIn = (a < length w.accounts) × (1 ≤ x) × (w.money + x ≤ z.money)

  in_tells : (ltb a (length w.accounts) && (leb 1 x && leb (w.money + x) z.money)) ≡ true → MayPayIn
  in_tells e = (grind (arith, nat_tests), grind (arith, nat_tests), grind (arith, nat_tests))

  pub paid_in : MayPayIn → says_it z w (pay_in a x) ≡
      (with_money (with_account w a (record { cash = (account w a).cash +ℤ pos x; holds = (account w a).holds })) (w.money + x), done 0 ∷ [])
  unfolding says_it
  paid_in h = rw (lt-ltb a (length w.accounts) h.0, le-leb 1 x h.1, le-leb (w.money + x) z.money h.2)

  pub not_paid_in : (MayPayIn → ⊥) → says_it z w (pay_in a x) ≡ (w, no ∷ [])
  unfolding says_it
  not_paid_in n = by_failed _ _ _ (λ e. n (in_tells e))

  abbrev pub MayPayOut : Type 0
  MayPayOut = (a < length w.accounts) × (1 ≤ x) × ((need w a w.orders +ℤ pos x) ≤ℤ (account w a).cash)

  out_tells : (ltb a (length w.accounts) && (leb 1 x && le_z (need w a w.orders) ((account w a).cash -ℤ pos x))) ≡ true → MayPayOut
  out_tells e = (grind (arith, ints), grind (arith, ints), grind (arith, ints))

  pub paid_out : MayPayOut → says_it z w (pay_out a x) ≡
      (with_money (with_account w a (record { cash = (account w a).cash -ℤ pos x; holds = (account w a).holds })) (w.money - x), done 0 ∷ [])
  unfolding says_it
  paid_out h =
      let e : le_z (need w a w.orders) ((account w a).cash -ℤ pos x) ≡ true = grind (arith, ints) in
      rw (lt-ltb a (length w.accounts) h.0, le-leb 1 x h.1, e)

  pub not_paid_out : (MayPayOut → ⊥) → says_it z w (pay_out a x) ≡ (w, no ∷ [])
  unfolding says_it
  not_paid_out n = by_failed _ _ _ (λ e. n (out_tells e))
