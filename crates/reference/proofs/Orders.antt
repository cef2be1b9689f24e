-- What `best` and `taken` come to on the code's lists.
use Rattle.std.proofs.Common.{◌≡◌, ℕ, zero, suc, ◌+◌, ◌-◌, ◌<◌, ◌≤◌, Bool, true, false, not, ◌&&◌, ltb, List, [], ◌∷◌, map, length, get_or, drop, set, Option, Some, None, sym, refl, ap, le_of_suc-le-suc, arith, drop-cons}
use Rattle.std.specs.List.{remove}
use Rattle.std.specs.Option.{MatchOption, unwrap_or}
use Rattle.std.proofs.lemmas.Bool.{le-leb, le-ltb, lt-leb, lt-ltb}
use Rattle.std.proofs.lemmas.Bool.Decides.{nat_tests}
use Rattle.std.proofs.lemmas.List.{length-drop, get_or-drop, drop_all}
use Rattle.venue.specs.World as world
use Rattle.venue.specs.World.{pick, best, taken, less_left, meets, better}
use Rattle.reference.specs.Means.{order_of}
use Rattle.reference.specs.Parts.{first_of}
use Rattle.reference.proofs.Places.{blank_order}
use Rattle.reference.specs.declared.market.Order.{Order}

-- a choice by two tests
sooner : (m b : Bool) (x y : ℕ) → pick m (pick b y x) y ≡ pick (m && not b) x y
sooner true true x y = refl
sooner true false x y = refl
sooner false b x y = refl

pub taken_all : (os : List Order) (j x : ℕ) → j < length os → (get_or os j blank_order).left ≤ x → taken j x (map order_of os) ≡ map order_of
    (remove os j)
unfolding taken
taken_all [] j x h l = absurd (omega arith)
taken_all (o ∷ os) zero x h l = rw (le-leb _ _ l)
taken_all (o ∷ os) (suc j) x h l = ap (λ rs. order_of o ∷ rs) (taken_all os j x (le_of_suc-le-suc h) l)

pub taken_some : (os : List Order) (j x : ℕ) (r : Order) → j < length os → x < (get_or os j blank_order).left → order_of r ≡ less_left
    (order_of (get_or os j blank_order)) x →
    taken j x (map order_of os) ≡ map order_of (set os j r)
unfolding taken
taken_some [] j x r h l e = absurd (omega arith)
taken_some (o ∷ os) zero x r h l e = rw (lt-leb _ _ l) (ap (λ q. q ∷ map order_of os) (sym e))
taken_some (o ∷ os) (suc j) x r h l e = ap (λ rs. order_of o ∷ rs) (taken_some os j x r (le_of_suc-le-suc h) l e)

-- the best of the orders from place i on, by the best of those behind it, in place `at` or past the end
best_more : (o : world.Order) (os : List world.Order) (i at : ℕ) → i < length os → at ≤ length os → at ≡ suc i + best o (drop (suc i) os) →
    best o (drop i os) ≡ pick (meets o (get_or os i world.no_order)
    && not (ltb at (length os) && better o (get_or os at world.no_order).price (get_or os i world.no_order).price)) 0 (at - i)
unfolding best
best_more o os i at h le e =
    let rs = drop (suc i) os in
    let r = get_or os i world.no_order in
    let n : length (drop (suc i) os) + suc i ≡ length os = simp length-drop (omega arith) in
    let b : ltb (best o (drop (suc i) os)) (length (drop (suc i) os)) ≡ ltb at (length os) = grind (arith, nat_tests) in
    let q : get_or (drop (suc i) os) (best o (drop (suc i) os)) world.no_order ≡ get_or os at world.no_order = rw (get_or-drop, ← e) in
    let g : suc (best o (drop (suc i) os)) ≡ at - i = omega arith in
    rw (drop-cons os i world.no_order, b, q, g) (sooner (meets o (get_or os i world.no_order))
    (ltb at (length os) && better o (get_or os at world.no_order).price (get_or os i world.no_order).price) 0 (at - i))

-- the best of the orders from place i on, if one of them is met
pub record IsBest (o : world.Order) (os : List world.Order) (i : ℕ) (at : Option ℕ) : Type 0 where
  pub is : unwrap_or at (length os) ≡ i + best o (drop i os)
  pub inside : MatchOption at (Unit {0}) (λ j. j < length os)

pub best_none : (o : world.Order) (os : List world.Order) (i : ℕ) → i ≡ length os → IsBest o os i None
unfolding best
best_none o os i h = let l : length os ≤ i = omega arith in record { is = rw drop_all (omega arith); inside = tt }

and_true : (b : Bool) → b ≡ (b && true)
and_true true = refl
and_true false = refl

-- the test, with the number of orders in place of none
first_is : (o : world.Order) (os : List world.Order) (i : ℕ) (at : Option ℕ) → MatchOption at (Unit {0}) (λ j. j < length os) →
    first_of o os i at ≡ (meets o (get_or os i world.no_order)
    && not (ltb (unwrap_or at (length os)) (length os)
    && better o (get_or os (unwrap_or at (length os)) world.no_order).price (get_or os i world.no_order).price))
unfolding first_of
first_is o os i None h = rw (le-ltb (length os) (length os) (omega arith)) (and_true (meets o (get_or os i world.no_order)))
first_is o os i (Some j) h = rw (lt-ltb j (length os) h)

within : {n : ℕ} (at : Option ℕ) → MatchOption at (Unit {0}) (λ j. j < n) → unwrap_or at n ≤ n
within None h = omega arith
within (Some j) h = omega (arith, h)

module _ (o : world.Order) (os : List world.Order) (i : ℕ) (at : Option ℕ) (h : i < length os) (b : IsBest o os (suc i) at) where
  by_test : best o (drop i os) ≡ pick (first_of o os i at) 0 (unwrap_or at (length os) - i)
  by_test = rw (first_is o os i at b.inside) (best_more o os i (unwrap_or at (length os)) h (within at b.inside) b.is)

  pub best_takes : first_of o os i at ≡ true → IsBest o os i (Some i)
  best_takes e = let t = rw e at by_test in record { is = omega arith; inside = h }

  pub best_keeps : first_of o os i at ≡ false → IsBest o os i at
  best_keeps e = let t = rw e at by_test in let u = b.is in record { is = omega arith; inside = b.inside }

drop_nothing : {A : Type 0} (xs : List A) → drop 0 xs ≡ xs
drop_nothing [] = refl
drop_nothing (x ∷ xs) = refl

pub best_nowhere : (o : world.Order) (os : List world.Order) → IsBest o os 0 None → length os ≤ best o os
best_nowhere o os b = let e = ap (best o) (drop_nothing os) in let f = b.is in omega arith

pub best_there : (o : world.Order) (os : List world.Order) (j : ℕ) → IsBest o os 0 (Some j) → j ≡ best o os
best_there o os j b = let e = ap (best o) (drop_nothing os) in let f = b.is in omega arith
