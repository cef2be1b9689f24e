-- A loop over two rows of one length at once, with the place: where it stands after some turns.
use Rattle.std.proofs.Common.{◌≡◌, ℕ, ◌+◌, ◌<◌, List, length, get_or, Option, Some, None, Bor, Iter, ap, ◌∙◌, arith}
use Rattle.std.proofs.iter.Yields.{fronts}
use Rattle.std.proofs.lemmas.Iterator.{YieldsList, YieldsList-from_slice, YieldsList-from_zip, zips}
use Rattle.std.proofs.lemmas.Iterator.Consumers.{YieldsList-from_enumerate, YieldsList-turn, YieldsList-end}
use Rattle.std.proofs.lemmas.List.FromFn.{get_or-enumerate_from, length-enumerate_from}
use Rattle.std.proofs.lemmas.Slice.Zip.{get_or-zip, length-zip}
use Rattle.std.specs.Iterator.{Yields}
use Rattle.std.specs.Iterator.Adapters.{enumerate_count, enumerate_source, enumerate_steps, zip_first, zip_second}
use Rattle.std.specs.List.{enumerate_from, zip}
use Rattle.std.specs.Slice.Iter.{iter_rest}
use Rattle.std.specs.declared.iter.Enumerate.{Enumerate}
use Rattle.std.specs.declared.iter.Zip.{Zip}

-- x and y stand in place n of the two rows, and k is that place
pub record At {A B : Type 0} (xs : List A) (ys : List B) (n k : ℕ) (x : A) (y : B) : Type 0 where
  pub here : n < length xs
  pub place : k ≡ n
  pub first : x ≡ get_or xs n x
  pub second : y ≡ get_or ys n y

module _ {A B : Type 0} (xs : List A) (ys : List B) (long : length ys ≡ length xs) where
  many : length (enumerate_from 0 (zip xs ys)) ≡ length xs
  many = length-enumerate_from 0 (zip xs ys) ∙ length-zip xs ys ∙ omega arith

  at_pair : (n : ℕ) (p : ℕ × (A × B)) → n < length (enumerate_from 0 (zip xs ys)) → p ≡ get_or (enumerate_from 0 (zip xs ys)) n p →
      At xs ys n p.0 p.1.0 p.1.1
  at_pair n p h e =
      let m = many in
      let l : n < length xs = omega arith in
      let z : n < length (zip xs ys) = omega (arith, length-enumerate_from 0 (zip xs ys)) in
      let q = e ∙ get_or-enumerate_from 0 (zip xs ys) n p z ∙ ap (λ r. (0 + n, r)) (get_or-zip xs ys n p.1 l (omega arith)) in
      record { here = l; place = ap (λ r. r.0) q ∙ omega arith; first = ap (λ r. r.1.0) q; second = ap (λ r. r.1.1) q }

  module _ (s : Enumerate (Zip (Iter A) (Iter B))) (count : enumerate_count s ≡ 0) (first : iter_rest (zip_first (enumerate_source s)) ≡ xs)
      (second : iter_rest (zip_second (enumerate_source s)) ≡ ys) (qs : List (ℕ × (Bor A × Bor B))) (t u : Enumerate (Zip (Iter A) (Iter B)))
      (y : Yields (enumerate_steps (zips fronts fronts)) s qs t) (r : Option (ℕ × (Bor A × Bor B)))
      (step : enumerate_steps (zips fronts fronts) t r u) where
    road : YieldsList {B = ℕ × (A × B)} (enumerate_steps (zips fronts fronts)) (λ p. (p.0, (p.1.0.now, p.1.1.now))) s (enumerate_from 0 (zip xs ys))
    road = YieldsList-from_enumerate (YieldsList-from_zip (YieldsList-from_slice xs first) (YieldsList-from_slice ys second)) count

    pub pair_turn : (k : ℕ) (a : Bor A) (b : Bor B) → r ≡ Some (k, (a, b)) → At xs ys (length qs) k a.now b.now
    pair_turn k a b e =
        let h = YieldsList-turn road qs t y r u (k, (a, b)) e step in
        at_pair (length qs) (k, (a.now, b.now)) h.0 h.1

    pub pair_end : r ≡ None → length qs ≡ length xs
    pair_end e = (YieldsList-end road qs t y r u e step).1 ∙ many
