-- Rows of equal length, one behind another: how long they are together, and what stands where.
use Rattle.std.proofs.Common.{◌≡◌, ℕ, zero, suc, ◌+◌, ◌-◌, ◌*◌, ◌/◌, ◌%◌, ◌<◌, ◌≤◌, List, [], ◌∷◌, ◌++◌, length, get_or, sym, ap, ◌∙◌, mod-lt, div-lt_iff_lt-mul, arith, length-append}
use native.Mathlib.Nat.{mod-add-div}
use Rattle.std.specs.List.{flat_map, AllByRecursion}
use Rattle.std.proofs.lemmas.List.{get_or_append_left, get_or-append_right}

module _ {X : Type 0} (f : X → List ℕ) (w : ℕ) where
  abbrev pub EvenRows : List X → Type 0
  EvenRows xs = AllByRecursion (λ (x : X). length (f x) ≡ w) xs

  pub length_joined : (xs : List X) → EvenRows xs → length (flat_map f xs) ≡ length xs * w
  length_joined [] h = omega arith
  length_joined (x ∷ xs) h =
      let r = length_joined xs h.1 in
      let a : suc (length xs) * w ≡ w + length xs * w = omega arith in
      length-append (f x) (flat_map f xs) ∙ ap (λ (n : ℕ). n + length (flat_map f xs)) h.0 ∙ ap (λ (n : ℕ). w + n) r ∙ sym a

  -- place j of row a
  pub get_or_joined :
      (xs : List X) (a j : ℕ) (d : X) → EvenRows xs → a < length xs → j < w →
      get_or (flat_map f xs) (a * w + j) 0 ≡ get_or (f (get_or xs a d)) j 0
  get_or_joined [] a j d h l g = absurd (omega arith)
  get_or_joined (x ∷ xs) zero j d h l g =
      let e : 0 * w + j ≡ j = omega arith in
      let long = h.0 in
      ap (λ (i : ℕ). get_or (f x ++ flat_map f xs) i 0) e ∙ get_or_append_left (f x) (flat_map f xs) 0 j (omega arith)
  get_or_joined (x ∷ xs) (suc a) j d h l g =
      let e : suc a * w + j ≡ w + (a * w + j) = omega arith in
      ap (λ (i : ℕ). get_or (f x ++ flat_map f xs) i 0) e
      ∙ get_or-append_right (f x) (flat_map f xs) w (w + (a * w + j)) 0 h.0 (omega arith)
      ∙ ap (λ (i : ℕ). get_or (flat_map f xs) i 0) (minus (a * w + j))
      ∙ get_or_joined xs a j d h.1 (omega arith) g
    where
      minus : (n : ℕ) → (w + n) - w ≡ n
      minus n = omega arith

  -- the same by the place alone
  pub get_or_row :
      (xs : List X) (y : ℕ) (d : X) → 1 ≤ w → EvenRows xs → y < length xs * w →
      get_or (flat_map f xs) y 0 ≡ get_or (f (get_or xs (y / w) d)) (y % w) 0
  get_or_row xs y d o h l =
      let e = mod-add-div y w in
      let s : y ≡ (y / w) * w + y % w = omega arith in
      ap (λ (i : ℕ). get_or (flat_map f xs) i 0) s
      ∙ get_or_joined xs (y / w) (y % w) d h ((div-lt_iff_lt-mul o).1 l) (mod-lt y {m = w} o)
