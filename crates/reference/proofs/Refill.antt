-- A row that is written over from its front: the first k elements are new, the others old.
use Rattle.std.proofs.Common.{◌≡◌, ℕ, zero, suc, ◌+◌, ◌<◌, List, [], ◌∷◌, ◌++◌, map, length, get_or, take, drop, set, refl, ap, ◌∙◌, le_of_suc-le-suc, add-one, arith}
use Rattle.std.proofs.lemmas.List.{map-set, take-append-le, take_all}

abbrev pub refilled : {A : Type 0} → List A → List A → ℕ → List A
refilled new old k = take k new ++ drop k old

module _ {A : Type 0} where
  pub refill_none : (new old : List A) → old ≡ refilled new old 0
  refill_none [] [] = refl
  refill_none [] (y ∷ ys) = refl
  refill_none (x ∷ xs) [] = refl
  refill_none (x ∷ xs) (y ∷ ys) = refl

  pub refill_more : (new old : List A) (k : ℕ) (d : A) → length new ≡ length old → k < length old →
      set (refilled new old k) k (get_or new k d) ≡ refilled new old (suc k)
  refill_more [] [] k d e h = absurd (omega arith)
  refill_more [] (y ∷ ys) k d e h = absurd (omega arith)
  refill_more (x ∷ xs) [] k d e h = absurd (omega arith)
  refill_more (x ∷ xs) (y ∷ ys) zero d e h = ap (λ zs. x ∷ zs) (refill_none xs ys)
  refill_more (x ∷ xs) (y ∷ ys) (suc k) d e h = ap (λ zs. x ∷ zs) (refill_more xs ys k d (omega arith) (le_of_suc-le-suc h))

  pub refill_old : (new old : List A) (k : ℕ) (d : A) → length new ≡ length old → k < length old → get_or (refilled new old k) k d ≡ get_or old k d
  refill_old [] [] k d e h = absurd (omega arith)
  refill_old [] (y ∷ ys) k d e h = absurd (omega arith)
  refill_old (x ∷ xs) [] k d e h = absurd (omega arith)
  refill_old (x ∷ xs) (y ∷ ys) zero d e h = refl
  refill_old (x ∷ xs) (y ∷ ys) (suc k) d e h = refill_old xs ys k d (omega arith) (le_of_suc-le-suc h)

  pub refill_all : (new old : List A) (k : ℕ) → length new ≡ length old → length old ≡ k → refilled new old k ≡ new
  refill_all [] [] zero e h = refl
  refill_all [] [] (suc k) e h = absurd (omega arith)
  refill_all [] (y ∷ ys) k e h = absurd (omega arith)
  refill_all (x ∷ xs) [] k e h = absurd (omega arith)
  refill_all (x ∷ xs) (y ∷ ys) zero e h = absurd (omega arith)
  refill_all (x ∷ xs) (y ∷ ys) (suc k) e h = ap (λ zs. x ∷ zs) (refill_all xs ys k (omega arith) (omega arith))

-- a whole row that was written
pub written : {A : Type 0} (n : ℕ) (xs zs : List A) → length xs ≡ n → take n (xs ++ zs) ≡ xs
written n xs zs e = take-append-le n xs zs (omega arith) ∙ take_all n xs (omega arith)

-- one turn of a loop that writes over a row: xs stands for the row by f
pub refill_step : {X Y : Type 0} (f : X → Y) (xs : List X) (new old : List Y) (k : ℕ) (x : X) (d : Y) → map f xs ≡ refilled new old k →
    length new ≡ length old → k < length old → f x ≡ get_or new k d → map f (set xs k x) ≡ refilled new old (k + 1)
refill_step f xs new old k x d inv e h is =
    rw (add-one, ← refill_more new old k d e h, ← is, ← inv) (map-set f xs k x)
