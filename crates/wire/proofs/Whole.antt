-- What is read whole at a place, and by which test.
use Rattle.std.proofs.Common.{◌≡◌, ℕ, ◌+◌, ◌<◌, ◌≤◌, Bool, true, false, List, ◌∷◌, ◌++◌, length, get_or, take, drop, Some, Option, refl, subst, ⊎_elim, arith}
use Rattle.std.proofs.ByRecursion.{All-get_or}
use Rattle.std.proofs.lemmas.List.{drop_at, get_or_past, take_at}
use Rattle.std.proofs.lemmas.Bool.{cases_lt, le-leb}
use Rattle.std.proofs.lemmas.Bool.Decides.{nat_tests}
use Rattle.std.specs.List.{AllByRecursion}
use Rattle.venue.specs.World.{pick}
use Rattle.wire.specs.Messages.{whole}
use Rattle.wire.specs.Field.{Bytes, Holds}
use Rattle.wire.proofs.Places.{held}

-- the byte in front, and what stands behind it
pub first : (bs : List ℕ) (i x : ℕ) (xs : List ℕ) → Holds bs i (x ∷ xs) → get_or bs i 0 ≡ x
first bs i x xs h = let z : i + 0 ≡ i = omega arith in rw z at (held bs i 0 (x ∷ xs) (omega arith) h)

pub whole_is : {A : Type 0} (bs : List ℕ) (i k : ℕ) (x : A) → i + k ≤ length bs → whole bs i k x ≡ Some (x, k)
whole_is bs i k x l = let e = le-leb (i + k) (length bs) l in rw e

pub stands : (before xs rest : List ℕ) → Holds (before ++ (xs ++ rest)) (length before) xs
stands before xs rest = rw (drop_at before (xs ++ rest) (length before) refl) (take_at xs rest (length xs) refl)

pub all_bytes : (bs : List ℕ) → AllByRecursion (λ b. b < 256) bs → Bytes bs
all_bytes bs a k =
    ⊎_elim
    (λ (l : k < length bs). All-get_or (λ b. b < 256) bs k 0 l a)
    (λ (l : length bs ≤ k). let e = get_or_past bs k 0 l in omega arith)
    (cases_lt k (length bs))

-- either way of a test
pub by_pick : {A G : Type 0} (t : Bool) (x y o : A) → pick t x y ≡ o → (t ≡ true → x ≡ o → G) → (t ≡ false → y ≡ o → G) → G
by_pick true x y o e f g = f refl e
by_pick false x y o e f g = g refl e

-- what is whole has so many bytes
pub whole_tells : {A : Type 0} (bs : List ℕ) (i k : ℕ) (x m : A) (j : ℕ) → whole bs i k x ≡ Some (m, j) → (i + k ≤ length bs) × (x ≡ m) × (k ≡ j)
whole_tells bs i k x m j e = (grind (arith, nat_tests), grind (arith, nat_tests), grind (arith, nat_tests))

pub cut : (bs : List ℕ) (i k : ℕ) (xs : List ℕ) → length xs ≡ k → Holds bs i xs → take k (drop i bs) ≡ xs
cut bs i k xs e h = rw e at h

-- what holds of it where it is whole holds of what is read
pub known : {A : Type 0} (P : A → ℕ → Type 0) (bs : List ℕ) (i k : ℕ) (x m : A) (j : ℕ) → whole bs i k x ≡ Some (m, j) →
    (i + k ≤ length bs → P x k) → P m j
known P bs i k x m j e f =
    let t = whole_tells bs i k x m j e in
    subst (λ y. P y j) t.1 (subst (λ (l : ℕ). P x l) t.2 (f t.0))

-- the parts of what was found
pub some_pair : {A : Type 0} (x y : A) (m n : ℕ) → ◌≡◌ {A = Option (A × ℕ)} (Some (x, m)) (Some (y, n)) → (x ≡ y) × (m ≡ n)
some_pair x y m n e = (grind arith, grind arith)
