-- Values that lie at a place in bytes. Assumes nothing: these are definitions.
use Rattle.std.specs.Prelude.{◌≡◌, ℕ, ◌+◌, ◌<◌, ◌≤◌, List, length, take, drop, slice_index}

-- the bytes xs stand at place i of bs
abbrev pub Holds : List ℕ → ℕ → List ℕ → Type 0
Holds bs i xs = take (length xs) (drop i bs) ≡ xs

-- each number is a byte
abbrev pub Bytes : List ℕ → Type 0
Bytes bs = (k : ℕ) → slice_index bs k < 256

-- values of n bytes each: where the bytes of one that fits stand it is read; what is read fits, also past the end, where bytes count as 0;
-- and where all its bytes are there, it has the bytes that stand there
pub record FieldLaws {X : Type 0} (n : ℕ) (bytes : X → List ℕ) (at : List ℕ → ℕ → X) (Fits : X → Type 0) : Type 0 where
  pub sized : (x : X) → length (bytes x) ≡ n
  pub back : (bs : List ℕ) (i : ℕ) (x : X) → Fits x → Holds bs i (bytes x) → at bs i ≡ x
  pub fits : (bs : List ℕ) (i : ℕ) → Bytes bs → Fits (at bs i)
  pub only : (bs : List ℕ) (i : ℕ) → Bytes bs → i + n ≤ length bs → Holds bs i (bytes (at bs i)) × Fits (at bs i)
