-- A disc as a row of blocks of 512 bytes, and as its bytes one behind another. Assumes nothing: these are definitions.
use Rattle.std.specs.Prelude.{ℕ, zero, suc, ◌/◌, Bool, ◌&&◌, List, [], ◌∷◌, ◌++◌, length, take, drop, ◌==◌, nat_lt}
use Rattle.venue.specs.Sound.{every}

abbrev pub Disc : Type 0
Disc = List (List ℕ)

-- the bytes of a row of blocks
unfoldable pub glue : Disc → List ℕ
glue [] = []
glue (b ∷ bs) = b ++ glue bs

-- the first n blocks of a row of bytes
unfoldable pub cut : ℕ → List ℕ → Disc
cut zero xs = []
cut (suc n) xs = take 512 xs ∷ cut n (drop 512 xs)

-- the blocks of a disc with these bytes
unfoldable pub blocks : List ℕ → Disc
blocks bs = cut (length bs / 512) bs

-- n blocks, from block p on
unfoldable pub row : Disc → ℕ → ℕ → Disc
row d p n = take n (drop p d)

-- 512 numbers, each below 256
unfoldable pub is_block : List ℕ → Bool
is_block b = length b == 512 && every (λ (x : ℕ). nat_lt x 256) b

-- a row of such blocks
unfoldable pub is_disc : Disc → Bool
is_disc d = every is_block d
