-- Writes of whole blocks: the number of a block and what it then holds. Assumes nothing: these are definitions.
use Rattle.std.specs.Prelude.{◌≡◌, ℕ, suc, ◌<◌, true, ◌≢◌, List, [], ◌∷◌, slice_index_or}
use Rattle.std.specs.List.{AllByRecursion}
use Rattle.blocks.specs.Disc.{Disc, is_block}

abbrev pub Write : Type 0
Write = ℕ × List ℕ

-- the writes of blocks one behind another, from block p on
unfoldable pub listed : ℕ → Disc → List Write
listed p [] = []
listed p (b ∷ bs) = (p, b) ∷ listed (suc p) bs

-- which blocks are written, in their order
unfoldable pub places : List Write → List ℕ
places [] = []
places (w ∷ ws) = w.0 ∷ places ws

-- the writes of these blocks, with what they hold on a disc
unfoldable pub copies : Disc → List ℕ → List Write
copies d [] = []
copies d (i ∷ is) = (i, slice_index_or d i []) ∷ copies d is

-- all writes are of blocks of a kind
abbrev pub AllAt : (ℕ → Type 0) → List Write → Type 0
AllAt Q ws = AllByRecursion (λ (w : Write). Q w.0) ws

-- each is of 512 bytes
abbrev pub Whole : List Write → Type 0
Whole ws = AllByRecursion (λ (w : Write). is_block w.1 ≡ true) ws

-- no block is written twice
unfoldable pub Once : List Write → Type 0
Once [] = Unit {0}
Once (w ∷ ws) = AllAt (λ (i : ℕ). w.0 ≢ i) ws × Once ws

-- whole blocks that lie on a disc of n blocks, each at most once
pub record Proper (n : ℕ) (ws : List Write) : Type 0 where
  pub inside : AllAt (λ (i : ℕ). i < n) ws
  pub once : Once ws
  pub whole : Whole ws
