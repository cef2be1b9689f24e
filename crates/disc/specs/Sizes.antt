-- The sizes that a disc says. Assumes nothing: this is a definition.
use Rattle.std.specs.Prelude.{◌≡◌, ℕ, List}
use Rattle.disc.specs.Block0.{accounts_on, items_on, orders_on}
use Rattle.disc.specs.declared.layout.Sizes.{Sizes}

-- the sizes are those in the disc's block 0
pub record AreSizesOn (bs : List ℕ) (s : Sizes) : Type 0 where
  pub items : s.items ≡ items_on bs
  pub accounts : s.accounts ≡ accounts_on bs
  pub orders : s.orders ≡ orders_on bs
