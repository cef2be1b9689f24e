-- Bytes put behind bytes.
use Rattle.std.proofs.Common.{◌≡◌, List, [], ◌∷◌, ◌++◌, map, flat_map, refl, ap, ◌∙◌, append_assoc}
use Rattle.wire.specs.Means.{item_bytes, item_of}
use Rattle.wire.specs.Number.{four_of}
use Rattle.wire.specs.declared.item.Item.{Item}
use Rattle.disc.specs.New.{items_bytes}

-- a row's bytes are its items' bytes
pub row_bytes : (is : List Item) → flat_map item_bytes is ≡ items_bytes (map item_of is)
unfolding items_bytes
row_bytes [] = refl
row_bytes (i ∷ is) = ap (λ l. item_bytes i ++ l) (row_bytes is) ∙ append_assoc (four_of i.price) (four_of i.band) (items_bytes (map item_of is))
