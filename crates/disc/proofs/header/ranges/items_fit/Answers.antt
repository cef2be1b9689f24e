use Rattle.std.proofs.Common.{rules, ◌≡◌, ◌&&◌, List, [], ◌∷◌, map, refl, ap, ◌∙◌}
use Rattle.std.proofs.lemmas.Iterator.{YieldsList-from_slice}
use Rattle.std.proofs.lemmas.Iterator.Search.{all_from_yields_List}
use Rattle.std.specs.List.{list_all}
use borrow.Author.Tests.{tests}
use Rattle.wire.specs.Means.{item_of}
use Rattle.wire.specs.declared.item.Item.{Item}
use Rattle.disc.specs.Numbers.{item_fits, items_fit}
use Rattle.disc.proofs.header.ranges.items_fit.Goals as goal

-- a test of each item is the test of the row
all_fit : (is : List Item) → list_all (λ i. item_fits (item_of i)) is ≡ items_fit (map item_of is)
unfolding items_fit
all_fit [] = refl
all_fit (i ∷ is) = ap (λ b. item_fits (item_of i) && b) (all_fit is)

pub returns : goal.returns
returns c =
    all_from_yields_List (λ i. item_fits (item_of i)) _ _ _ c.all.ensures.ran (YieldsList-from_slice c.args.items.now cc) (λ x b q k. search (rules, tests)) ∙
    all_fit c.args.items.now
