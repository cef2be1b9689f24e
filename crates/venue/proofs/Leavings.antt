-- What a trade leaves of the standing orders.
use Rattle.std.proofs.Common.{◌≡◌, ℕ, suc, ◌<◌, ◌≤◌, List, ◌∷◌, ◌++◌, length, get_or, take, drop, rules}
use Rattle.venue.specs.Placing.{TakenLeaves}
use Rattle.venue.specs.World.{Order, less_left, no_order, taken}

part_left : (j x : ℕ) (os : List Order) → j < length os → x < (get_or os j no_order).left →
    taken j x os ≡ take j os ++ less_left (get_or os j no_order) x ∷ drop (suc j) os
unfolding taken
part_left (suc j) x (o ∷ os) h l = search (rules, part_left j x os)
part_left j x os h l = search rules

none_left : (j x : ℕ) (os : List Order) → j < length os → (get_or os j no_order).left ≤ x → taken j x os ≡ take j os ++ drop (suc j) os
unfolding taken
none_left (suc j) x (o ∷ os) h l = search (rules, none_left j x os)
none_left j x os h l = search rules

pub is_left : TakenLeaves
unfolding TakenLeaves less_left
is_left j x os r h e = search (rules, part_left, none_left)
