-- What one more order adds to each sum over the orders, and one more item to a need.
use Rattle.std.proofs.Common.{◌≡◌, ℕ, ◌+◌, ◌<◌, ◌≤◌, ◌&&◌, eqb, List, map, length, get_or, drop, pos, ◌+ℤ◌, add-one, drop-cons}
use Rattle.std.proofs.lemmas.List.{drop_all}
use Rattle.venue.specs.World as world
use Rattle.venue.specs.World.{need_from, need_in, held, pick, standing, buys, sells}
use Rattle.wire.specs.Means.{item_of}
use Rattle.wire.specs.declared.item.Item.{Item}
use Rattle.reference.specs.Means.{order_of}
use Rattle.reference.specs.Parts.{buy_loss, sell_loss}
use Rattle.reference.specs.declared.market.Order.{Order}
use Rattle.reference.proofs.Places.{blank_order}

module _ (a k : ℕ) (os : List Order) (i : ℕ) (h : i < length os) where
  pub standing_more : standing a k (map order_of (drop i os)) ≡
      pick (eqb (get_or os i blank_order).account a && eqb (get_or os i blank_order).item k) (get_or os i blank_order).left 0
      + standing a k (map order_of (drop (i + 1) os))
  unfolding standing
  standing_more = rw (add-one, drop-cons os i blank_order)

  pub buys_more : (it : world.Item) → buys a k it (map order_of (drop i os)) ≡
      buy_loss a k it (order_of (get_or os i blank_order)) + buys a k it (map order_of (drop (i + 1) os))
  unfolding buys buy_loss
  buys_more it = rw (add-one, drop-cons os i blank_order)

  pub sells_more : (it : world.Item) → sells a k it (map order_of (drop i os)) ≡
      sell_loss a k it (order_of (get_or os i blank_order)) + sells a k it (map order_of (drop (i + 1) os))
  unfolding sells sell_loss
  sells_more it = rw (add-one, drop-cons os i blank_order)

pub need_more : (a : ℕ) (is : List Item) (k : ℕ) (x : world.Account) (os : List world.Order) (d : Item) → k < length is →
    need_from a k (map item_of (drop k is)) x os ≡
    need_in a k (item_of (get_or is k d)) (held x k) os +ℤ need_from a (k + 1) (map item_of (drop (k + 1) is)) x os
unfolding need_from
need_more a is k x os d h = rw (add-one, drop-cons is k d)

pub need_none : (a : ℕ) (is : List Item) (k : ℕ) (x : world.Account) (os : List world.Order) → length is ≤ k →
    need_from a k (map item_of (drop k is)) x os ≡ pos 0
unfolding need_from
need_none a is k x os h = rw drop_all
