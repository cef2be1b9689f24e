-- Parts of what a message does, as the program's functions name them. Assumes nothing: these are definitions.
use Rattle.std.specs.Prelude.{ℕ, suc, ◌+◌, ◌-◌, ◌*◌, Bool, not, ◌&&◌, List, [], ◌∷◌, ◌++◌, length, slice_index_or, ℤ, neg_ℤ, Some, None, Option, ◌==◌, nat_le, nat_lt}
use Rattle.venue.specs.World as world

-- what one order adds to an account's `buys` and `sells` in an item
unfoldable pub buy_loss : ℕ → ℕ → world.Item → world.Order → ℕ
buy_loss a k i o =
    world.pick (o.account == a && (o.item == k && world.is_buy o.side)) (o.left * ((o.price + i.band) - i.price)) 0

unfoldable pub sell_loss : ℕ → ℕ → world.Item → world.Order → ℕ
sell_loss a k i o =
    world.pick (o.account == a && (o.item == k && not (world.is_buy o.side))) (o.left * ((i.price + i.band) - o.price)) 0

-- what a message does after reports that were made before
unfoldable pub after : List world.Report → world.World × List world.Report → world.World × List world.Report
after rs p = (p.0, rs ++ p.1)

-- an order meets those that stand
unfoldable pub filled : world.World → world.Order → world.World × List world.Report
filled w o = world.matched (suc (length w.orders)) w o

-- what is reported of a message that places no order and trades nothing
abbrev pub answer : Bool → List world.Report
answer taken = world.pick taken (world.done 0 ∷ []) (world.no ∷ [])

-- where the account's order with that number stands, if it does
unfoldable pub found : ℕ → ℕ → List world.Order → Option ℕ
found a n os = world.pick (nat_lt (world.number_at a n os) (length os)) (Some (world.number_at a n os)) None

-- whether an order trades with the one in place i sooner than with the best behind it, in place j, if there is one
unfoldable pub first_of : world.Order → List world.Order → ℕ → Option ℕ → Bool
first_of o os i None = world.meets o (slice_index_or os i world.no_order)
first_of o os i (Some j) =
    world.meets o (slice_index_or os i world.no_order)
    && not (world.better o (slice_index_or os j world.no_order).price (slice_index_or os i world.no_order).price)

-- what a place asks but for what the account comes to hold and can lose
abbrev pub well_formed : world.Limits → world.World → ℕ → ℕ → ℕ → ℕ → Bool
well_formed z w a k p q =
    (w.trading && (nat_lt a (length w.accounts) && nat_lt k (length w.items))) &&
    (((nat_le 1 q && nat_le q 1000000) && (nat_le (world.item w k).price (p + (world.item w k).band) && nat_le p ((world.item w k).price + (world.item w k).band)))
    &&
    (nat_lt (length w.orders) z.orders && nat_lt w.next 9223372036854775808))

-- how much of item k is torn up between accounts a and b, with a's sign
abbrev pub amount : world.World → ℕ → ℕ → ℕ → ℤ
amount w a b k =
    world.signed (world.held (world.account w a) k) (world.lesser (world.abs (world.held (world.account w a) k))
    (world.abs (world.held (world.account w b) k)))

-- account a's holding of item k is torn up against b's, if that goes the other way
unfoldable pub torn_one : world.World → ℕ → ℕ → ℕ → world.World × List world.Report
torn_one w a b k =
    world.pick (world.opposite (world.held (world.account w a) k) (world.held (world.account w b) k)) (
      world.gets (world.gets w a k (neg_ℤ (amount w a b k)) (world.item w k).price) b k (amount w a b k) (world.item w k).price,
      world.torn a b k (amount w a b k) ∷ [],
    )
    (w, [])

-- account a is torn up if its money does not cover what it can lose
unfoldable pub torn_account : world.World → ℕ → world.World × List world.Report
torn_account w a = world.pick (world.covered w a w.orders) (w, []) (world.tear_items (length w.items) 0 a w)
