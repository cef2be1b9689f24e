-- How large a market and its limits may be for machine numbers to suffice. Assumes nothing: these are definitions.
use Rattle.std.specs.Prelude.{◌≡◌, ◌≤◌, length}
use Rattle.venue.specs.World.{Limits, World}

-- limits on what machine numbers can hold
pub record Small (z : Limits) : Type 0 where
  pub orders : z.orders ≤ 65536
  pub money : z.money ≤ 1125899906842624
  pub holding : z.holding ≡ 2147483648

pub record Sized (z : Limits) (w : World) : Type 0 where
  pub some_items : 1 ≤ length w.items
  pub few_items : length w.items ≤ 256
  pub some_accounts : 1 ≤ length w.accounts
  pub few_accounts : length w.accounts ≤ 4096
  pub some_orders : 1 ≤ z.orders
  pub few_orders : z.orders ≤ 65536
  pub money : z.money ≤ 1125899906842624
  pub holding : z.holding ≡ 2147483648
