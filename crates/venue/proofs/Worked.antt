-- The worked days, computed.
use Rattle.std.proofs.Common.{refl}
use Rattle.venue.specs.Day.{limits, numbers_left, outcome, outcomes, stands}
use Rattle.venue.specs.Days.{WorkedDays, day_a, day_b, day_c, day_of_turns, day_e, day_of_two_items, day_of_payment}
use Rattle.venue.specs.World.{abs, account, best, better, buys, counted, covered, crosses, first, gain, gets, held, is_buy, item, kind, larger, less_left}
use Rattle.venue.specs.World.{matched, meets, need, need_from, need_in, new_items, new_order, number_at, opposite, other_side, paid, prices_fit, reports}
use Rattle.venue.specs.World.{run, says, says_it, sells, signed, standing, taken, tear, tear_all, tear_items, traded, with_account, with_money, with_orders}
use Rattle.venue.specs.World.{without}

pub is_worked : WorkedDays
unfolding WorkedDays outcomes outcome stands numbers_left limits day_a day_b day_c day_of_turns day_e day_of_two_items day_of_payment reports says says_it run first counted new_order number_at without standing kind account held item gets with_account with_orders with_money traded taken less_left is_buy meets other_side crosses better matched best larger need need_from need_in buys sells tear tear_items tear_all opposite signed abs covered gain paid new_items prices_fit
is_worked = refl
