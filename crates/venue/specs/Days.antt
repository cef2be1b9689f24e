-- Worked days, four of them by a letter and three by what they show: items of price 100 and band 10. What is said, what is reported, and what is there at the end. Assumes nothing: these are definitions.
use Rattle.std.specs.Prelude.{◌≡◌, true, false, [], ◌∷◌, pos, negsuc}
use Rattle.venue.specs.World.{begin_day, buy, done, end_day, no, pay_in, pay_out, place, sell, torn, trade}
use Rattle.venue.specs.Day.{Day, Outcome, one_item, outcomes, two_items}

-- 0 buys 5 at 102, 1 sells 3 at 101: they trade 3 at 102, the price of the order that stood.
-- 0 pays 3 times 2 and has 94; it holds 3 (30 if the price falls) and 2 stand to be bought (12 each): it needs 54. 1 has 106, owes 3, needs 30
unfoldable pub day_a : Day × Outcome
day_a = (
  record {
    items = one_item;
    accounts = 2;
    messages = pay_in 0 100 ∷ pay_in 1 100 ∷ begin_day ∷ place 0 0 buy 102 5 ∷ place 1 0 sell 101 3 ∷ [];
  },
  record {
    told = (done 0 ∷ []) ∷ (done 0 ∷ []) ∷ (done 0 ∷ []) ∷ (done 1 ∷ []) ∷ (done 2 ∷ trade 2 1 0 102 3 ∷ []) ∷ [];
    trading = true;
    standing = (1, 2) ∷ [];
    accounts = record { money = pos 94; holds = pos 3 ∷ []; needs = pos 54 } ∷ record { money = pos 106; holds = negsuc 2 ∷ []; needs = pos 30 } ∷ [];
  },
)

-- the best price first, and of equal prices the order that came first: 2 buys 5 at 103 and gets 2 of order 2 and 3 of order 3, both at 102.
-- 2 pays 5 times 2: 490, and needs 50. 1 gets 4: 504, owes 2 and needs 20. 0 gets 6: 506; it owes 3 (30), sells 2 at 103 (7 each) and 1 at 102 (8):
-- it needs 52
unfoldable pub day_b : Day × Outcome
day_b = (
  record {
    items = one_item;
    accounts = 3;
    messages = pay_in 0 500 ∷ pay_in 1 500 ∷ pay_in 2 500 ∷ begin_day
        ∷ place 0 0 sell 103 2 ∷ place 1 0 sell 102 2 ∷ place 0 0 sell 102 4 ∷ place 2 0 buy 103 5 ∷ [];
  },
  record {
    told = (done 0 ∷ []) ∷ (done 0 ∷ []) ∷ (done 0 ∷ []) ∷ (done 0 ∷ [])
        ∷ (done 1 ∷ []) ∷ (done 2 ∷ []) ∷ (done 3 ∷ []) ∷ (done 4 ∷ trade 4 2 0 102 2 ∷ trade 4 3 0 102 3 ∷ []) ∷ [];
    trading = true;
    standing = (1, 2) ∷ (3, 1) ∷ [];
    accounts = record { money = pos 506; holds = negsuc 2 ∷ []; needs = pos 52 } ∷ record { money = pos 504; holds = negsuc 1 ∷ []; needs = pos 20 }
        ∷ record { money = pos 490; holds = pos 5 ∷ []; needs = pos 50 } ∷ [];
  },
)

-- 10 bought at 100 need all of 100, so one more is refused; 10 sold need no more than that, since not both can lose; the account trades with itself,
-- and may then take out 1
unfoldable pub day_c : Day × Outcome
day_c = (
  record {
    items = one_item;
    accounts = 1;
    messages = pay_in 0 100 ∷ begin_day ∷ place 0 0 buy 100 10 ∷ place 0 0 buy 100 1 ∷ place 0 0 sell 100 10 ∷ pay_out 0 1 ∷ [];
  },
  record {
    told = (done 0 ∷ []) ∷ (done 0 ∷ []) ∷ (done 1 ∷ []) ∷ (no ∷ []) ∷ (done 2 ∷ trade 2 1 0 100 10 ∷ []) ∷ (done 0 ∷ []) ∷ [];
    trading = true;
    standing = [];
    accounts = record { money = pos 99; holds = pos 0 ∷ []; needs = pos 0 } ∷ [];
  },
)

-- two mornings: 0 comes to hold 1 and 1 to hold 2, 2 owes 2 and 3 owes 3, and 4 holds 2. The price falls by 9 and the band grows to 30, so 0 and 1 have
-- just 1 and 2 left and need 30 and 60. 0 is torn up against 2, and then 1 against what 2 still owes, and against 3. Account 3, with 67, needed 90 when the
-- morning began, but at its turn owes just 2 and is covered
unfoldable pub day_of_turns : Day × Outcome
day_of_turns = (
  record {
    items = one_item;
    accounts = 5;
    messages = pay_in 0 10 ∷ pay_in 1 20 ∷ pay_in 2 500 ∷ pay_in 3 40 ∷ pay_in 4 500 ∷ begin_day
        ∷ place 2 0 sell 100 2 ∷ place 3 0 sell 100 3 ∷ place 0 0 buy 100 1 ∷ place 1 0 buy 100 2 ∷ place 4 0 buy 100 2
        ∷ end_day (91 ∷ []) (30 ∷ []) ∷ begin_day ∷ [];
  },
  record {
    told = (done 0 ∷ []) ∷ (done 0 ∷ []) ∷ (done 0 ∷ []) ∷ (done 0 ∷ []) ∷ (done 0 ∷ []) ∷ (done 0 ∷ [])
        ∷ (done 1 ∷ []) ∷ (done 2 ∷ []) ∷ (done 3 ∷ trade 3 1 0 100 1 ∷ []) ∷ (done 4 ∷ trade 4 1 0 100 1 ∷ trade 4 2 0 100 1 ∷ [])
        ∷ (done 5 ∷ trade 5 2 0 100 2 ∷ []) ∷ (done 0 ∷ [])
        ∷ (done 0 ∷ torn 0 2 0 (pos 1) ∷ torn 1 2 0 (pos 1) ∷ torn 1 3 0 (pos 1) ∷ []) ∷ [];
    trading = true;
    standing = [];
    accounts = record { money = pos 1; holds = pos 0 ∷ []; needs = pos 0 } ∷ record { money = pos 2; holds = pos 0 ∷ []; needs = pos 0 }
        ∷ record { money = pos 518; holds = pos 0 ∷ []; needs = pos 0 } ∷ record { money = pos 67; holds = negsuc 1 ∷ []; needs = pos 60 }
        ∷ record { money = pos 482; holds = pos 2 ∷ []; needs = pos 60 } ∷ [];
  },
)

-- nothing is paid in, so nothing can be bought; a price outside the band is refused, one at its end is taken
unfoldable pub day_e : Day × Outcome
day_e = (
  record {
    items = one_item;
    accounts = 1;
    messages = begin_day ∷ place 0 0 buy 100 1 ∷ end_day (111 ∷ []) (10 ∷ []) ∷ end_day (110 ∷ []) (10 ∷ []) ∷ [];
  },
  record {
    told = (done 0 ∷ []) ∷ (no ∷ []) ∷ (no ∷ []) ∷ (done 0 ∷ []) ∷ [];
    trading = false;
    standing = [];
    accounts = record { money = pos 0; holds = pos 0 ∷ []; needs = pos 0 } ∷ [];
  },
)

-- what may be gained in one item is not counted against what may be lost in another: 1 bought and 1 sold need 20, and 0 has 19
unfoldable pub day_of_two_items : Day × Outcome
day_of_two_items = (
  record { items = two_items; accounts = 1; messages = pay_in 0 19 ∷ begin_day ∷ place 0 0 buy 100 1 ∷ place 0 1 sell 100 1 ∷ [] },
  record {
    told = (done 0 ∷ []) ∷ (done 0 ∷ []) ∷ (done 1 ∷ []) ∷ (no ∷ []) ∷ [];
    trading = true;
    standing = (1, 1) ∷ [];
    accounts = record { money = pos 19; holds = pos 0 ∷ pos 0 ∷ []; needs = pos 10 } ∷ [];
  },
)

-- as day A, and then account 0 asks for 41: it has 94 and needs 54, so it is refused
unfoldable pub day_of_payment : Day × Outcome
day_of_payment = (
  record {
    items = one_item;
    accounts = 2;
    messages = pay_in 0 100 ∷ pay_in 1 100 ∷ begin_day ∷ place 0 0 buy 102 5 ∷ place 1 0 sell 101 3 ∷ pay_out 0 41 ∷ [];
  },
  record {
    told = (done 0 ∷ []) ∷ (done 0 ∷ []) ∷ (done 0 ∷ []) ∷ (done 1 ∷ []) ∷ (done 2 ∷ trade 2 1 0 102 3 ∷ []) ∷ (no ∷ []) ∷ [];
    trading = true;
    standing = (1, 2) ∷ [];
    accounts = record { money = pos 94; holds = pos 3 ∷ []; needs = pos 54 } ∷ record { money = pos 106; holds = negsuc 2 ∷ []; needs = pos 30 } ∷ [];
  },
)

-- all days end as they should
unfoldable pub WorkedDays : Type 0
WorkedDays =
    outcomes (day_a.0 ∷ day_b.0 ∷ day_c.0 ∷ day_of_turns.0 ∷ day_e.0 ∷ day_of_two_items.0 ∷ day_of_payment.0 ∷ [])
    ≡ (day_a.1 ∷ day_b.1 ∷ day_c.1 ∷ day_of_turns.1 ∷ day_e.1 ∷ day_of_two_items.1 ∷ day_of_payment.1 ∷ [])
