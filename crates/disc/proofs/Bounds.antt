-- The bounds of numbers that are in range.
use Rattle.std.proofs.Common.{◌≡◌, ℕ, ◌≤◌, true, length, arith}
use Rattle.std.proofs.lemmas.Bool.{and_parts}
use Rattle.std.proofs.lemmas.Bool.Decides.{nat_tests}
use Rattle.disc.specs.Numbers.{Numbers, in_range, counts_fit, items_fit}

pub record Bounds (n a o m : ℕ) : Type 0 where
  pub some_items : 1 ≤ n
  pub few_items : n ≤ 256
  pub some_accounts : 1 ≤ a
  pub few_accounts : a ≤ 4096
  pub some_orders : 1 ≤ o
  pub few_orders : o ≤ 65536
  pub little_money : m ≤ 1125899906842624

pub counts_bound : (n a o m : ℕ) → counts_fit n a o m ≡ true → Bounds n a o m
counts_bound n a o m e =
    record {
      some_items = grind (arith, nat_tests);
      few_items = grind (arith, nat_tests);
      some_accounts = grind (arith, nat_tests);
      few_accounts = grind (arith, nat_tests);
      some_orders = grind (arith, nat_tests);
      few_orders = grind (arith, nat_tests);
      little_money = grind (arith, nat_tests);
    }

pub bounds : (n : Numbers) → in_range n ≡ true → Bounds (length n.items) n.accounts n.orders n.money
bounds n e =
    counts_bound (length n.items) n.accounts n.orders n.money
    (and_parts (counts_fit (length n.items) n.accounts n.orders n.money) (items_fit n.items) e).0
