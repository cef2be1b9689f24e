-- What is said on a day, and what comes of it. Assumes nothing: these are definitions.
use Rattle.std.specs.Prelude.{ℕ, zero, suc, Bool, true, List, [], ◌∷◌, ℤ}
use Rattle.venue.specs.World.{Item, Limits, Message, Order, Report, World, account, first, need, reports, run}

pub record Day : Type 0 where
  pub items : List Item
  pub accounts : ℕ
  pub messages : List Message

-- what an account has at the end: money, what it holds of each item, and what it needs
pub record Stand : Type 0 where
  pub money : ℤ
  pub holds : List ℤ
  pub needs : ℤ

-- the reports of each message, whether there is trading at the end, the numbers of the orders that stand then and what is left of each,
-- and the accounts
pub record Outcome : Type 0 where
  pub told : List (List Report)
  pub trading : Bool
  pub standing : List (ℕ × ℕ)
  pub accounts : List Stand

unfoldable pub limits : Limits
limits = record { orders = 65536; money = 1125899906842624; holding = 2147483648; built = λ k. true }

abbrev pub one_item : List Item
one_item = record { price = 100; band = 10 } ∷ []

abbrev pub two_items : List Item
two_items = record { price = 100; band = 10 } ∷ one_item

unfoldable pub numbers_left : List Order → List (ℕ × ℕ)
numbers_left [] = []
numbers_left (o ∷ os) = (o.number, o.left) ∷ numbers_left os

-- n accounts from a on
unfoldable pub stands : ℕ → ℕ → World → List Stand
stands zero a w = []
stands (suc n) a w =
    record { money = (account w a).cash; holds = (account w a).holds; needs = need w a w.orders } ∷ stands n (suc a) w

unfoldable pub outcome : Day → Outcome
outcome d =
    let w = run limits (first d.items d.accounts) d.messages in
    record {
      told = reports limits (first d.items d.accounts) d.messages;
      trading = w.trading;
      standing = numbers_left w.orders;
      accounts = stands d.accounts 0 w;
    }

unfoldable pub outcomes : List Day → List Outcome
outcomes [] = []
outcomes (d ∷ ds) = outcome d ∷ outcomes ds
