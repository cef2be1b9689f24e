-- What a setup file says as a whole: a new disc's numbers and its journals' length, or the first fault. Assumes nothing: these are definitions.
use Rattle.std.specs.Prelude.{ℕ, ◌+◌, cond, List, [], ◌∷◌, ◌++◌, map, length, Some, None, Ok, Err, Option, Result, ◌==◌, nat_lt}
use Rattle.venue.specs.World as world
use Rattle.wire.specs.Means.{item_of}
use Rattle.wire.specs.declared.item.Item as item
use Rattle.disc.specs.Few.{few_items}
use Rattle.disc.specs.Layout.{least_journal}
use Rattle.disc.specs.Means.{header_of}
use Rattle.disc.specs.Numbers.{Numbers, in_range, numbers_of}
use Rattle.text.specs.Entries.{entry_of}
use Rattle.text.specs.Words.{before_comment, lines}
use Rattle.text.specs.declared.draft.Draft.{Draft}
use Rattle.text.specs.declared.draft.JournalLength.{JournalLength}
use Rattle.text.specs.declared.entry.Entry.{Entry}
use Rattle.text.specs.declared.entry.Entry.TheVariants.{Nothing, Accounts, Orders, Money, Journal, Item}
use Rattle.text.specs.declared.fault.Fault.{Fault}
use Rattle.text.specs.declared.fault.What.{What}
use Rattle.text.specs.declared.fault.What.TheVariants.{OutOfRange, Twice, Missing, NoItem, TooManyItems}
use Rattle.text.specs.declared.setup.Setup.{Setup}

-- what was said so far, with the line that said the journals' length
pub record Plan : Type 0 where
  pub accounts : Option ℕ
  pub orders : Option ℕ
  pub money : Option ℕ
  pub journal : Option ℕ
  pub journal_line : ℕ
  pub items : List world.Item

-- how many blocks each journal has, if a line said it
abbrev pub journal_of : Option JournalLength → Option ℕ
journal_of None = None
journal_of (Some j) = Some j.blocks

-- the line that said how many blocks each journal has, or 0
abbrev pub journal_line_of : Option JournalLength → ℕ
journal_line_of None = 0
journal_line_of (Some j) = j.line

-- what a draft says
abbrev pub plan_of : Draft → Plan
plan_of d =
    record {
      accounts = d.accounts;
      orders = d.orders;
      money = d.money;
      journal = journal_of d.journal;
      journal_line = journal_line_of d.journal;
      items = map item_of (few_items d.items);
    }

-- the numbers of a draft, with what else was said
abbrev pub planned : Draft → ℕ → ℕ → ℕ → Numbers
planned d a o m = numbers_of (few_items d.items) a o m

-- before the first line
abbrev pub nothing_said : Plan
nothing_said = record { accounts = None; orders = None; money = None; journal = None; journal_line = 0; items = [] }

-- what a step of the reader gives: a fault, or the plan that it left
abbrev pub plan_or_fault : Result (Unit {0}) What → Plan → Result Plan What
plan_or_fault (Ok u) p = Ok p
plan_or_fault (Err w) p = Err w

-- a plan where this was not said before
abbrev pub once : Option ℕ → Plan → Result Plan What
once None p = Ok p
once (Some n) p = Err Twice

-- a plan with one more item, if there is room
unfoldable pub add_item : Plan → item.Item → Result Plan What
add_item p i =
    cond (nat_lt (length p.items) 256)
    (Ok (record { accounts = p.accounts; orders = p.orders; money = p.money; journal = p.journal; journal_line = p.journal_line; items = p.items ++ item_of i ∷ [] }))
    (Err TooManyItems)

-- a plan with what line k says
abbrev pub put_in : ℕ → Plan → Entry → Result Plan What
put_in k p Nothing = Ok p
put_in k p (Accounts n) =
    once p.accounts (record { accounts = Some n; orders = p.orders; money = p.money; journal = p.journal; journal_line = p.journal_line; items = p.items })
put_in k p (Orders n) =
    once p.orders (record { accounts = p.accounts; orders = Some n; money = p.money; journal = p.journal; journal_line = p.journal_line; items = p.items })
put_in k p (Money n) =
    once p.money (record { accounts = p.accounts; orders = p.orders; money = Some n; journal = p.journal; journal_line = p.journal_line; items = p.items })
put_in k p (Journal n) =
    once p.journal (record { accounts = p.accounts; orders = p.orders; money = p.money; journal = Some n; journal_line = k; items = p.items })
put_in k p (Item i) = add_item p i

-- a plan with what line k says, if that can be read
abbrev pub then_put : ℕ → Plan → Result Entry What → Result Plan What
then_put k p (Err w) = Err w
then_put k p (Ok e) = put_in k p e

-- a plan with line k
unfoldable pub line_in : ℕ → Plan → List ℕ → Result Plan What
line_in k p l = then_put k p (entry_of (before_comment l))

-- the numbers of a new disc, and how many blocks each journal has
pub record Described : Type 0 where
  pub numbers : Numbers
  pub journal : ℕ

-- what a setup that was read says
abbrev pub described_by : Setup → Described
described_by s = record { numbers = header_of s.header; journal = s.journal }

-- what the reader gives in the end
abbrev pub setup_or_fault : Result Setup Fault → Result Described Fault
setup_or_fault (Ok s) = Ok (described_by s)
setup_or_fault (Err f) = Err f

-- journals have 4,096 blocks if nothing is said
abbrev pub journal_or : Option ℕ → ℕ
journal_or None = 4096
journal_or (Some j) = j

-- numbers that are in range, with a journal that is long enough; k is the line after the last
abbrev pub checked : ℕ → ℕ → Numbers → ℕ → Result Described Fault
checked k l n j =
    cond (in_range n)
    (cond (nat_lt j (least_journal (length n.items))) (Err (record { line = l; what = OutOfRange })) (Ok (record { numbers = n; journal = j })))
    (Err (record { line = k; what = OutOfRange }))

-- the end of the file: what must be said was said, and there is an item
abbrev pub finished : ℕ → Option ℕ → Option ℕ → Option ℕ → Plan → Result Described Fault
finished k None o m p = Err (record { line = k; what = Missing })
finished k (Some a) None m p = Err (record { line = k; what = Missing })
finished k (Some a) (Some o) None p = Err (record { line = k; what = Missing })
finished k (Some a) (Some o) (Some m) p =
    cond (length p.items == 0) (Err (record { line = k; what = NoItem }))
    (checked k p.journal_line (record { items = p.items; accounts = a; orders = o; money = m }) (journal_or p.journal))

-- what a plan comes to, where k is the line after the last
unfoldable pub finish : ℕ → Plan → Result Described Fault
finish k p = finished k p.accounts p.orders p.money p

-- the lines from line k on, up to the first fault
unfoldable pub follow : ℕ → Plan → List (List ℕ) → Result Described Fault
follow k p [] = finish k p
follow k p (l ∷ ls) = elim (line_in k p l) [ Err w ↦ Err (record { line = k; what = w }) | Ok q ↦ follow (k + 1) q ls ]

-- what a setup file says
unfoldable pub setup_in : List ℕ → Result Described Fault
setup_in bs = follow 1 nothing_said (lines bs)
