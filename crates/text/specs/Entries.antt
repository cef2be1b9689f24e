-- What one line of a setup file says. Assumes nothing: these are definitions.
use Rattle.std.specs.Prelude.{ℕ, Bool, cond, ◌&&◌, List, length, Some, None, Ok, Err, codes, Option, Result, ◌==◌}
use Rattle.std.specs.Str.{bytes_eq}
use Rattle.wire.specs.declared.item.Item as item
use Rattle.disc.specs.Numbers.{within, price_fits, band_fits}
use Rattle.text.specs.Words.{first_word, after_word, number}
use Rattle.text.specs.declared.entry.Entry.{Entry}
use Rattle.text.specs.declared.entry.Entry.TheVariants.{Nothing, Accounts, Orders, Money, Journal, Item}
use Rattle.text.specs.declared.entry.Word.{Word}
use Rattle.text.specs.declared.entry.Word.TheVariants as word
use Rattle.text.specs.declared.fault.What.{What}
use Rattle.text.specs.declared.fault.What.TheVariants.{UnknownWord, OutOfRange}

-- whether nothing but blanks is left
abbrev pub nothing_left : List ℕ → Bool
nothing_left bs = length (first_word bs) == 0

-- a number that is from low to high
abbrev pub bounded : ℕ → ℕ → Option ℕ → Option ℕ
bounded low high None = None
bounded low high (Some n) = cond (within low high n) (Some n) None

-- one number from low to high, and nothing behind it
unfoldable pub one_number : ℕ → ℕ → List ℕ → Option ℕ
one_number low high bs = cond (nothing_left (after_word bs)) (bounded low high (number (first_word bs))) None

-- a price and a band in range
abbrev pub item_from : Option ℕ → Option ℕ → Option item.Item
item_from None b = None
item_from (Some p) None = None
item_from (Some p) (Some b) = cond (price_fits p && band_fits p b) (Some (record { price = p; band = b })) None

-- a price and a band, and nothing behind them
unfoldable pub one_item : List ℕ → Option item.Item
one_item bs =
    cond (nothing_left (after_word (after_word bs))) (item_from (number (first_word bs)) (number (first_word (after_word bs)))) None

-- a line's first word
unfoldable pub word_of : List ℕ → Word
word_of w =
    cond (length w == 0) word.Blank
    (cond (bytes_eq w (codes "accounts")) word.Accounts
    (cond (bytes_eq w (codes "orders")) word.Orders
    (cond (bytes_eq w (codes "money")) word.Money
    (cond (bytes_eq w (codes "journal")) word.Journal (cond (bytes_eq w (codes "item")) word.Item word.Unknown)))))

-- what a word and its number say; what is missing, malformed, out of range or not alone is out of range
abbrev pub with_number : Word → Option ℕ → Result Entry What
with_number w None = Err OutOfRange
with_number word.Blank (Some n) = Err UnknownWord
with_number word.Accounts (Some n) = Ok (Accounts n)
with_number word.Orders (Some n) = Ok (Orders n)
with_number word.Money (Some n) = Ok (Money n)
with_number word.Journal (Some n) = Ok (Journal n)
with_number word.Item (Some n) = Err UnknownWord
with_number word.Unknown (Some n) = Err UnknownWord

-- what the word "item" and its item say
abbrev pub with_item : Option item.Item → Result Entry What
with_item None = Err OutOfRange
with_item (Some i) = Ok (Item i)

-- what a line says by its first word and what stands behind that
abbrev pub entry_by : Word → List ℕ → Result Entry What
entry_by word.Blank bs = Ok Nothing
entry_by word.Accounts bs = with_number word.Accounts (one_number 1 4096 bs)
entry_by word.Orders bs = with_number word.Orders (one_number 1 65536 bs)
entry_by word.Money bs = with_number word.Money (one_number 0 1125899906842624 bs)
entry_by word.Journal bs = with_number word.Journal (one_number 1 1048576 bs)
entry_by word.Item bs = with_item (one_item bs)
entry_by word.Unknown bs = Err UnknownWord

-- what a line without its comment says
unfoldable pub entry_of : List ℕ → Result Entry What
entry_of bs = entry_by (word_of (first_word bs)) (after_word bs)
