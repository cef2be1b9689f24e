-- A market whole, as the words of a checkpoint's body. Assumes nothing: these are definitions.
use Rattle.std.specs.Prelude.{ℕ, ◌*◌, Bool, true, false, List, [], ◌∷◌, ◌++◌, map, length}
use Rattle.std.specs.List.{flat_map}
use Rattle.venue.specs.World.{Account, Item, Order, World}
use Rattle.wire.specs.Messages.{side_byte}
use Rattle.blocks.specs.Disc.{Disc, cut}
use Rattle.disc.specs.Layout.{blocks_of_words}
use Rattle.disc.specs.New.{padded}
use Rattle.checkpoint.specs.Words.{bytes_of, word_of}

unfoldable pub flag : Bool → ℕ
flag true = 1
flag false = 0

-- where the journal begins; how many messages were heard; the next order's number; all money; whether there is trading; how many orders stand; two spare words
unfoldable pub head_words : World → ℕ → List ℕ
head_words w h = 0 ∷ h ∷ w.next ∷ w.money ∷ flag w.trading ∷ length w.orders ∷ 0 ∷ 0 ∷ []

unfoldable pub item_words : Item → List ℕ
item_words i = i.price ∷ i.band ∷ []

unfoldable pub account_words : Account → List ℕ
account_words x = word_of x.cash ∷ map word_of x.holds

unfoldable pub order_words : Order → List ℕ
order_words o = o.number ∷ o.account ∷ o.item ∷ side_byte o.side ∷ o.price ∷ o.left ∷ []

-- a market after so many messages
unfoldable pub market_words : World → ℕ → List ℕ
market_words w h =
    head_words w h ++ (flat_map item_words w.items ++ (flat_map account_words w.accounts ++ flat_map order_words w.orders))

-- words in whole blocks, with zeros behind them
unfoldable pub word_blocks : List ℕ → Disc
word_blocks ws = cut (blocks_of_words (length ws)) (padded (blocks_of_words (length ws) * 512) (bytes_of ws))

-- the body of a checkpoint
unfoldable pub body : World → ℕ → Disc
body w h = word_blocks (market_words w h)
