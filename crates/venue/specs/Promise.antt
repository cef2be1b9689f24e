-- What the market promises. Each is a statement, a type whose proof is owed. Assumes nothing.
use Rattle.std.specs.Prelude.{◌≡◌, ℕ, suc, ◌-◌, ◌<◌, ◌≤◌, Bool, true, false, List, [], ◌∷◌, length, take, ℤ, pos, ◌+ℤ◌, ◌≤ℤ◌, nat_le, slice_index, slice_index_or}
use Rattle.venue.specs.World.{World, Item, Account, Limits, Message, Report, buy, sell, run, reports, says, first, need, account, held, no_order, no_item, written, torn_off}

-- reports that were handed out: all, or all but the last message's
unfoldable pub handed : Bool → List (List Report) → List (List Report)
handed true rs = rs
handed false rs = take (length rs - 1) rs

-- one life after another, with power cuts between. If all of the last message's writes were done its reports were handed out, and the next life begins
-- with it; else they weren't, and the next life begins with it or without it
pub data Lives (z : Limits) : World → List (List Message × Bool × List (List Report)) → Type 0 where
  over : {w : World} → Lives z w []
  next : {w : World} {ms : List Message} {all : Bool} {rest : List (List Message × Bool × List (List Report))} (j : ℕ) → length ms ≤ suc j → j ≤ length ms →
      (all ≡ true → j ≡ length ms) → Lives z (run z w (take j ms)) rest → Lives z w ((ms, all, handed all (reports z w ms)) ∷ rest)

-- a power cut, as the world outside chooses it: how many of the last message's writes are done, and what the block of the next holds
pub record Cut : Type 0 where
  pub done : ℕ
  pub block : List ℕ
  pub whole : length block ≡ 512
  pub bytes : (i : ℕ) → i < 512 → slice_index block i < 256

unfoldable pub SoundItems : List Item → Type 0
SoundItems is = (k : ℕ) → k < length is → (1 ≤ (slice_index_or is k no_item).band) × ((slice_index_or is k no_item).band ≤ (slice_index_or is k no_item).price) × ((slice_index_or is k no_item).price ≤ 1000000)

unfoldable pub all_cash : List Account → ℤ
all_cash [] = pos 0
all_cash (x ∷ xs) = x.cash +ℤ all_cash xs

unfoldable pub all_held : ℕ → List Account → ℤ
all_held k [] = pos 0
all_held k (x ∷ xs) = held x k +ℤ all_held k xs

-- all that the second half says of one market
unfoldable pub Safe : World → Type 0
Safe w =
    ((a : ℕ) → a < length w.accounts →
    (pos 0 ≤ℤ (account w a).cash) × (w.trading ≡ true → need w a w.orders ≤ℤ (account w a).cash))
    × (all_cash w.accounts ≡ pos w.money) × ((k : ℕ) → all_held k w.accounts ≡ pos 0)

-- THE MAIN PROMISE, first half: a market with sorted books, indexes, a journal on a disc and restarts reports what this one does.
-- A system is given by the kinds of messages that it has yet, which discs it takes, what market they hold, how it starts, what a message does, its disc, its last message's writes, and what it holds of each market that it takes
module _ (System : Type 0) (kinds : ℕ → Bool) (refused : Limits → List (List ℕ) → Bool) (world_on : List (List ℕ) → World)
    (start : Limits → List (List ℕ) → System) (hears : Limits → System → Message → System × List Report)
    (disc : System → List (List ℕ)) (writes : System → List (ℕ × List ℕ)) (sound : Limits → World → Type 0) where
  -- discs that its start doesn't refuse
  unfoldable pub takes : Limits → List (List ℕ) → Type 0
  takes z d = refused z d ≡ false

  -- the system after a row of messages, with the disc as it was before the last of them (before the start, if there are none)
  unfoldable pub goes : Limits → List (List ℕ) → System → List Message → List (List ℕ) × System
  goes z d s [] = (d, s)
  goes z d s (m ∷ ms) = goes z (disc s) (hears z s m).0 ms

  unfoldable pub told : Limits → System → List Message → List (List Report)
  told z s [] = []
  told z s (m ∷ ms) = (hears z s m).1 ∷ told z (hears z s m).0 ms

  unfoldable pub left_by : Limits → List (List ℕ) → List Message → Cut → List (List ℕ)
  left_by z d ms c = torn_off (goes z d (start z d) ms).0 (writes (goes z d (start z d) ms).1) c.done c.block

  unfoldable pub all_done : Limits → List (List ℕ) → List Message → Cut → Bool
  all_done z d ms c = nat_le (length (writes (goes z d (start z d) ms).1)) c.done

  unfoldable pub told_in : Limits → List (List ℕ) → List (List Message × Cut) → List (List Message × Bool × List (List Report))
  told_in z d [] = []
  told_in z d (l ∷ ls) =
      (l.0, all_done z d l.0 l.1, handed (all_done z d l.0 l.1) (told z (start z d) l.0)) ∷ told_in z (left_by z d l.0 l.1) ls

  unfoldable pub SameReports : Type 0
  SameReports = (z : Limits) (d : List (List ℕ)) (ls : List (List Message × Cut)) → takes z d → Lives z (world_on d) (told_in z d ls)

  -- what a cut leaves is a disc that is taken
  unfoldable pub ComesUp : Type 0
  ComesUp = (z : Limits) (d : List (List ℕ)) (ms : List Message) (c : Cut) → takes z d → takes z (left_by z d ms c)

  -- the disc changes by writes only
  unfoldable pub ByWrites : Type 0
  ByWrites =
      ((z : Limits) (d : List (List ℕ)) → disc (start z d) ≡ written d (writes (start z d)))
      × ((z : Limits) (s : System) (m : Message) → disc (hears z s m).0 ≡ written (disc s) (writes (hears z s m).0))

  -- a disc that is taken holds a sound market: first markets are sound, messages keep them so, and a sound market is safe. A start checks this of a picture
  unfoldable pub ComeAbout : Type 0
  ComeAbout =
      ((z : Limits) (d : List (List ℕ)) → takes z d → sound z (world_on d))
      × ((z : Limits) (is : List Item) (n : ℕ) → SoundItems is → sound z (first is n))
      × ((z : Limits) (w : World) (m : Message) → sound z w → sound z (says z w m).0)
      × ((z : Limits) (w : World) → sound z w → Safe w)

  -- and for every list of items and number of accounts there is a disc with the first morning
  unfoldable pub HoldsAll : Type 0
  HoldsAll =
      (z : Limits) (is : List Item) (n : ℕ) → SoundItems is → 1 ≤ length is → length is ≤ 256 → 1 ≤ n → n ≤ 4096 → 1 ≤ z.orders → z.orders ≤ 65536 →
      z.money ≤ 1125899906842624 → z.holding ≡ 2147483648 → ((k : ℕ) → z.built k ≡ kinds k) → (d : List (List ℕ)) × takes z d × (world_on d ≡ first is n)

-- second half: as long as the prices at day's end are within the bands, nobody's money is ever below 0;
-- and while there is trading everybody can lose all that can be lost by the day's end
unfoldable pub Covered : Type 0
Covered =
    (z : Limits) (is : List Item) (n a : ℕ) (ms : List Message) → SoundItems is → a < n →
    (pos 0 ≤ℤ (account (run z (first is n) ms) a).cash)
    × ((run z (first is n) ms).trading ≡ true → need (run z (first is n) ms) a (run z (first is n) ms).orders ≤ℤ (account (run z (first is n) ms) a).cash)

-- no money comes or goes but what is paid in and out, and of each item as much is owed as is owned
unfoldable pub Kept : Type 0
Kept =
    (z : Limits) (is : List Item) (n k : ℕ) (ms : List Message) → SoundItems is →
    (all_cash (run z (first is n) ms).accounts ≡ pos (run z (first is n) ms).money) × (all_held k (run z (first is n) ms).accounts ≡ pos 0)

-- no two orders stand that could trade
unfoldable pub NotCrossed : Type 0
NotCrossed =
    (z : Limits) (is : List Item) (n j k : ℕ) (ms : List Message) → SoundItems is →
    j < length (run z (first is n) ms).orders → k < length (run z (first is n) ms).orders →
    (slice_index_or (run z (first is n) ms).orders j no_order).side ≡ buy → (slice_index_or (run z (first is n) ms).orders k no_order).side ≡ sell →
    (slice_index_or (run z (first is n) ms).orders j no_order).item ≡ (slice_index_or (run z (first is n) ms).orders k no_order).item →
    (slice_index_or (run z (first is n) ms).orders j no_order).price < (slice_index_or (run z (first is n) ms).orders k no_order).price

-- an order that stands has something left
unfoldable pub SomethingLeft : Type 0
SomethingLeft =
    (z : Limits) (is : List Item) (n j : ℕ) (ms : List Message) → SoundItems is → j < length (run z (first is n) ms).orders →
    1 ≤ (slice_index_or (run z (first is n) ms).orders j no_order).left
