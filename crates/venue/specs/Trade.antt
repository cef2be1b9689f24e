-- A trade never makes anybody less able to pay. Assumes nothing: these are statements.
use Rattle.std.specs.Prelude.{◌≡◌, ℕ, ◌<◌, ◌≤◌, true, List, [], ◌∷◌, ◌++◌, length, slice_index_or, ◌+ℤ◌, ◌≤ℤ◌}
use Rattle.venue.specs.Turn.{Turn}
use Rattle.venue.specs.World.{Limits, Order, World, account, less_left, meets, need, no_order, traded}

-- no account's need, with the orders os before and os' after, grows by more than its money does
abbrev pub PaidFor : World → List Order → World → List Order → Type 0
PaidFor w os v os' =
    (c : ℕ) → c < length w.accounts → (need v c os' +ℤ (account w c).cash) ≤ℤ (need w c os +ℤ (account v c).cash)

-- while order o is carried out, a trade of x with the order in place j raises nobody's need by more than that account's money grows, with what is
-- left of o counted as standing. It holds of every account, also of one that trades with itself
unfoldable pub TradePaidFor : Type 0
TradePaidFor =
    (z : Limits) (w : World) (o : Order) (j x : ℕ) → Turn z w o → j < length w.orders → meets o (slice_index_or w.orders j no_order) ≡ true →
    x ≤ o.left → x ≤ (slice_index_or w.orders j no_order).left →
    PaidFor w (w.orders ++ o ∷ []) (traded w o (slice_index_or w.orders j no_order) j x)
    ((traded w o (slice_index_or w.orders j no_order) j x).orders ++ less_left o x ∷ [])
