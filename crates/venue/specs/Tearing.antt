-- What holds at every step while holdings are torn up. Assumes nothing: these are definitions.
use Rattle.std.specs.Prelude.{◌≡◌, ℕ, ◌≤◌, false, length, ℤ}
use borrow.Author.Differences.{up, down}
use Rattle.venue.specs.Invariant.{Inv}
use Rattle.venue.specs.World.{Limits, World, account, held}

-- h' lies between 0 and h
abbrev pub Nearer : ℤ → ℤ → Type 0
Nearer h h' = (up h' ≤ up h) × (down h' ≤ down h)

-- w becomes v by tearing up: only holdings change, and none grows
pub record Torn (w v : World) : Type 0 where
  pub items : v.items ≡ w.items
  pub accounts : length v.accounts ≡ length w.accounts
  pub orders : v.orders ≡ w.orders
  pub next : v.next ≡ w.next
  pub money : v.money ≡ w.money
  pub trading : v.trading ≡ w.trading
  pub cash : (c : ℕ) → (account v c).cash ≡ (account w c).cash
  pub near : (c k : ℕ) → Nearer (held (account w c) k) (held (account v c) k)

-- a market without trading, between two steps of tearing up
pub record Tearing (z : Limits) (w : World) : Type 0 where
  pub inv : Inv z w
  pub still : w.trading ≡ false
