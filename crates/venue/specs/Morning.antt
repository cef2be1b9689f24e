-- The day's beginning in plain words: who is torn up, against whom, and what it leaves. Assumes nothing: these are definitions and statements.
use Rattle.std.specs.Prelude.{◌≡◌, ℕ, ◌<◌, Bool, true, false, ◌&&◌, ◌⊎◌, List, [], ◌∷◌, length, ℤ, pos, ◌+ℤ◌, ◌-ℤ◌, ◌≤ℤ◌, ◌<ℤ◌, ◌==◌}
use Rattle.std.specs.List.{AllByRecursion}
use Rattle.venue.specs.Sound.{Sound}
use Rattle.venue.specs.World.{Limits, Report, World, account, begin_day, done, held, need, no, pick, says, tear_all, torn, trade}

-- one is held and the other owed
abbrev pub Opposed : ℤ → ℤ → Type 0
Opposed h g = ((pos 0 <ℤ h) × (g <ℤ pos 0)) ⊎ ((h <ℤ pos 0) × (pos 0 <ℤ g))

-- h' lies between 0 and h: it is no larger, and not of the other sign
abbrev pub Between : ℤ → ℤ → Type 0
Between h h' = ((pos 0 ≤ℤ h') × (h' ≤ℤ h)) ⊎ ((h ≤ℤ h') × (h' ≤ℤ pos 0))

-- w becomes v by tearing up s of account a's holding of item k against account b's. b is the first that holds the other way at this moment;
-- as much is torn up as both have, so that one of them has nothing left; no money moves, and no other holding changes
pub record OneStep (w v : World) (a b k : ℕ) (s : ℤ) : Type 0 where
  pub opposed : Opposed (held (account w a) k) (held (account w b) k)
  pub first : (c : ℕ) → c < b → Opposed (held (account w a) k) (held (account w c) k) → ⊥
  pub gives : held (account v a) k ≡ held (account w a) k -ℤ s
  pub gets : held (account v b) k ≡ held (account w b) k +ℤ s
  pub most : (held (account v a) k ≡ pos 0) ⊎ (held (account v b) k ≡ pos 0)
  pub near : Between (held (account w a) k) (held (account v a) k)
  pub near_too : Between (held (account w b) k) (held (account v b) k)
  pub others : (c j : ℕ) → ((c ≡ a) × (j ≡ k) → ⊥) → ((c ≡ b) × (j ≡ k) → ⊥) → held (account v c) j ≡ held (account w c) j
  pub cash : (c : ℕ) → (account v c).cash ≡ (account w c).cash

-- w becomes v by such steps, one for each report
pub data Steps : World → List Report → World → Type 0 where
  none : {w : World} → Steps w [] w
  more : {w v u : World} {a b k : ℕ} {s : ℤ} {rs : List Report} → OneStep w v a b k s → Steps v rs u → Steps w (torn a b k s ∷ rs) u

-- what account c gives away of item k by a report, and what it gets
unfoldable pub given : ℕ → ℕ → Report → ℤ
given c k (done n) = pos 0
given c k no = pos 0
given c k (trade n m j p x) = pos 0
given c k (torn a b j s) = pick (a == c && j == k) s (pos 0)

unfoldable pub got : ℕ → ℕ → Report → ℤ
got c k (done n) = pos 0
got c k no = pos 0
got c k (trade n m j p x) = pos 0
got c k (torn a b j s) = pick (b == c && j == k) s (pos 0)

unfoldable pub sum_over : (Report → ℤ) → List Report → ℤ
sum_over f [] = pos 0
sum_over f (r ∷ rs) = f r +ℤ sum_over f rs

-- whether a report says that account c is torn up
unfoldable pub tears_up : ℕ → Report → Bool
tears_up c (done n) = false
tears_up c no = false
tears_up c (trade n m k p x) = false
tears_up c (torn a b k s) = a == c

-- the market at account c's turn: those before it have had theirs
abbrev pub at_turn : World → ℕ → World
at_turn w c = (tear_all c 0 w).0

-- an account that is covered at its turn is not torn up; one that is not is torn up, and holds nothing afterwards
abbrev pub Justly : World → ℕ → World → List Report → Type 0
Justly u c v rs =
    ((need u c u.orders ≤ℤ (account u c).cash) × AllByRecursion (λ (r : Report). tears_up c r ≡ false) rs)
    ⊎ (((account u c).cash <ℤ need u c u.orders) × ((k : ℕ) → k < length u.items → held (account v c) k ≡ pos 0))

-- the market v after the morning of w, with the reports rs
pub record Begun (w v : World) (rs : List Report) : Type 0 where
  pub trading : v.trading ≡ true
  pub covered : (a : ℕ) → a < length w.accounts → need v a v.orders ≤ℤ (account v a).cash
  pub cash : (a : ℕ) → (account v a).cash ≡ (account w a).cash
  pub near : (a k : ℕ) → Between (held (account w a) k) (held (account v a) k)
  pub told : (a k : ℕ) →
      held (account v a) k ≡ (held (account w a) k -ℤ sum_over (given a k) rs) +ℤ sum_over (got a k) rs
  pub justly : (a : ℕ) → a < length w.accounts → Justly (at_turn w a) a v rs
  pub steps : (u : World) × Steps w rs u × (u.accounts ≡ v.accounts)
  pub items : v.items ≡ w.items
  pub orders : v.orders ≡ w.orders
  pub next : v.next ≡ w.next
  pub money : v.money ≡ w.money

-- a day begins exactly if there is no trading yet
unfoldable pub DayBegins : Type 0
DayBegins =
    (z : Limits) (w : World) → Sound z w → z.built 6 ≡ true →
    (w.trading ≡ true → (says z w begin_day).1 ≡ no ∷ [])
    × (w.trading ≡ false → (rs : List Report) × ((says z w begin_day).1 ≡ done 0 ∷ rs) × Begun w (says z w begin_day).0 rs)
