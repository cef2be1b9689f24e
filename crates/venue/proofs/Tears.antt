-- One step of tearing up, in the market: money stays, holdings come nearer to 0, and the market is as it should be.
use Rattle.std.proofs.Common.{◌≡◌, ℕ, ◌+◌, ◌<◌, ◌≤◌, false, ◌≢◌, List, [], length, ℤ, pos, ◌+ℤ◌, neg_ℤ, ◌≤ℤ◌, sym, refl, ap, ◌∙◌, subst, arith, rules}
use Rattle.std.specs.List.{AllByRecursion}
use Rattle.std.proofs.lemmas.Int.{ints}
use Rattle.std.proofs.ByRecursion.{All-from_get_or}
use Rattle.std.proofs.lemmas.Bool.{both_ways, cases_eq}
use Rattle.venue.proofs.Gets.{account_other, account_same, cash_after, held_elsewhere, held_there, item_gets, many_gets, wide_at, wide_gets}
use Rattle.venue.proofs.Ints.{no_gain}
use Rattle.venue.proofs.Numbers.{rising_ends}
use Rattle.venue.proofs.Opposites.{TornBy, abs_near, near_same}
use Rattle.venue.proofs.Swaps.{Swapped, swapped}
use Rattle.venue.proofs.Totals.{cash_at}
use Rattle.venue.specs.Invariant.{Calm, Left, NotBelow, Placed, Rising, Wide}
use Rattle.venue.specs.Promise.{SoundItems}
use Rattle.venue.specs.Tearing.{Nearer, Tearing, Torn}
use Rattle.venue.specs.World.{Account, Item, Limits, Order, World, abs, account, gets, held, item, nobody, standing, with_account}

pub torn_none : (w : World) → Torn w w
torn_none w = search (rules, near_same)

pub torn_more : (w v u : World) → Torn w v → Torn v u → Torn w u
torn_more w v u f g = search rules

-- nobody holds or owes more than before
pub torn_held : (w v : World) (c k : ℕ) → Torn w v → abs (held (account v c) k) ≤ abs (held (account w c) k)
torn_held w v c k t = abs_near (held (account w c) k) (held (account v c) k) (t.near c k)

-- one account gets x at the item's price, and comes no further from 0
torn_gets : (w : World) (a k : ℕ) (x : ℤ) (p : ℕ) → (item w k).price ≡ p → a < length w.accounts → k < length (account w a).holds →
    Nearer (held (account w a) k) (held (account w a) k +ℤ x) → Torn w (gets w a k x p)
unfolding gets with_account
torn_gets w a k x p q ha hk f = search (rules, many_gets, account_same, account_other, cash_after, no_gain, held_there, held_elsewhere, near_same, cases_eq)

-- without trading nothing else can go wrong
tearing_from : (z : Limits) (w v : World) → Tearing z w → Torn w v → Swapped w v → Tearing z v
unfolding account
tearing_from z w v g t s =
    let i = g.inv in
    let q : v.trading ≡ false = t.trading ∙ g.still in
    let n : v.orders ≡ [] = t.orders ∙ i.empty g.still in
    record {
      inv = record {
        wide = subst (λ (m : ℕ). AllByRecursion (Wide m) v.accounts) (sym (ap length t.items)) (s.wide (length w.items) i.wide);
        placed = subst (AllByRecursion (Placed (length v.accounts) v.items)) (sym n) tt;
        left = subst (AllByRecursion Left) (sym n) tt;
        numbers =
            subst (λ (os : List Order). Rising 1 os v.next) (sym n)
            (omega (arith, t.next, rising_ends 1 w.orders w.next i.numbers));
        cash = s.cash ∙ i.cash ∙ ap pos (sym t.money);
        held = λ k. s.held k ∙ i.held k;
        rich = All-from_get_or NotBelow v.accounts nobody
            (λ c l. subst (λ (y : ℤ). pos 0 ≤ℤ y) (sym (t.cash c)) (cash_at w c (omega (arith, t.accounts)) i.rich));
        cover = λ e. absurd (both_ways v.trading q e);
        empty = λ e. n;
        calm = subst Calm (sym n) tt;
        items = subst SoundItems (sym t.items) i.items;
        holds = λ c k l. subst (λ (os : List Order). abs (held (account v c) k) + standing c k os ≤ z.holding) (sym t.orders)
            (omega (arith, i.holds c k (omega (arith, t.accounts)), torn_held w v c k t));
        few = omega (arith, ap length t.orders, i.few);
        money = omega (arith, t.money, i.money);
        next = omega (arith, t.next, i.next);
      };
      still = q;
    }

-- s of item k goes from a to b for p, the item's price, and both come nearer to 0
module _ (z : Limits) (w : World) (a b k p : ℕ) (s : ℤ) (g : Tearing z w) (q : (item w k).price ≡ p) (la : a < length w.accounts)
    (lb : b < length w.accounts) (ne : a ≢ b) (lk : k < length w.items) (t : TornBy (held (account w a) k) (held (account w b) k) s) where
  abbrev w1 : World
  w1 = gets w a k (neg_ℤ s) p

  abbrev pub w2 : World
  w2 = gets w1 b k s p

  lb1 : b < length w1.accounts
  lb1 = omega (arith, many_gets w a k (neg_ℤ s) p)

  deep : k < length (account w a).holds
  deep = omega (arith, wide_at (length w.items) w a la g.inv.wide)

  deep1 : k < length (account w1 b).holds
  deep1 = omega (arith, wide_at (length w.items) w1 b lb1 (wide_gets (length w.items) w a k (neg_ℤ s) p la g.inv.wide))

  same_b : account w1 b ≡ account w b
  same_b = account_other w a k (neg_ℤ s) p b (λ e. ne (sym e))

  pub step_torn : Torn w w2
  step_torn =
      torn_more w w1 w2 (torn_gets w a k (neg_ℤ s) p q la deep t.one)
      (torn_gets w1 b k s p (ap (λ (i : Item). i.price) (item_gets w a k (neg_ℤ s) p k) ∙ q) lb1 deep1 (rw same_b t.two))

  pub step_tearing : Tearing z w2
  step_tearing =
      tearing_from z w w2 g step_torn
      (swapped (length w.items) w a b k (neg_ℤ s) s p (omega (arith, ints)) la lb lk g.inv.wide)

  pub step_one : held (account w2 a) k ≡ held (account w a) k +ℤ neg_ℤ s
  step_one =
      ap (λ (y : Account). held y k) (account_other w1 b k s p a ne ∙ account_same w a k (neg_ℤ s) p la) ∙ held_there w a k (neg_ℤ s) p k deep refl

  pub step_two : held (account w2 b) k ≡ held (account w b) k +ℤ s
  step_two =
      ap (λ (y : Account). held y k) (account_same w1 b k s p lb1) ∙ held_there w1 b k s p k deep1 refl
      ∙ ap (λ (y : Account). held y k +ℤ s) same_b
