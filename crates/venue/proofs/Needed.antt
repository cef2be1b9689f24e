-- The need is the most that an account can lose: no course of the day costs more, and one costs just that.
use Rattle.std.proofs.Common.{◌≡◌, ℕ, suc, ◌+◌, ◌-◌, ◌<◌, ◌≤◌, Bool, true, false, List, [], ◌∷◌, length, get_or, ℤ, pos, ◌+ℤ◌, ◌*ℤ◌, neg_ℤ, ◌≤ℤ◌, sym, refl, ap, ◌∙◌, arith, rules}
use lib.Signed.{lt_z}
use Rattle.std.specs.List.{AllByRecursion}
use Rattle.std.proofs.lemmas.Int.{ints}
use Rattle.std.proofs.ByRecursion.{All-weaker}
use Rattle.venue.proofs.Priorities.{good_same}
use Rattle.venue.proofs.Sounds.{sound_inv}
use Rattle.venue.proofs.Sums.{total_front, total_le, total_same}
use Rattle.venue.proofs.Worst.{low}
use Rattle.venue.specs.Invariant.{Placed}
use Rattle.venue.specs.Loss.{Allowed, Course, NeedIsEnough, NeedIsReached, all_lost, lost_in}
use Rattle.venue.specs.Promise.{SoundItems}
use Rattle.venue.specs.Settlement.{total}
use Rattle.venue.specs.World.{Account, Item, Order, World, account, buys, held, is_buy, item, need, need_from, need_in, no_item, pick, sells}
use Rattle.venue.proofs.Ends.{Banded}
use Rattle.venue.proofs.Exposure.{item_enough, loss, reached_high, reached_low}

-- the need is the sum over the items
need_is : (c k : ℕ) (is : List Item) (x : Account) (os : List Order) (f : ℕ → ℤ) →
    ((j m : ℕ) → j < length is → m ≡ k + j → f j ≡ need_in c m (get_or is j no_item) (held x m) os) → need_from c k is x os ≡ total (length is) f
unfolding need_from total
need_is c k [] x os f h = refl
need_is c k (i ∷ is) x os f h =
    let d = need_is c (suc k) is x os (λ (j : ℕ). f (suc j)) (λ j m l q. h (suc j) m (omega arith) (omega arith)) in
    let t = total_front (length is) f in
    let z = h 0 k (omega arith) (omega arith) in
    omega (arith, ints)

need_total : (w : World) (a : ℕ) (os : List Order) →
    need w a os ≡ total (length w.items) (λ (k : ℕ). need_in a k (item w k) (held (account w a) k) os)
unfolding need item
need_total w a os = search (rules, need_is)

banded : (w : World) (k : ℕ) → AllByRecursion (Placed (length w.accounts) w.items) w.orders → AllByRecursion (Banded k (item w k)) w.orders
unfolding item
banded w k f = search (rules, All-weaker)

pub is_enough : NeedIsEnough
unfolding NeedIsEnough all_lost lost_in
is_enough z w a y s v =
    rw (need_total w a w.orders)
    (total_le (length w.items) (lost_in w a y) (λ (k : ℕ). need_in a k (item w k) (held (account w a) k) w.orders) each)
  where
    each : (k : ℕ) → k < length w.items → lost_in w a y k ≤ℤ need_in a k (item w k) (held (account w a) k) w.orders
    each k l =
        item_enough a k (item w k) y (held (account w a) k) (y.ends k) w.orders v.much v.at (banded w k (sound_inv z w s).placed) (v.ends k l)

-- the worst that can happen to account a: each item ends where that costs most, the orders that lose by it are carried out in full, and no others
module _ (w : World) (a : ℕ) where
  rises : ℕ → Bool
  rises k =
      lt_z ((held (account w a) k *ℤ pos (item w k).band) +ℤ pos (buys a k (item w k) w.orders))
      (neg_ℤ (held (account w a) k *ℤ pos (item w k).band) +ℤ pos (sells a k (item w k) w.orders))

  worst : Course
  worst =
      record {
        much = λ o. pick (is_buy o.side) (pick (rises o.item) 0 o.left) (pick (rises o.item) o.left 0);
        at = λ o. o.price;
        ends = λ k. pick (rises k) ((item w k).price + (item w k).band) ((item w k).price - (item w k).band);
      }

  worst_allowed : SoundItems w.items → Allowed w worst
  unfolding worst item SoundItems
  worst_allowed f = search (rules, good_same)

  much_is : (o : Order) (k : ℕ) (b : Bool) → rises k ≡ b → o.item ≡ k →
      worst.much o ≡ pick (is_buy o.side) (pick b 0 o.left) (pick b o.left 0)
  unfolding worst
  much_is o k b e q = rw (q, e)

  -- what is lost when item k ends at p
  ends_at : (k p : ℕ) → worst.ends k ≡ p → lost_in w a worst k ≡ loss a k (item w k) worst (held (account w a) k) (pos p) w.orders
  unfolding lost_in
  ends_at k p e = rw e

  worst_in : AllByRecursion (Placed (length w.accounts) w.items) w.orders → (k : ℕ) → (item w k).band ≤ (item w k).price →
      (b : Bool) → rises k ≡ b → lost_in w a worst k ≡ need_in a k (item w k) (held (account w a) k) w.orders
  unfolding worst rises
  worst_in p k l true e =
      ends_at k ((item w k).price + (item w k).band) (rw e)
      ∙ reached_high a k (item w k) worst (held (account w a) k) w.orders (λ o q. much_is o k true e q) (λ o. refl) (banded w k p) e
  worst_in p k l false e =
      ends_at k ((item w k).price - (item w k).band) (rw e)
      ∙ ap (λ (z : ℤ). loss a k (item w k) worst (held (account w a) k) z w.orders) (plain (item w k).price (item w k).band l)
      ∙ reached_low a k (item w k) worst (held (account w a) k) w.orders (λ o q. much_is o k false e q) (λ o. refl) (banded w k p) e
    where
      plain : (P B : ℕ) → B ≤ P → pos (P - B) ≡ low P B
      plain P B h = omega (arith, ints)

pub is_reached : NeedIsReached
unfolding NeedIsReached all_lost SoundItems item
is_reached z w a s =
    let i = sound_inv z w s in (
      worst w a,
      worst_allowed w a i.items,
      total_same (length w.items) (lost_in w a (worst w a)) _ (λ k h. worst_in w a i.placed k (i.items k h).1 (rises w a k) refl)
          ∙ sym (need_total w a w.orders),
    )
