-- An evening's prices and gains, item by item.
use Rattle.std.proofs.Common.{◌≡◌, ℕ, zero, suc, ◌+◌, ◌-◌, ◌*◌, ◌<◌, ◌≤◌, Bool, true, false, ◌&&◌, leb, List, [], ◌∷◌, map, length, get_or, drop, pos, ◌+ℤ◌, ◌-ℤ◌, ◌*ℤ◌, refl, ap, le_of_suc-le-suc, add-one, arith, drop-cons}
use Rattle.std.proofs.lemmas.List.{drop_all}
use Rattle.venue.specs.World as world
use Rattle.venue.specs.World.{prices_fit, gain, held, paid, new_items, nobody, no_item}
use Rattle.wire.specs.Means.{column, item_of}
use Rattle.wire.specs.Number.{four}
use Rattle.wire.specs.declared.item.Item.{Item}
use Rattle.reference.proofs.Places.{blank_item}

-- what is left of a column from its k-th number on
abbrev pub rest : List ℕ → ℕ → ℕ → ℕ → List ℕ
rest bs i n k = column bs (i + 8 * k) (n - k)

pub rest_more : (bs : List ℕ) (i n k : ℕ) → k < n → rest bs i n k ≡ four bs (i + 8 * k) ∷ rest bs i n (k + 1)
unfolding column
rest_more bs i n k h =
    let e : n - k ≡ suc (n - (k + 1)) = omega arith in
    let f : i + 8 * (k + 1) ≡ (i + 8 * k) + 8 = omega arith in
    rw (e, f)

pub rest_none : (bs : List ℕ) (i n k : ℕ) → n ≤ k → rest bs i n k ≡ []
unfolding column
rest_none bs i n k h = let e : n - k ≡ 0 = omega arith in rw e

-- whether a new price and band fit an item
abbrev pub one_fits : world.Item → ℕ → ℕ → Bool
one_fits i p b = (leb i.price (p + i.band) && leb p (i.price + i.band)) && (leb 1 b && (leb b p && leb p 1000000))

and_more : (x y z : Bool) → (x && (y && z)) ≡ ((x && y) && z)
and_more true y z = refl
and_more false y z = refl

module _ (bs : List ℕ) (i j n : ℕ) (is : List Item) (k : ℕ) where
  pub fit_more : k < length is → k < n →
      prices_fit (map item_of (drop k is)) (rest bs i n k) (rest bs j n k) ≡
      (one_fits (item_of (get_or is k blank_item)) (four bs (i + 8 * k)) (four bs (j + 8 * k))
      && prices_fit (map item_of (drop (k + 1) is)) (rest bs i n (k + 1)) (rest bs j n (k + 1)))
  unfolding prices_fit
  fit_more h l =
      let p : ℕ = four bs (i + 8 * k) in
      let b : ℕ = four bs (j + 8 * k) in
      let it : Item = get_or is k blank_item in
      rw (rest_more bs i n k l, rest_more bs j n k l, add-one k, drop-cons is k blank_item)
      (and_more (leb it.price (p + it.band) && leb p (it.price + it.band)) (leb 1 b && (leb b p && leb p 1000000)) _)

  pub fit_none : length is ≤ k → n ≤ k → prices_fit (map item_of (drop k is)) (rest bs i n k) (rest bs j n k) ≡ true
  unfolding prices_fit
  fit_none h l = rw (rest_none bs i n k l, rest_none bs j n k l, drop_all)

  pub gain_more : (x : world.Account) (d : Item) → k < length is → k < n →
      gain k (map item_of (drop k is)) (rest bs i n k) x ≡
      (held x k *ℤ (pos (four bs (i + 8 * k)) -ℤ pos (get_or is k d).price)) +ℤ gain (k + 1) (map item_of (drop (k + 1) is))
      (rest bs i n (k + 1)) x
  unfolding gain
  gain_more x d h l = rw (rest_more bs i n k l, add-one k, drop-cons is k d)

  pub gain_none : (x : world.Account) → length is ≤ k → gain k (map item_of (drop k is)) (rest bs i n k) x ≡ pos 0
  unfolding gain
  gain_none x h = rw drop_all

-- what an evening leaves of each account and each item
pub length_paid : (is : List world.Item) (ps : List ℕ) (xs : List world.Account) → length (paid is ps xs) ≡ length xs
unfolding paid
length_paid is ps [] = refl
length_paid is ps (x ∷ xs) = ap suc (length_paid is ps xs)

pub paid_at : (is : List world.Item) (ps : List ℕ) (xs : List world.Account) (a : ℕ) → a < length xs →
    get_or (paid is ps xs) a nobody ≡
    record { cash = (get_or xs a nobody).cash +ℤ gain 0 is ps (get_or xs a nobody); holds = (get_or xs a nobody).holds }
unfolding paid
paid_at is ps [] a h = absurd (omega arith)
paid_at is ps (x ∷ xs) zero h = refl
paid_at is ps (x ∷ xs) (suc a) h = paid_at is ps xs a (le_of_suc-le-suc h)

pub length_new : (bs : List ℕ) (i j n : ℕ) → length (new_items (column bs i n) (column bs j n)) ≡ n
unfolding new_items column
length_new bs i j zero = refl
length_new bs i j (suc n) = ap suc (length_new bs (i + 8) (j + 8) n)

pub new_at : (bs : List ℕ) (i j n k : ℕ) → k < n →
    get_or (new_items (column bs i n) (column bs j n)) k no_item ≡ record { price = four bs (i + 8 * k); band = four bs (j + 8 * k) }
unfolding new_items column
new_at bs i j zero k h = absurd (omega arith)
new_at bs i j (suc n) zero h = let e : i + 8 * 0 ≡ i = omega arith in let f : j + 8 * 0 ≡ j = omega arith in rw (e, f)
new_at bs i j (suc n) (suc k) h =
    let e : i + 8 * suc k ≡ (i + 8) + 8 * k = omega arith in
    let f : j + 8 * suc k ≡ (j + 8) + 8 * k = omega arith in
    rw (e, f) (new_at bs (i + 8) (j + 8) n k (le_of_suc-le-suc h))
