-- One item of a row after another.
use Rattle.std.proofs.Common.{◌≡◌, ℕ, zero, suc, ◌+◌, ◌*◌, ◌<◌, Bool, true, cond, not, ltb, List, [], ◌∷◌, ◌++◌, map, length, Some, None, Option, sym, refl, ap, ◌∙◌, add-one, arith}
use Rattle.std.proofs.lemmas.Bool.{lt-ltb}
use Rattle.std.proofs.lemmas.Bool.Decides.{nat_tests}
use Rattle.std.proofs.lemmas.List.{length-map, map-append}
use Rattle.venue.specs.World as world
use Rattle.wire.specs.Means.{item_in, item_of}
use Rattle.wire.specs.Number.{four}
use Rattle.wire.specs.declared.item.Item.{Item}
use Rattle.disc.specs.Numbers.{price_fits, band_fits}
use Rattle.disc.specs.Block0.{bad_item, items_from}

pub bad_item_one :
    (bs : List ℕ) (i : ℕ) → bad_item bs i 1 ≡
    cond (ltb (length bs) (i + 4)) None
    (cond (not (price_fits (four bs i))) (Some i)
    (cond (ltb (length bs) (i + 8)) None
    (cond (not (band_fits (four bs i) (four bs (i + 4)))) (Some (i + 4)) None)))
unfolding bad_item
bad_item_one bs i = refl

pub ruleset item_tests = (bad_item_one, nat_tests)

pub bad_item_end : (bs : List ℕ) (i : ℕ) → bad_item bs i 0 ≡ None
unfolding bad_item
bad_item_end bs i = refl

-- behind the disc's end nothing is bad
pub past_end : (bs : List ℕ) (i n : ℕ) → length bs < i + 4 → bad_item bs i n ≡ None
unfolding bad_item
past_end bs i zero h = refl
past_end bs i (suc n) h = rw (lt-ltb (length bs) (i + 4) h)

skipped :
    (a b c d : Bool) (i : ℕ) (o : Option ℕ) → (a ≡ true → o ≡ None) → (c ≡ true → o ≡ None) →
    cond a None (cond (not b) (Some i) (cond c None (cond (not d) (Some (i + 4)) None))) ≡ None →
    cond a None (cond (not b) (Some i) (cond c None (cond (not d) (Some (i + 4)) o))) ≡ o
skipped a b c d i o h g e = grind arith

-- where the first item is good, the rest decides
pub bad_item_skip : (bs : List ℕ) (i n : ℕ) → bad_item bs i 1 ≡ None → bad_item bs i (suc n) ≡ bad_item bs (i + 8) n
unfolding bad_item
bad_item_skip bs i n e =
    skipped (ltb (length bs) (i + 4)) (price_fits (four bs i)) (ltb (length bs) (i + 8)) (band_fits (four bs i) (four bs (i + 4))) i (bad_item bs (i + 8) n)
    (λ h. past_end bs (i + 8) n (grind (arith, nat_tests))) (λ h. past_end bs (i + 8) n (grind (arith, nat_tests))) e

found :
    (a b c d : Bool) (i at : ℕ) (o : Option ℕ) →
    cond a None (cond (not b) (Some i) (cond c None (cond (not d) (Some (i + 4)) None))) ≡ Some at →
    cond a None (cond (not b) (Some i) (cond c None (cond (not d) (Some (i + 4)) o))) ≡ Some at
found a b c d i at o e = grind arith

pub bad_item_found : (bs : List ℕ) (i n at : ℕ) → bad_item bs i 1 ≡ Some at → bad_item bs i (suc n) ≡ Some at
unfolding bad_item
bad_item_found bs i n at e =
    found (ltb (length bs) (i + 4)) (price_fits (four bs i)) (ltb (length bs) (i + 8)) (band_fits (four bs i) (four bs (i + 4))) i at (bad_item bs (i + 8) n) e

pub length_items_from : (bs : List ℕ) (i n : ℕ) → length (items_from bs i n) ≡ n
unfolding items_from
length_items_from bs i zero = refl
length_items_from bs i (suc n) = ap suc (length_items_from bs (i + 8) n)

-- the item after the first n
unfoldable item_at : List ℕ → ℕ → world.Item
item_at bs i = record { price = four bs i; band = four bs (i + 4) }

items_from_suc : (bs : List ℕ) (i n : ℕ) → items_from bs i (suc n) ≡ items_from bs i n ++ item_at bs (i + 8 * n) ∷ []
unfolding items_from item_at
items_from_suc bs i zero = let e : i + 8 * 0 ≡ i = omega arith in rw e
items_from_suc bs i (suc n) =
    let e : i + 8 * suc n ≡ i + 8 + 8 * n = omega arith in rw e (ap (λ r. item_at bs i ∷ r) (items_from_suc bs (i + 8) n))

-- one more item is read
pub items_more :
    (bs : List ℕ) (i n : ℕ) (is js : List Item) →
    map item_of is ≡ items_from bs i n → js ≡ is ++ item_in bs (i + 8 * n) ∷ [] → map item_of js ≡ items_from bs i (n + 1)
unfolding item_at
items_more bs i n is js e f = rw (add-one, items_from_suc, f, map-append, e)

pub length_more : (bs : List ℕ) (i n : ℕ) (is : List Item) → map item_of is ≡ items_from bs i n → length is ≡ n
length_more bs i n is e = sym (length-map is item_of) ∙ ap length e ∙ length_items_from bs i n
