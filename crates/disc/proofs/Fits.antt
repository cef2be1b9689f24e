-- A disc that is not refused holds numbers in range.
use Rattle.std.proofs.Common.{◌≡◌, ℕ, zero, suc, ◌+◌, ◌*◌, ◌≤◌, Bool, true, false, cond, not, ◌&&◌, ltb, List, map, length, Some, None, Option, refl, arith}
use Rattle.std.proofs.lemmas.Bool.{and_parts, ltb-false, or_parts}
use Rattle.std.proofs.lemmas.Bool.Decides.{nat_tests}
use Rattle.wire.specs.Means.{item_of}
use Rattle.wire.specs.Number.{four}
use Rattle.wire.specs.declared.item.Item.{Item}
use Rattle.disc.proofs.Refusals.{taken}
use Rattle.disc.proofs.Steps.{length_items_from}
use Rattle.disc.specs.Block0.{header_refusal, bad_number, bad_item, bad_length, items_from, items_on, accounts_on, orders_on, money_on, numbers_on}
use Rattle.disc.specs.Layout.{needed_bytes}
use Rattle.disc.specs.Sizes.{AreSizesOn}
use Rattle.disc.specs.declared.layout.Sizes.{Sizes}
use Rattle.disc.specs.Numbers.{in_range, numbers_of, counts_fit, items_fit, price_fits, band_fits, count_fits, accounts_fit, orders_fit, money_fits}

four_tests :
    (a b c d : Bool) (o : Option ℕ) →
    cond (not a) (Some 4) (cond (not b) (Some 8) (cond (not c) (Some 12) (cond (not d) (Some 16) o))) ≡ None →
    ((a && (b && (c && d))) ≡ true) × (o ≡ None)
four_tests a b c d o e = (grind arith, grind arith)

pub counts_from :
    (bs : List ℕ) → bad_number bs ≡ None →
    (counts_fit (items_on bs) (accounts_on bs) (orders_on bs) (money_on bs) ≡ true) × (bad_item bs 24 (items_on bs) ≡ None)
counts_from bs e =
    four_tests (count_fits (items_on bs)) (accounts_fit (accounts_on bs)) (orders_fit (orders_on bs)) (money_fits (money_on bs)) (bad_item bs 24 (items_on bs)) e

item_tests :
    (p b : Bool) (i : ℕ) (o : Option ℕ) →
    cond false None (cond (not p) (Some i) (cond false None (cond (not b) (Some (i + 4)) o))) ≡ None → ((p && b) ≡ true) × (o ≡ None)
item_tests p b i o e = (grind arith, grind arith)

pub items_from_fit : (bs : List ℕ) (i n : ℕ) → i + 8 * n ≤ length bs → bad_item bs i n ≡ None → items_fit (items_from bs i n) ≡ true
unfolding items_fit bad_item items_from
items_from_fit bs i zero h e = refl
items_from_fit bs i (suc n) h e =
    let whole_price : ltb (length bs) (i + 4) ≡ false = grind (arith, nat_tests) in
    let whole_band : ltb (length bs) (i + 8) ≡ false = grind (arith, nat_tests) in
    let f = item_tests (price_fits (four bs i)) (band_fits (four bs i) (four bs (i + 4))) i (bad_item bs (i + 8) n) (rw (whole_price, whole_band) at e) in
    rw f.0 (items_from_fit bs (i + 8) n (omega arith) f.1)

whole_if : (n a o l : ℕ) → needed_bytes n a o ≤ l → 24 + 8 * n ≤ l
whole_if n a o l h = omega arith

-- the items lie whole in a disc that is long enough
pub whole_of : (bs : List ℕ) → bad_length bs ≡ false → 24 + 8 * items_on bs ≤ length bs
whole_of bs e =
    whole_if (items_on bs) (accounts_on bs) (orders_on bs) (length bs)
    (ltb-false (length bs) (needed_bytes (items_on bs) (accounts_on bs) (orders_on bs)) (or_parts _ _ e).1)

pub range_on : (bs : List ℕ) → bad_number bs ≡ None → bad_length bs ≡ false → in_range (numbers_on bs) ≡ true
unfolding numbers_on
range_on bs e f =
    let counts = counts_from bs e in
    rw (length_items_from bs 24 (items_on bs), counts.0) (items_from_fit bs 24 (items_on bs) (whole_of bs f) counts.1)

-- what is known of the numbers of a disc that is not refused
pub record Held (bs : List ℕ) : Type 0 where
  pub long : 512 ≤ length bs
  pub few : items_on bs ≤ 256
  pub whole : 24 + 8 * items_on bs ≤ length bs
  pub counts : counts_fit (items_on bs) (accounts_on bs) (orders_on bs) (money_on bs) ≡ true
  pub items : items_fit (items_from bs 24 (items_on bs)) ≡ true
  pub range : in_range (numbers_on bs) ≡ true

pub few_of : (n a o m : ℕ) → counts_fit n a o m ≡ true → n ≤ 256
few_of n a o m e = grind (arith, nat_tests)

pub held : (bs : List ℕ) → header_refusal bs ≡ None → Held bs
held bs e =
    let t = taken bs e in
    let f = counts_from bs t.numbers in
    let whole = whole_of bs t.sized in
    record {
      long = t.long;
      few = few_of (items_on bs) (accounts_on bs) (orders_on bs) (money_on bs) f.0;
      whole = whole;
      counts = f.0;
      items = items_from_fit bs 24 (items_on bs) whole f.1;
      range = range_on bs t.numbers t.sized;
    }

pub same_numbers :
    (bs : List ℕ) (s : Sizes) (m : ℕ) (is : List Item) → AreSizesOn bs s → m ≡ money_on bs →
    map item_of is ≡ items_from bs 24 s.items → numbers_of is s.accounts s.orders m ≡ numbers_on bs
unfolding numbers_on
same_numbers bs s m is on em e = rw (e, on.items, on.accounts, on.orders, em)

-- and the other way round
four_tests_pass :
    (a b c d : Bool) (o : Option ℕ) → (a && (b && (c && d))) ≡ true → o ≡ None →
    cond (not a) (Some 4) (cond (not b) (Some 8) (cond (not c) (Some 12) (cond (not d) (Some 16) o))) ≡ None
four_tests_pass a b c d o e f = grind arith

pub no_bad_number :
    (bs : List ℕ) → counts_fit (items_on bs) (accounts_on bs) (orders_on bs) (money_on bs) ≡ true → bad_item bs 24 (items_on bs) ≡ None →
    bad_number bs ≡ None
no_bad_number bs e f =
    four_tests_pass (count_fits (items_on bs)) (accounts_fit (accounts_on bs)) (orders_fit (orders_on bs)) (money_fits (money_on bs)) (bad_item bs 24 (items_on bs)) e f

pub no_bad_item : (bs : List ℕ) (i n : ℕ) → i + 8 * n ≤ length bs → items_fit (items_from bs i n) ≡ true → bad_item bs i n ≡ None
unfolding items_fit bad_item items_from
no_bad_item bs i zero h e = refl
no_bad_item bs i (suc n) h e =
    let whole_price : ltb (length bs) (i + 4) ≡ false = grind (arith, nat_tests) in
    let whole_band : ltb (length bs) (i + 8) ≡ false = grind (arith, nat_tests) in
    let f = and_parts (price_fits (four bs i) && band_fits (four bs i) (four bs (i + 4))) (items_fit (items_from bs (i + 8) n)) e in
    let g = and_parts (price_fits (four bs i)) (band_fits (four bs i) (four bs (i + 4))) f.0 in
    rw (whole_price, whole_band, g.0, g.1) (no_bad_item bs (i + 8) n (omega arith) f.1)
