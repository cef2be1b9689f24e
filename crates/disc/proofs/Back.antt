-- Numbers that were written are read back.
use Rattle.std.proofs.Common.{◌≡◌, ℕ, zero, suc, ◌+◌, ◌*◌, ◌/◌, ◌%◌, ◌<◌, true, List, [], ◌∷◌, ◌++◌, length, drop, refl, ap, ◌∙◌, add_assoc, arith}
use Rattle.std.proofs.lemmas.List.{get_or-drop}
use Rattle.std.proofs.lemmas.Bool.{and_parts}
use Rattle.std.proofs.lemmas.Bool.Decides.{nat_tests}
use Rattle.venue.specs.World as world
use Rattle.wire.specs.Number.{four, eight, two_of, four_of, eight_of}
use Rattle.disc.specs.Block0.{items_from, items_on, accounts_on, orders_on, money_on, has_mark}
use Rattle.disc.specs.New.{items_bytes, start_bytes}
use Rattle.disc.specs.Numbers.{item_fits, items_fit}

two_join : (n : ℕ) → n < 65536 → n % 256 + n / 256 % 256 * 256 ≡ n
two_join n h = omega arith

four_join :
    (n : ℕ) → n < 4294967296 →
    (n % 65536 % 256 + n % 65536 / 256 % 256 * 256) + (n / 65536 % 256 + n / 65536 / 256 % 256 * 256) * 65536 ≡ n
four_join n h =
    let low : n % 65536 < 65536 = omega arith in
    let high : n / 65536 < 65536 = omega arith in
    rw (two_join (n % 65536) low, two_join (n / 65536) high) (omega arith)

four_drop : (bs : List ℕ) (k i : ℕ) → four bs (k + i) ≡ four (drop k bs) i
four_drop bs k i = simp (get_or-drop, add_assoc)

eight_back : (n : ℕ) (t : List ℕ) → n < 18446744073709551616 → eight (eight_of n ++ t) 0 ≡ n
unfolding eight_of four_of two_of
eight_back n t h =
    let low : n % 4294967296 < 4294967296 = omega arith in
    let high : n / 4294967296 < 4294967296 = omega arith in
    rw (four_join (n % 4294967296) low, four_join (n / 4294967296) high) (omega arith)

items_from_drop : (bs : List ℕ) (k i n : ℕ) → items_from bs (k + i) n ≡ items_from (drop k bs) i n
unfolding items_from
items_from_drop bs k i zero = refl
items_from_drop bs k i (suc n) =
    rw (four_drop bs k i, add_assoc k i 4, four_drop bs k (i + 4), add_assoc k i 8, items_from_drop bs k (i + 8) n)

small : (i : world.Item) → item_fits i ≡ true → (i.price < 4294967296) × (i.band < 4294967296)
small i e = (grind (arith, nat_tests), grind (arith, nat_tests))

pub items_back : (is : List world.Item) (t : List ℕ) → items_fit is ≡ true → items_from (items_bytes is ++ t) 0 (length is) ≡ is
unfolding items_from items_bytes items_fit four_of two_of
items_back [] t e = refl
items_back (i ∷ is) t e =
    let p = and_parts (item_fits i) (items_fit is) e in
    let s = small i p.0 in
    rw (four_join i.price s.0, four_join i.band s.1, items_from_drop (items_bytes (i ∷ is) ++ t) 8 0 (length is), items_back is t p.1)

-- the four numbers, with anything behind them
pub record Started (n a o m : ℕ) (bs t : List ℕ) : Type 0 where
  pub mark : has_mark bs ≡ true
  pub items : items_on bs ≡ n
  pub accounts : accounts_on bs ≡ a
  pub orders : orders_on bs ≡ o
  pub money : money_on bs ≡ m
  pub rest : drop 24 bs ≡ t

pub started :
    (n a o m : ℕ) (t : List ℕ) → n < 4294967296 → a < 4294967296 → o < 4294967296 → m < 18446744073709551616 →
    Started n a o m (start_bytes n a o m ++ t) t
unfolding start_bytes eight_of four_of two_of
started n a o m t hn ha ho hm =
    record {
      mark = refl;
      items = four_join n hn;
      accounts = four_join a ha;
      orders = four_join o ho;
      money = eight_back m t hm;
      rest = refl;
    }

pub items_at : (bs t : List ℕ) (is : List world.Item) → drop 24 bs ≡ items_bytes is ++ t → items_fit is ≡ true → items_from bs 24 (length is) ≡ is
items_at bs t is e f = items_from_drop bs 24 0 (length is) ∙ ap (λ l. items_from l 0 (length is)) e ∙ items_back is t f
