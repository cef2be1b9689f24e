-- An evening's prices and bands: as a column of numbers, by their index, and as the bytes that they were written to.
use Rattle.std.proofs.Common.{◌≡◌, ℕ, zero, suc, ◌+◌, ◌*◌, ◌^◌, ◌<◌, ◌≤◌, List, [], ◌∷◌, ◌++◌, map, length, get_or, refl, ap, arith, length-append}
use Rattle.std.specs.List.{flat_map, AllByRecursion}
use Rattle.wire.specs.Field.{Bytes, FieldLaws, Holds}
use Rattle.wire.specs.Number.{four, four_of}
use Rattle.wire.specs.Means.{column, evening_of, item_bytes, item_fits, item_in}
use Rattle.wire.specs.Messages.{pairs, writes}
use Rattle.wire.specs.declared.item.Item.{Item}
use Rattle.wire.proofs.Numbers.{four_laws}
use Rattle.wire.proofs.Parts.{here, part, then}
use Rattle.wire.proofs.Places.{behind, both, front}

-- a price and its band
two_fours : FieldLaws 8 (λ (x : ℕ × ℕ). four_of x.0 ++ four_of x.1) (λ bs i. (four bs i, four bs (i + 4))) (λ x. (x.0 < 2 ^ 32) × (x.1 < 2 ^ 32))
two_fours =
    let l = then (here four_laws) (part 4 four_laws) in
    record {
      sized = λ x. let e = l.sized 0 x in omega arith;
      back = l.back;
      fits = λ bs i b. (four_laws.fits bs i b, four_laws.fits bs (i + 4) b);
      only = l.only;
    }

pub item_laws : FieldLaws 8 item_bytes item_in item_fits
item_laws = record {
  sized = λ x. two_fours.sized (x.price, x.band);
  back = λ bs i x f h. ap (λ (t : ℕ × ℕ). let y : Item = record { price = t.0; band = t.1 } in y) (two_fours.back bs i (x.price, x.band) f h);
  fits = two_fours.fits;
  only = two_fours.only;
}

pub length_column : (bs : List ℕ) (i n : ℕ) → length (column bs i n) ≡ n
unfolding column
length_column bs i zero = refl
length_column bs i (suc n) = ap suc (length_column bs (i + 8) n)

pub get_or_column : (bs : List ℕ) (i n k : ℕ) → k < n → get_or (column bs i n) k 0 ≡ four bs (i + 8 * k)
unfolding column
get_or_column bs i zero k l = absurd (omega arith)
get_or_column bs i (suc n) zero l = let e : i + 8 * 0 ≡ i = omega arith in rw e
get_or_column bs i (suc n) (suc k) l =
    let e : i + 8 * suc k ≡ (i + 8) + 8 * k = omega arith in
    rw e (get_or_column bs (i + 8) n k (omega arith))

pub column_below : (bs : List ℕ) (i n : ℕ) → Bytes bs → AllByRecursion (λ p. p < 2 ^ 32) (column bs i n)
unfolding column
column_below bs i zero b = tt
column_below bs i (suc n) b = (four_laws.fits bs i b, column_below bs (i + 8) n b)

pub length_pairs : (ps qs : List ℕ) (n : ℕ) → length ps ≡ n → length qs ≡ n → length (pairs ps qs) ≡ 8 * n
unfolding pairs
length_pairs [] qs n a b = omega arith
length_pairs (p ∷ ps) [] n a b = absurd (omega arith)
length_pairs (p ∷ ps) (q ∷ qs) zero a b = absurd (omega arith)
length_pairs (p ∷ ps) (q ∷ qs) (suc n) a b =
    let h = length_pairs ps qs n (omega arith) (omega arith) in
    let x = two_fours.sized (p, q) in
    rw length-append (omega arith)

-- the columns of an evening that was written are its prices and bands
pub pairs_held : (bs : List ℕ) (i n : ℕ) (ps qs : List ℕ) → length ps ≡ n → length qs ≡ n →
    AllByRecursion (λ p. p < 2 ^ 32) ps → AllByRecursion (λ q. q < 2 ^ 32) qs → Holds bs i (pairs ps qs) → (column bs i n ≡ ps) × (column bs (i + 4) n ≡ qs)
unfolding column pairs
pairs_held bs i zero [] [] a b f g h = (refl, refl)
pairs_held bs i zero [] (q ∷ qs) a b f g h = absurd (omega arith)
pairs_held bs i zero (p ∷ ps) qs a b f g h = absurd (omega arith)
pairs_held bs i (suc n) [] qs a b f g h = absurd (omega arith)
pairs_held bs i (suc n) (p ∷ ps) [] a b f g h = absurd (omega arith)
pairs_held bs i (suc n) (p ∷ ps) (q ∷ qs) a b f g h =
    let x = four_of p ++ four_of q in
    let d : i + length x ≡ i + 8 = ap (λ (k : ℕ). i + k) (two_fours.sized (p, q)) in
    let one = two_fours.back bs i (p, q) (f.0, g.0) (front bs i x (pairs ps qs) h) in
    let more = pairs_held bs (i + 8) n ps qs (omega arith) (omega arith) f.1 g.1 (behind bs i (i + 8) x (pairs ps qs) d h) in
    let s : (i + 4) + 8 ≡ (i + 8) + 4 = omega arith in
    let u : four bs i ≡ p = ap (λ (t : ℕ × ℕ). t.0) one in
    let v : four bs (i + 4) ≡ q = ap (λ (t : ℕ × ℕ). t.1) one in
    let m0 = more.0 in
    let m1 = more.1 in
    (cc, cc)

-- and what lies there is what writing the columns gives, and they fit
pub pairs_only : (bs : List ℕ) (i n : ℕ) → Bytes bs → i + 8 * n ≤ length bs →
    Holds bs i (pairs (column bs i n) (column bs (i + 4) n)) × AllByRecursion (λ p. p < 2 ^ 32) (column bs i n) × AllByRecursion (λ q. q < 2 ^ 32) (column bs (i + 4) n)
unfolding column pairs
pairs_only bs i zero b l = (refl, tt, tt)
pairs_only bs i (suc n) b l =
    let x = four_of (four bs i) ++ four_of (four bs (i + 4)) in
    let d : i + length x ≡ i + 8 = ap (λ (k : ℕ). i + k) (two_fours.sized (four bs i, four bs (i + 4))) in
    let s : (i + 4) + 8 ≡ (i + 8) + 4 = omega arith in
    let one = two_fours.only bs i b (omega arith) in
    let more = pairs_only bs (i + 8) n b (omega arith) in
    rw s (both bs i (i + 8) x _ d one.0 more.0, (one.1.0, more.1), (one.1.1, more.2))

-- ---- an evening from items

pub pairs_rows : (is : List Item) → pairs (map (λ (i : Item). i.price) is) (map (λ (i : Item). i.band) is) ≡ flat_map item_bytes is
unfolding pairs
pairs_rows [] = refl
pairs_rows (i ∷ is) = ap (λ (xs : List ℕ). item_bytes i ++ xs) (pairs_rows is)

pub evening_written : (is : List Item) → writes (evening_of is) ≡ 5 ∷ flat_map item_bytes is
unfolding writes
evening_written is = ap (λ (xs : List ℕ). 5 ∷ xs) (pairs_rows is)
