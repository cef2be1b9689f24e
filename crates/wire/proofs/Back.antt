-- A message that was written is read.
use Rattle.std.proofs.Common.{◌≡◌, ℕ, ◌+◌, ◌*◌, ◌<◌, ◌≤◌, leb, true, List, [], ◌∷◌, ◌++◌, length, get_or, Some, Option, refl, ap, arith}
use Rattle.std.proofs.lemmas.Bool.{le-leb}
use Rattle.venue.specs.World as world
use Rattle.wire.specs.Field.{Holds}
use Rattle.wire.specs.Means.{column}
use Rattle.wire.specs.Messages.{whole, side_byte, side_in, reads, reads_kind, reads_place, pairs, writes, Fits}
use Rattle.wire.specs.Laws.{MessageBack}
use Rattle.wire.proofs.Columns.{length_pairs, pairs_held}
use Rattle.wire.proofs.Numbers.{byte_laws, eight_laws, four_laws, two_laws}
use Rattle.wire.proofs.Parts.{part, read_back, then}
use Rattle.wire.proofs.Places.{behind, inside}
use Rattle.wire.proofs.Whole.{first, stands, whole_is}

side_back : (s : world.Side) → (side_in (side_byte s) ≡ s) × (side_byte s ≤ 1)
side_back world.buy = (refl, omega arith)
side_back world.sell = (refl, omega arith)

placed : (bs : List ℕ) (i a k : ℕ) (s : world.Side) (p q : ℕ) → Fits 0 (world.place a k s p q) → Holds bs i (writes (world.place a k s p q)) →
    reads_place bs i ≡ Some (world.place a k s p q, length (writes (world.place a k s p q)))
unfolding reads_place writes Fits
placed bs i a k s p q f h =
    let b = side_back s in
    let side = b.0 in
    let x : ℕ × (ℕ × (ℕ × (ℕ × ℕ))) = (a, (k, (side_byte s, (p, q)))) in
    let l = then (part 1 two_laws) (then (part 3 two_laws) (then (part 5 byte_laws) (then (part 6 four_laws) (part 10 four_laws)))) in
    let fits : (a < 65536) × ((k < 65536) × ((side_byte s < 256) × ((p < 4294967296) × (q < 4294967296)))) =
    (f.0, (f.1, (omega (arith, b.1), (f.2, f.3)))) in
    let e = read_back 14 l (λ (t : ℕ × (ℕ × (ℕ × (ℕ × ℕ)))). world.place t.0 t.1.0 (side_in t.1.1.0) t.1.1.1.0 t.1.1.1.1) 3 bs i x fits h in
    let y : get_or bs (i + 5) 0 ≡ side_byte s =
    ap (λ (t : ℕ × (ℕ × (ℕ × (ℕ × ℕ)))). t.1.1.0) (l.back bs i x fits (behind bs i (i + 1) (3 ∷ []) _ refl h)) in
    let t : leb (get_or bs (i + 5) 0) 1 ≡ true = rw y (le-leb (side_byte s) 1 b.1) in
    rw t (rw side at e)

evening : (bs : List ℕ) (i n : ℕ) (ps qs : List ℕ) → Fits n (world.end_day ps qs) → Holds bs i (5 ∷ pairs ps qs) →
    whole bs i (1 + 8 * n) (world.end_day (column bs (i + 1) n) (column bs (i + 5) n)) ≡ Some (world.end_day ps qs, length (5 ∷ pairs ps qs))
unfolding Fits
evening bs i n ps qs f h =
    let t : Holds bs (i + 1) (pairs ps qs) = behind bs i (i + 1) (5 ∷ []) (pairs ps qs) refl h in
    let c = pairs_held bs (i + 1) n ps qs f.0 f.1 f.2 f.3 t in
    let s : (i + 1) + 4 ≡ i + 5 = omega arith in
    let c0 = c.0 in
    let c1 : column bs (i + 5) n ≡ qs = rw s at c.1 in
    let d = length_pairs ps qs n f.0 f.1 in
    let e : length (5 ∷ pairs ps qs) ≡ 1 + 8 * n = omega arith in
    let l : i + (1 + 8 * n) ≤ length bs = rw e at (inside bs i (5 ∷ pairs ps qs) (omega arith) h) in
    rw (c0, c1, e) (whole_is bs i (1 + 8 * n) (world.end_day ps qs) l)

-- the kind that stands there says how it is read
by_kind : (bs : List ℕ) (i n h : ℕ) (o : Option (world.Message × ℕ)) → get_or bs i 0 ≡ h → reads_kind h bs i n ≡ o → reads bs i n ≡ o
unfolding reads
by_kind bs i n h o e r = rw e r

-- where its bytes stand, a message that fits is read
pub stands_read : (bs : List ℕ) (i n : ℕ) (m : world.Message) → Fits n m → Holds bs i (writes m) → reads bs i n ≡ Some (m, length (writes m))
unfolding writes Fits
stands_read bs i n (world.pay_in a x) f h =
    by_kind bs i n 1 _ (first bs i 1 _ h)
    (read_back 11 (then (part 1 two_laws) (part 3 eight_laws)) (λ (t : ℕ × ℕ). world.pay_in t.0 t.1) 1 bs i (a, x) f h)
stands_read bs i n (world.pay_out a x) f h =
    by_kind bs i n 2 _ (first bs i 2 _ h)
    (read_back 11 (then (part 1 two_laws) (part 3 eight_laws)) (λ (t : ℕ × ℕ). world.pay_out t.0 t.1) 2 bs i (a, x) f h)
stands_read bs i n (world.place a k s p q) f h = by_kind bs i n 3 _ (first bs i 3 _ h) (placed bs i a k s p q f h)
stands_read bs i n (world.cancel a x) f h =
    by_kind bs i n 4 _ (first bs i 4 _ h)
    (read_back 11 (then (part 1 two_laws) (part 3 eight_laws)) (λ (t : ℕ × ℕ). world.cancel t.0 t.1) 4 bs i (a, x) f h)
stands_read bs i n (world.end_day ps qs) f h = by_kind bs i n 5 _ (first bs i 5 _ h) (evening bs i n ps qs f h)
stands_read bs i n world.begin_day f h =
    by_kind bs i n 6 _ (first bs i 6 [] h) (whole_is bs i 1 world.begin_day (inside bs i (6 ∷ []) (omega arith) h))

pub message_back : MessageBack
message_back before rest n m f = stands_read (before ++ (writes m ++ rest)) (length before) n m f (stands before (writes m) rest)
