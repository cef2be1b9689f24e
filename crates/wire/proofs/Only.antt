-- Bytes that are read as a message are those that writing it gives.
use Rattle.std.proofs.Common.{◌≡◌, ℕ, ◌+◌, ◌*◌, ◌≤◌, eqb, leb, List, [], ◌∷◌, length, get_or, take, drop, Some, None, refl, ◌∙◌, arith}
use Rattle.std.proofs.lemmas.Bool.{eqb-true, leb-true}
use Rattle.std.proofs.lemmas.Bool.Decides.{nat_tests}
use Rattle.venue.specs.World as world
use Rattle.wire.specs.Field.{Bytes}
use Rattle.wire.specs.Means.{column}
use Rattle.wire.specs.Messages.{side_byte, side_in, reads, reads_kind, reads_place, pairs, writes, Fits}
use Rattle.wire.specs.Laws.{MessageOnly}
use Rattle.wire.proofs.Columns.{length_column, length_pairs, pairs_only}
use Rattle.wire.proofs.Numbers.{byte_laws, eight_laws, four_laws, two_laws}
use Rattle.wire.proofs.Parts.{kind_stands, part, read_only, then}
use Rattle.wire.proofs.Places.{both}
use Rattle.wire.proofs.Whole.{all_bytes, by_pick, cut, known}

-- the bytes at place i are k bytes that writing m gives, and it fits
abbrev Written : List ℕ → ℕ → ℕ → world.Message → ℕ → Type 0
Written bs i n m k = (take k (drop i bs) ≡ writes m) × Fits n m

side_only : (y : ℕ) → y ≤ 1 → side_byte (side_in y) ≡ y
side_only y l = grind (arith, nat_tests)

evening : (bs : List ℕ) (i n : ℕ) → Bytes bs → get_or bs i 0 ≡ 5 → i + (1 + 8 * n) ≤ length bs →
    Written bs i n (world.end_day (column bs (i + 1) n) (column bs (i + 5) n)) (1 + 8 * n)
unfolding writes Fits
evening bs i n b e l =
    let ps = column bs (i + 1) n in
    let qs = column bs (i + 5) n in
    let f : (i + 1) + 4 ≡ i + 5 = omega arith in
    let o = rw f at (pairs_only bs (i + 1) n b (omega arith)) in
    let p = length_column bs (i + 1) n in
    let q = length_column bs (i + 5) n in
    let k = length_pairs ps qs n p q in
    (cut bs i (1 + 8 * n) (5 ∷ pairs ps qs) (omega arith) (both bs i (i + 1) (5 ∷ []) (pairs ps qs) refl (kind_stands bs i 5 e (omega arith)) o.0), (p, q, o.1, o.2))

-- each kind in turn
only_place : (bs : List ℕ) (i n : ℕ) (m : world.Message) (k : ℕ) → Bytes bs → get_or bs i 0 ≡ 3 → reads_place bs i ≡ Some (m, k) → Written bs i n m k
unfolding reads_place writes Fits
only_place bs i n m k b e r =
    by_pick (leb (get_or bs (i + 5) 0) 1) _ None (Some (m, k)) r
    (λ t w. known (Written bs i n) bs i 14 _ m k w (λ l.
    let o = read_only 14 (then (part 1 two_laws) (then (part 3 two_laws) (then (part 5 byte_laws) (then (part 6 four_laws) (part 10 four_laws))))) 3 bs i b e l in
    let side = side_only (get_or bs (i + 5) 0) (leb-true (get_or bs (i + 5) 0) 1 t) in
    (rw side o.0, (o.1.0, o.1.1.0, o.1.1.1.1.0, o.1.1.1.1.1))))
    (λ t w. absurd cc)

only_kind : (bs : List ℕ) (i n : ℕ) (m : world.Message) (k h : ℕ) → Bytes bs → get_or bs i 0 ≡ h → reads_kind h bs i n ≡ Some (m, k) → Written bs i n m k
unfolding writes Fits
only_kind bs i n m k h b e r =
    by_pick (eqb h 1) _ _ (Some (m, k)) r
    (λ t w. known (Written bs i n) bs i 11 _ m k w (read_only 11 (then (part 1 two_laws) (part 3 eight_laws)) 1 bs i b (e ∙ eqb-true h 1 t)))
    (λ _ r2. by_pick (eqb h 2) _ _ (Some (m, k)) r2
    (λ t w. known (Written bs i n) bs i 11 _ m k w (read_only 11 (then (part 1 two_laws) (part 3 eight_laws)) 2 bs i b (e ∙ eqb-true h 2 t)))
    (λ _ r3. by_pick (eqb h 3) _ _ (Some (m, k)) r3
    (λ t w. only_place bs i n m k b (e ∙ eqb-true h 3 t) w)
    (λ _ r4. by_pick (eqb h 4) _ _ (Some (m, k)) r4
    (λ t w. known (Written bs i n) bs i 11 _ m k w (read_only 11 (then (part 1 two_laws) (part 3 eight_laws)) 4 bs i b (e ∙ eqb-true h 4 t)))
    (λ _ r5. by_pick (eqb h 5) _ _ (Some (m, k)) r5
    (λ t w. known (Written bs i n) bs i (1 + 8 * n) _ m k w (evening bs i n b (e ∙ eqb-true h 5 t)))
    (λ _ r6. by_pick (eqb h 6) _ None (Some (m, k)) r6
    (λ t w. known (Written bs i n) bs i 1 _ m k w (λ l. (kind_stands bs i 6 (e ∙ eqb-true h 6 t) l, tt)))
    (λ _ w. absurd cc))))))

pub read_message_only : (bs : List ℕ) (i n : ℕ) (m : world.Message) (k : ℕ) → Bytes bs → reads bs i n ≡ Some (m, k) → (take k (drop i bs) ≡ writes m) × Fits n m
unfolding reads
read_message_only bs i n m k b r = only_kind bs i n m k (get_or bs i 0) b refl r

pub message_only : MessageOnly
message_only bs i n m k a r = read_message_only bs i n m k (all_bytes bs a) r
