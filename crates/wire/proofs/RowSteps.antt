-- Reports read one by one: each step, and where it ends.
use Rattle.std.proofs.Common.{◌≡◌, ℕ, suc, ◌+◌, ◌<◌, ◌≤◌, List, [], ◌∷◌, ◌++◌, length, Some, None, Option, refl, append_assoc, add-zero, add_assoc, arith}
use Rattle.std.proofs.lemmas.List.{append-nil}
use Rattle.std.proofs.lemmas.Bool.{le-leb, lt-leb}
use Rattle.venue.specs.World as world
use Rattle.wire.specs.Number.{four}
use Rattle.wire.specs.Reports.{after, reads_report, reads_reports, reads_row}

shift : (rs : List world.Report) (o : Option (List world.Report × ℕ)) → after rs 4 o ≡ after rs 0 (after [] 4 o)
shift rs None = refl
shift rs (Some q) = let z : 0 + (4 + q.1) ≡ 4 + q.1 = omega arith in rw z

pub row_start : (bs : List ℕ) (i : ℕ) (rs : List world.Report) → i + 4 ≤ length bs →
    after rs 4 (reads_row (four bs i) bs (i + 4)) ≡ after rs 0 (reads_reports bs i)
unfolding reads_reports
row_start bs i rs l =
    let t = le-leb (i + 4) (length bs) l in
    rw t (shift rs (reads_row (four bs i) bs (i + 4)))

pub row_cut : (bs : List ℕ) (i : ℕ) → length bs < i + 4 → reads_reports bs i ≡ None
unfolding reads_reports
row_cut bs i l = let t = lt-leb (i + 4) (length bs) l in rw t

regroup : (rs : List world.Report) (s : ℕ) (x : world.Report) (k : ℕ) (o : Option (List world.Report × ℕ)) →
    after rs s (after (x ∷ []) k o) ≡ after (rs ++ x ∷ []) (s + k) o
regroup rs s x k None = refl
regroup rs s x k (Some q) =
    let a = append_assoc rs (x ∷ []) q.0 in
    let b = add_assoc s k q.1 in
    rw (a, b)

pub row_step : (bs : List ℕ) (i s n m : ℕ) (rs : List world.Report) (x : world.Report) (k : ℕ) → m ≡ suc n → reads_report bs (i + s) ≡ Some (x, k) →
    after rs s (reads_row m bs (i + s)) ≡ after (rs ++ x ∷ []) (s + k) (reads_row n bs (i + (s + k)))
unfolding reads_row
row_step bs i s n m rs x k p e =
    let a : (i + s) + k ≡ i + (s + k) = add_assoc i s k in
    rw (p, e, a) (regroup rs s x k (reads_row n bs (i + (s + k))))

pub none_of : (rs : List world.Report) (s : ℕ) (o : Option (List world.Report × ℕ)) → after rs s o ≡ None → o ≡ None
none_of rs s None e = refl
none_of rs s (Some q) e = absurd cc

pub row_stop : (bs : List ℕ) (i s n m : ℕ) (rs : List world.Report) → m ≡ suc n → reads_report bs (i + s) ≡ None →
    after rs s (reads_row m bs (i + s)) ≡ None
unfolding reads_row
row_stop bs i s n m rs p e = rw (p, e)

pub row_end : (bs : List ℕ) (j s m : ℕ) (rs : List world.Report) → m ≡ 0 → after rs s (reads_row m bs j) ≡ Some (rs, s)
unfolding reads_row
row_end bs j s m rs p = rw (p, append-nil rs, add-zero s)
