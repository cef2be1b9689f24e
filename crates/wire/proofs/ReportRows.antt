-- A message's reports together: what was written is read, and only that.
use Rattle.std.proofs.Common.{◌≡◌, ℕ, zero, suc, ◌+◌, ◌^◌, ◌<◌, ◌≤◌, leb, List, [], ◌∷◌, ◌++◌, length, take, drop, Some, None, Option, refl, ap, subst, arith, length-append, take-add}
use Rattle.std.proofs.lemmas.List.{drop-drop}
use Rattle.std.proofs.lemmas.Bool.{le-leb, leb-true}
use Rattle.std.specs.List.{flat_map, AllByRecursion}
use Rattle.venue.specs.World as world
use Rattle.wire.specs.Field.{Bytes, Holds}
use Rattle.wire.specs.Laws.{ReportBack, ReportOnly, ReportsBack, ReportsOnly}
use Rattle.wire.specs.Number.{four, four_of}
use Rattle.wire.specs.Reports.{after, go_on, reads_report, reads_reports, reads_row, report_bytes, ReportFits, reports_bytes}
use Rattle.wire.proofs.Numbers.{four_laws}
use Rattle.wire.proofs.Places.{front, behind, inside}
use Rattle.wire.proofs.ReportBack.{report_read}
use Rattle.wire.proofs.ReportOnly.{report_only}
use Rattle.wire.proofs.Whole.{all_bytes, by_pick, cut, some_pair, stands}

pub report_back : ReportBack
report_back before rest r f = report_read (before ++ (report_bytes r ++ rest)) (length before) r f (stands before (report_bytes r) rest)

pub report_only_that : ReportOnly
report_only_that bs i r k a e = report_only bs i r k (all_bytes bs a) e

-- ---- what was written is read

row_read : (bs : List ℕ) (rs : List world.Report) (i : ℕ) → AllByRecursion ReportFits rs → Holds bs i (flat_map report_bytes rs) →
    reads_row (length rs) bs i ≡ Some (rs, length (flat_map report_bytes rs))
unfolding reads_row
row_read bs [] i f h = refl
row_read bs (r ∷ rs) i f h =
    let x = report_bytes r in
    let xs = flat_map report_bytes rs in
    let e = report_read bs i r f.0 (front bs i x xs h) in
    let m = row_read bs rs (i + length x) f.1 (behind bs i (i + length x) x xs refl h) in
    rw (e, m, length-append)

reports_read : (bs : List ℕ) (rs : List world.Report) (i : ℕ) → AllByRecursion ReportFits rs → length rs < 2 ^ 32 → Holds bs i (reports_bytes rs) →
    reads_reports bs i ≡ Some (rs, length (reports_bytes rs))
unfolding reads_reports reports_bytes
reports_read bs rs i f l h =
    let x = four_of (length rs) in
    let xs = flat_map report_bytes rs in
    let n = four_laws.sized (length rs) in
    let d : i + length x ≡ i + 4 = ap (λ (k : ℕ). i + k) n in
    let e = four_laws.back bs i (length rs) l (front bs i x xs h) in
    let m = row_read bs rs (i + 4) f (behind bs i (i + 4) x xs d h) in
    let k : i + length x ≤ length bs = inside bs i x (omega arith) (front bs i x xs h) in
    let t = le-leb (i + 4) (length bs) (omega arith) in
    rw (t, e, m, length-append, n)

pub reports_back : ReportsBack
reports_back before rest rs f l =
    reports_read (before ++ (reports_bytes rs ++ rest)) rs (length before) f l (stands before (reports_bytes rs) rest)

-- ---- and only that

-- k bytes at place i are those of n reports, which fit
abbrev Row : List ℕ → ℕ → ℕ → List world.Report → ℕ → Type 0
Row bs i n rs k = (take k (drop i bs) ≡ flat_map report_bytes rs) × AllByRecursion ReportFits rs × (length rs ≡ n)

row_cons : (bs : List ℕ) (i n : ℕ) (r : world.Report) (j : ℕ) (rs : List world.Report) (k : ℕ) →
    (take j (drop i bs) ≡ report_bytes r) × ReportFits r → Row bs (i + j) n rs k → Row bs i (suc n) (r ∷ rs) (j + k)
row_cons bs i n r j rs k h t =
    let a = h.0 in
    let b = t.0 in
    let d : drop j (drop i bs) ≡ drop (i + j) bs = drop-drop j i bs in
    (rw (take-add, a, d, b), (h.1, t.1), ap suc t.2)

-- the first report and then the others, of which it is known
row_two : (n : ℕ) (bs : List ℕ) (i : ℕ) (rs : List world.Report) (k : ℕ) (r : world.Report) (j : ℕ) (o : Option (List world.Report × ℕ)) →
    (take j (drop i bs) ≡ report_bytes r) × ReportFits r → ((qs : List world.Report) (l : ℕ) → o ≡ Some (qs, l) → Row bs (i + j) n qs l) →
    after (r ∷ []) j o ≡ Some (rs, k) → Row bs i (suc n) rs k
row_two n bs i rs k r j None h more w = absurd cc
row_two n bs i rs k r j (Some q) h more w =
    let p = some_pair (r ∷ q.0) rs (j + q.1) k w in
    subst (λ (x : List world.Report). Row bs i (suc n) x k) p.0
    (subst (λ (y : ℕ). Row bs i (suc n) (r ∷ q.0) y) p.1 (row_cons bs i n r j q.0 q.1 h (more q.0 q.1 refl)))

row_one : (n : ℕ) (bs : List ℕ) (i : ℕ) (rs : List world.Report) (k : ℕ) (o : Option (world.Report × ℕ)) → Bytes bs → reads_report bs i ≡ o →
    ((j : ℕ) (qs : List world.Report) (l : ℕ) → reads_row n bs (i + j) ≡ Some (qs, l) → Row bs (i + j) n qs l) →
    go_on o (λ j. reads_row n bs (i + j)) ≡ Some (rs, k) → Row bs i (suc n) rs k
row_one n bs i rs k None b u more w = absurd cc
row_one n bs i rs k (Some p) b u more w =
    row_two n bs i rs k p.0 p.1 (reads_row n bs (i + p.1)) (report_only bs i p.0 p.1 b u) (more p.1) w

row_only : (n : ℕ) (bs : List ℕ) (i : ℕ) (rs : List world.Report) (k : ℕ) → Bytes bs → reads_row n bs i ≡ Some (rs, k) → Row bs i n rs k
unfolding reads_row
row_only zero bs i rs k b e =
    let p = some_pair [] rs 0 k e in
    subst (λ (x : List world.Report). Row bs i 0 x k) p.0 (subst (λ (y : ℕ). Row bs i 0 [] y) p.1 (refl, tt, refl))
row_only (suc n) bs i rs k b e =
    row_one n bs i rs k (reads_report bs i) b refl (λ j qs l r. row_only n bs (i + j) qs l b r) e

-- k bytes at place i are those of the reports and their number
abbrev Together : List ℕ → ℕ → List world.Report → ℕ → Type 0
Together bs i rs k = (take k (drop i bs) ≡ reports_bytes rs) × AllByRecursion ReportFits rs × (length rs < 2 ^ 32)

counted : (bs : List ℕ) (i : ℕ) (rs : List world.Report) (k : ℕ) → Bytes bs → i + 4 ≤ length bs → Row bs (i + 4) (four bs i) rs k → Together bs i rs (4 + k)
unfolding reports_bytes
counted bs i rs k b l h =
    let n = h.2 in
    let t = h.0 in
    let o = four_laws.only bs i b l in
    let x : take 4 (drop i bs) ≡ four_of (four bs i) = cut bs i 4 (four_of (four bs i)) (four_laws.sized (four bs i)) o.0 in
    let d : drop 4 (drop i bs) ≡ drop (i + 4) bs = drop-drop 4 i bs in
    (rw (take-add 4 k (drop i bs), x, d, t, n), h.1, rw n o.1)

together : (bs : List ℕ) (i : ℕ) (rs : List world.Report) (k : ℕ) (o : Option (List world.Report × ℕ)) → Bytes bs → i + 4 ≤ length bs →
    reads_row (four bs i) bs (i + 4) ≡ o → after [] 4 o ≡ Some (rs, k) → Together bs i rs k
together bs i rs k None b l e w = absurd cc
together bs i rs k (Some q) b l e w =
    let p = some_pair q.0 rs (4 + q.1) k w in
    subst (λ (x : List world.Report). Together bs i x k) p.0
    (subst (λ (y : ℕ). Together bs i q.0 y) p.1 (counted bs i q.0 q.1 b l (row_only (four bs i) bs (i + 4) q.0 q.1 b e)))

pub reports_only : (bs : List ℕ) (i : ℕ) (rs : List world.Report) (k : ℕ) → Bytes bs → reads_reports bs i ≡ Some (rs, k) →
    (take k (drop i bs) ≡ reports_bytes rs) × AllByRecursion ReportFits rs × (length rs < 2 ^ 32)
unfolding reads_reports
reports_only bs i rs k b e =
    by_pick (leb (i + 4) (length bs)) _ None (Some (rs, k)) e
    (λ t w. together bs i rs k (reads_row (four bs i) bs (i + 4)) b (leb-true (i + 4) (length bs) t) refl w)
    (λ t w. absurd cc)

pub reports_only_that : ReportsOnly
reports_only_that bs i rs k a e = reports_only bs i rs k (all_bytes bs a) e
