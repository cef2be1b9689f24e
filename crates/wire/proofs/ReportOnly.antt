-- Bytes that are read as a report are those that writing it gives.
use Rattle.std.proofs.Common.{◌≡◌, ℕ, ◌+◌, ◌≤◌, eqb, List, length, get_or, take, drop, Some, None, refl, ◌∙◌}
use Rattle.std.proofs.lemmas.Bool.{eqb-true}
use Rattle.venue.specs.World as world
use Rattle.wire.specs.Field.{Bytes}
use Rattle.wire.specs.Reports.{reads_report, reads_report_kind, report_bytes, ReportFits}
use Rattle.wire.proofs.Numbers.{eight_laws, four_laws, signed_laws, two_laws}
use Rattle.wire.proofs.Parts.{kind_stands, part, read_only, then}
use Rattle.wire.proofs.Whole.{by_pick, known}

-- the bytes at place i are k bytes that writing r gives, and it fits
abbrev Reported : List ℕ → ℕ → world.Report → ℕ → Type 0
Reported bs i r k = (take k (drop i bs) ≡ report_bytes r) × ReportFits r

no_only : (bs : List ℕ) (i : ℕ) → get_or bs i 0 ≡ 1 → i + 1 ≤ length bs → Reported bs i world.no 1
unfolding report_bytes ReportFits
no_only bs i e l = (kind_stands bs i 1 e l, tt)

only_kind : (bs : List ℕ) (i : ℕ) (r : world.Report) (k h : ℕ) → Bytes bs → get_or bs i 0 ≡ h → reads_report_kind h bs i ≡ Some (r, k) → Reported bs i r k
unfolding report_bytes ReportFits
only_kind bs i r k h b e w =
    by_pick (eqb h 0) _ _ (Some (r, k)) w
    (λ t v. known (Reported bs i) bs i 9 _ r k v (read_only 9 (part 1 eight_laws) 0 bs i b (e ∙ eqb-true h 0 t)))
    (λ _ w1. by_pick (eqb h 1) _ _ (Some (r, k)) w1
    (λ t v. known (Reported bs i) bs i 1 _ r k v (no_only bs i (e ∙ eqb-true h 1 t)))
    (λ _ w2. by_pick (eqb h 2) _ _ (Some (r, k)) w2
    (λ t v. known (Reported bs i) bs i 27 _ r k v (λ l.
    let o = read_only 27 (then (part 1 eight_laws) (then (part 9 eight_laws) (then (part 17 two_laws) (then (part 19 four_laws) (part 23 four_laws))))) 2 bs i b (e ∙ eqb-true h 2 t) l in
    (o.0, (o.1.0, o.1.1.0, o.1.1.1.0, o.1.1.1.1.0, o.1.1.1.1.1))))
    (λ _ w3. by_pick (eqb h 3) _ None (Some (r, k)) w3
    (λ t v. known (Reported bs i) bs i 15 _ r k v (λ l.
    let o = read_only 15 (then (part 1 two_laws) (then (part 3 two_laws) (then (part 5 two_laws) (part 7 signed_laws)))) 3 bs i b (e ∙ eqb-true h 3 t) l in
    (o.0, (o.1.0, o.1.1.0, o.1.1.1.0, o.1.1.1.1))))
    (λ _ v. absurd cc))))

pub report_only : (bs : List ℕ) (i : ℕ) (r : world.Report) (k : ℕ) → Bytes bs → reads_report bs i ≡ Some (r, k) →
    (take k (drop i bs) ≡ report_bytes r) × ReportFits r
unfolding reads_report
report_only bs i r k b w = only_kind bs i r k (get_or bs i 0) b refl w
