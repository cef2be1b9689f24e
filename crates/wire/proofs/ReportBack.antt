-- A report that was written is read.
use Rattle.std.proofs.Common.{◌≡◌, ℕ, List, [], ◌∷◌, length, get_or, ℤ, Some, Option, arith}
use Rattle.venue.specs.World as world
use Rattle.wire.specs.Field.{Holds}
use Rattle.wire.specs.Reports.{reads_report, reads_report_kind, report_bytes, ReportFits}
use Rattle.wire.proofs.Parts.{part, read_back, then}
use Rattle.wire.proofs.Numbers.{eight_laws, four_laws, signed_laws, two_laws}
use Rattle.wire.proofs.Places.{inside}
use Rattle.wire.proofs.Whole.{first, whole_is}

by_kind : (bs : List ℕ) (i h : ℕ) (o : Option (world.Report × ℕ)) → get_or bs i 0 ≡ h → reads_report_kind h bs i ≡ o → reads_report bs i ≡ o
unfolding reads_report
by_kind bs i h o e r = rw e r

-- where its bytes stand, a report that fits is read
pub report_read : (bs : List ℕ) (i : ℕ) (r : world.Report) → ReportFits r → Holds bs i (report_bytes r) → reads_report bs i ≡ Some (r, length (report_bytes r))
unfolding report_bytes ReportFits
report_read bs i (world.done n) f h =
    by_kind bs i 0 _ (first bs i 0 _ h) (read_back 9 (part 1 eight_laws) world.done 0 bs i n f h)
report_read bs i world.no f h = by_kind bs i 1 _ (first bs i 1 [] h) (whole_is bs i 1 world.no (inside bs i (1 ∷ []) (omega arith) h))
report_read bs i (world.trade n m k p x) f h =
    by_kind bs i 2 _ (first bs i 2 _ h)
    (read_back 27 (then (part 1 eight_laws) (then (part 9 eight_laws) (then (part 17 two_laws) (then (part 19 four_laws) (part 23 four_laws)))))
    (λ (t : ℕ × (ℕ × (ℕ × (ℕ × ℕ)))). world.trade t.0 t.1.0 t.1.1.0 t.1.1.1.0 t.1.1.1.1) 2 bs i (n, (m, (k, (p, x)))) (f.0, (f.1, (f.2, (f.3, f.4)))) h)
report_read bs i (world.torn a b k z) f h =
    by_kind bs i 3 _ (first bs i 3 _ h)
    (read_back 15 (then (part 1 two_laws) (then (part 3 two_laws) (then (part 5 two_laws) (part 7 signed_laws))))
    (λ (t : ℕ × (ℕ × (ℕ × ℤ))). world.torn t.0 t.1.0 t.1.1.0 t.1.1.1) 3 bs i (a, (b, (k, z))) (f.0, (f.1, (f.2, f.3))) h)
