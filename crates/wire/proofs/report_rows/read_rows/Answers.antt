-- Each report that is read makes what is left one shorter; none there, or nothing left, settles the whole.
use Rattle.std.proofs.Common.{◌≡◌, ℕ, suc, ◌+◌, ◌-◌, ◌<◌, ◌≤◌, List, [], ◌∷◌, ◌++◌, map, length, take, Some, None, Err, Option, sym, ap, ◌∙◌, arith, rules}
use Rattle.std.proofs.Math.Nat.{sub-zero}
use Rattle.std.proofs.Math.Seq.{take-length}
use Rattle.std.proofs.lemmas.List.{map_push}
use Rattle.std.proofs.lemmas.Grind.{common_steps}
use Rattle.std.proofs.lemmas.Bool.{leb-true, leb-false}
use Rattle.venue.specs.World as world
use Rattle.wire.specs.Means.{report_of}
use Rattle.wire.specs.Reports.{after, reads_report, reads_reports, reads_row}
use Rattle.wire.specs.declared.report.Report.{Report}
use Rattle.wire.specs.declared.report_rows.Unread.TheVariants.{NoReports}
use Rattle.wire.proofs.RowSteps.{none_of, row_cut, row_end, row_start, row_step, row_stop}
use Rattle.wire.proofs.report_rows.read_rows.Goals as goal

-- a list keeps its front when one more is put behind
kept : (a b c : List Report) (x : Report) → take (length a) b ≡ a → c ≡ b ++ x ∷ [] → take (length a) c ≡ a
kept a b c x h e = grind (arith, common_steps)

-- one more report is read, of m that were left
turn : (bs : List ℕ) (i s n m : ℕ) (a b : List Report) (x : Report) (k : ℕ) (o : Option (List world.Report × ℕ)) → m ≡ suc n → b ≡ a ++ x ∷ [] →
    reads_report bs (i + s) ≡ Some (report_of x, k) → after (map report_of a) s (reads_row m bs (i + s)) ≡ o →
    after (map report_of b) (s + k) (reads_row n bs (i + (s + k))) ≡ o
turn bs i s n m a b x k o l e r h =
    let p : map report_of b ≡ map report_of a ++ report_of x ∷ [] = ap (map report_of) e ∙ map_push report_of a x in
    rw p (sym (row_step bs i s n m (map report_of a) (report_of x) k l r) ∙ h)

stopped : (bs : List ℕ) (i s m : ℕ) (rs old : List world.Report) → 0 < m → reads_report bs (i + s) ≡ None →
    after rs s (reads_row m bs (i + s)) ≡ after old 0 (reads_reports bs i) → reads_reports bs i ≡ None
stopped bs i s m rs old l r h =
    let n : m ≡ suc (m - 1) = omega arith in
    none_of old 0 (reads_reports bs i) (sym h ∙ row_stop bs i s (m - 1) m rs n r)

pub returns-then-not-reaches : goal.returns-then-not-reaches
returns-then-not-reaches c = (
  take-length c.args.into.now.items,
  row_cut c.args.bytes.now c.args.at (leb-false _ _ (sym c.if-not-reaches.ensures)),
)

pub loop-init : goal.loop-init
loop-init c =
    let l : c.args.at + 4 ≤ length c.args.bytes.now = leb-true _ _ (sym c.if-not-reaches.ensures) in
    record {
      whole = rw (c.read-end.ensures, sub-zero) (row_start c.args.bytes.now c.args.at (map report_of c.args.into.now.items) l);
      inside = l;
      kept = take-length c.args.into.now.items;
    }

pub returns-in_err-report : goal.returns-in_err-report
returns-in_err-report c =
    let found = rw c.in_err-report.ensures.ok_part at c.read_report.ensures.found in
    let none = stopped c.args.bytes.now c.args.at c.loop.size (c.read-end.result - c.loop.counter) _ _ (omega arith) found c.loop.invariant.whole in
    let r : c.from_residual.result ≡ Err NoReports = search rules in
    rw r (c.loop.invariant.kept, none)

pub loop-preserved : goal.loop-preserved
loop-preserved c =
    let e : c.push.new.self.items ≡ c.loop.into.items ++ c.in_ok-report.report ∷ [] = search rules in
    let found = rw c.in_ok-report.ensures.ok_part at c.read_report.ensures.found in
    record {
      whole = turn c.args.bytes.now c.args.at c.loop.size _ _ c.loop.into.items _ c.in_ok-report.report c.in_ok-report.n _
          (omega arith) e found.0 c.loop.invariant.whole;
      inside = omega (arith, found.2);
      kept = kept c.args.into.now.items c.loop.into.items _ c.in_ok-report.report c.loop.invariant.kept e;
    }

pub returns : goal.returns
returns c =
    let z : c.read-end.result - c.loop.counter ≡ 0 = omega arith in (
      sym c.loop.invariant.whole ∙ row_end c.args.bytes.now (c.args.at + c.loop.size) c.loop.size (c.read-end.result - c.loop.counter) (map report_of c.loop.into.items) z,
      c.loop.invariant.inside,
    )
