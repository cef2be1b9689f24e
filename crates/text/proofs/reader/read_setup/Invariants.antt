use Rattle.std.proofs.Common.{◌≡◌, ◌+◌, ◌≤◌, length}
use Rattle.text.specs.Setups.{follow, plan_of, setup_in}
use Rattle.text.specs.Words.{lines}
use Rattle.text.proofs.reader.read_setup.Given as goal

abbrev pub invariant-loop-rest : goal.invariant-loop-rest
invariant-loop-rest l = record {
  counted : l.draft.line + length l.rest ≤ length l.bytes + 1;
  same : follow l.draft.line (plan_of l.draft) (lines l.rest) ≡ setup_in l.bytes;
}

abbrev pub decreases-loop-rest : goal.decreases-loop-rest
decreases-loop-rest l = length l.rest
