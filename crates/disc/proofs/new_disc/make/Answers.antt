use Rattle.std.proofs.Common.{◌≤◌, length, ap, ◌∙◌, arith}
use Rattle.disc.specs.Block0.{header_refusal, numbers_on}
use Rattle.disc.specs.Layout.{least_journal}
use Rattle.disc.specs.Means.{header_of}
use Rattle.disc.proofs.Fresh.{comes_back}
use Rattle.disc.proofs.new_disc.make.Goals as goal

pub returns : goal.returns
returns c =
    let enough : least_journal (length (header_of c.args.header.now).items) ≤ c.args.journal = omega arith in
    let back = comes_back (header_of c.args.header.now) c.args.journal c.args.header.now.fits enough in
    let same = c.in_ok-disc_bytes.ensures in
    (same, ap header_refusal same ∙ back.0, ap numbers_on same ∙ back.1)
