use Rattle.std.proofs.Common.{length, ap, arith}
use Rattle.disc.specs.Means.{header_of}
use Rattle.disc.proofs.Fresh.{length_header}
use Rattle.disc.proofs.new_disc.disc_bytes.Goals as goal

pub pad-requires : goal.pad-requires
pad-requires c =
    omega (arith, c.in_ok-bytes.bytes.ok.0, ap length c.in_ok-bytes.ensures, length_header (header_of c.args.header.now))
