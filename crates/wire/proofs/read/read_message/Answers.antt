-- Past the end there is no kind, and so no message; what is read is what was written.
use Rattle.std.proofs.Common.{ℕ, List, Ok, Err, Result, arith}
use Rattle.std.proofs.lemmas.List.{get_or_past}
use Rattle.std.proofs.lemmas.Bool.Decides.{nat_tests}
use Rattle.wire.specs.Means.{message_of}
use Rattle.wire.specs.Messages.{AsWritten, Read, reads}
use Rattle.wire.specs.declared.message.Message.{Message}
use Rattle.wire.specs.declared.refusal.Refusal.{Refusal}
use Rattle.wire.specs.Field.{Bytes}
use Rattle.wire.proofs.Only.{read_message_only}
use Rattle.wire.proofs.read.read_message.Goals as goal

as_written : (bs : List ℕ) (i n : ℕ) (r : Result (Message × ℕ) Refusal) → Bytes bs → Read bs i n r → AsWritten bs i n r
as_written bs i n (Ok p) b h = read_message_only bs i n (message_of bs n p.0) p.1 b h.0
as_written bs i n (Err e) b h = tt

pub returns-then-at-bytes : goal.returns-then-at-bytes
unfolding reads
returns-then-at-bytes c =
    let e = get_or_past c.args.bytes.now c.args.at 0 (omega arith) in
    record { found = grind (arith, nat_tests); written = tt }

pub returns : goal.returns
returns c =
    record {
      found = c.read_kind.ensures;
      written = as_written c.args.bytes.now c.args.at c.args.items c.read_kind.result (λ k. (c.type_inv.bytes k).fits) c.read_kind.ensures;
    }
