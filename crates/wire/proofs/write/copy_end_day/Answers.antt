-- The bytes that are copied are those of the columns that they are read as.
use Rattle.std.proofs.Common.{◌≡◌, ℕ, ◌+◌, ◌-◌, ◌*◌, ◌≤◌, List, ◌∷◌, length, take, drop, Result, arith}
use Rattle.std.proofs.lemmas.Bool.{le-leb}
use Rattle.wire.specs.Means.{column, message_of}
use Rattle.wire.specs.Messages.{has_prices, pairs, writes}
use Rattle.wire.specs.Writing.{Wrote, WroteIf}
use Rattle.wire.specs.declared.unwritten.Unwritten.{Unwritten}
use Rattle.wire.specs.declared.unwritten.Unwritten.TheVariants.{Prices}
use Rattle.wire.specs.declared.message.Message.TheVariants.{EndDay}
use Rattle.wire.proofs.Columns.{length_column, length_pairs, pairs_only}
use Rattle.wire.proofs.Whole.{cut}
use Rattle.wire.specs.Field.{Bytes}
use Rattle.wire.proofs.write.copy_end_day.Goals as goal

copied : (src : List ℕ) (i n : ℕ) (before after : List ℕ) (r : Result (Unit {0}) Unwritten) → Bytes src → i + 8 * n ≤ length src →
    Wrote before after (5 ∷ take (i + 8 * n - i) (drop i src)) r →
    WroteIf (has_prices src n (EndDay i)) Prices before after (writes (message_of src n (EndDay i))) r
unfolding writes
copied src i n before after r b l w =
    let t = le-leb (i + 8 * n) (length src) l in
    let ps = column src i n in
    let qs = column src (i + 4) n in
    let s : i + 8 * n - i ≡ 8 * n = omega arith in
    let e : take (8 * n) (drop i src) ≡ pairs ps qs =
    cut src i (8 * n) (pairs ps qs) (length_pairs ps qs n (length_column src i n) (length_column src (i + 4) n)) (pairs_only src i n b l).0 in
    rw t (rw (s, e) at w)

pub returns : goal.returns
returns c =
    copied c.args.source.now c.args.prices c.args.items _ _ c.put.result (λ k. (c.type_inv.source k).fits) (omega arith) c.put.ensures
