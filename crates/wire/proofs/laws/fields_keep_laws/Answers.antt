use Rattle.wire.proofs.Columns.{item_laws}
use Rattle.wire.proofs.Numbers.{eight_laws, four_laws, signed_laws, two_laws}
use Rattle.wire.proofs.laws.fields_keep_laws.Goals as goal

pub returns : goal.returns
returns c = record { u16 = two_laws; u32 = four_laws; u64 = eight_laws; i64 = signed_laws; item = item_laws }
