use Rattle.std.proofs.Common.{◌≡◌, ◌++◌, take}
use Rattle.std.specs.List.{flat_map}
use Rattle.wire.proofs.row.RowEncode.write.Given as goal

-- the values so far stand behind what there was
abbrev pub invariant-loop-value : goal.invariant-loop-value
invariant-loop-value g l = l.out.items ≡ l.initial.out.items ++ flat_map g.T.Encode.bytes (take l.value-index l.self.0.now)
