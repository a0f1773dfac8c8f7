use Rattle.std.proofs.Common.{◌≡◌, take}
use Rattle.text.specs.Writing.{over}
use Rattle.answers.proofs.record.write_bytes.Given as goal

abbrev pub invariant-loop-i : goal.invariant-loop-i
invariant-loop-i l = l.block ≡ over (take l.i l.bytes) l.initial.block
