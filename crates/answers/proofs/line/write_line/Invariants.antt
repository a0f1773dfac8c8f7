use Rattle.std.proofs.Common.{◌*◌, ◌≤◌}
use Rattle.answers.proofs.Lines.{Wrote}
use Rattle.answers.proofs.line.write_line.Given as goal

abbrev pub invariant-loop-i : goal.invariant-loop-i
invariant-loop-i l = Wrote l.numbers l.initial.block l.i l.at l.block × (l.at ≤ 22 * l.i)
