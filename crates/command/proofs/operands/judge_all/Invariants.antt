use Rattle.command.proofs.Judging.{Judged}
use Rattle.command.proofs.operands.judge_all.Given as goal

abbrev pub invariant-loop-axis : goal.invariant-loop-axis
invariant-loop-axis l = Judged l.settings l.fields l.axis-index l.operands
