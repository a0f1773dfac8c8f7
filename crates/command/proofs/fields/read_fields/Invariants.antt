use Rattle.command.specs.Operands.{pointed}
use Rattle.command.proofs.Turns.{Reading}
use Rattle.command.proofs.fields.read_fields.Given as goal

abbrev pub invariant-loop-axis : goal.invariant-loop-axis
invariant-loop-axis l = Reading (pointed l.settings) l.rest.at l.rest.bytes.now l.axis-index l.fields l.left.at l.left.bytes.now
