use Rattle.motors.specs.Banks.{absent_motor}
use Rattle.motors.proofs.Lifts.{Written, motor_next}
use Rattle.motors.proofs.bank.Bank.advance.Given as goal

abbrev pub invariant-loop-axis : goal.invariant-loop-axis
invariant-loop-axis g l =
    let r = g.A.Moves.rule in
    let b = l.initial.self in
    Written (motor_next r b l.readings l.health) (absent_motor r) b.motors l.self.motors l.axis-index
