use Rattle.std.proofs.Common.{arith}
use Rattle.drive.proofs.Indices.{axes_is}
use Rattle.motors.proofs.bank.Bank.new.Goals as goal

pub invariant_of-result : goal.invariant_of-result
invariant_of-result g c = record { full = omega (arith, axes_is) }
