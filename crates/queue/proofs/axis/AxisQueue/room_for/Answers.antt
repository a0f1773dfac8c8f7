use Rattle.std.proofs.Common.{arith}
use Rattle.queue.proofs.Waits.{Roomy-listed}
use Rattle.queue.proofs.axis.AxisQueue.room_for.Goals as goal

pub returns-clause-roomy : goal.returns-clause-roomy
returns-clause-roomy c = grind (arith, Roomy-listed)
