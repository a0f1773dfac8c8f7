use Rattle.std.proofs.Common.{arith}
use Rattle.std.proofs.lemmas.Bool.Decides.{nat_tests}
use Rattle.queue.proofs.Waits.{waiting}
use Rattle.queue.proofs.axis.AxisQueue.lacks_arguments.Goals as goal

pub returns-then-arguments-len : goal.returns-then-arguments-len
returns-then-arguments-len c = grind (arith, nat_tests, waiting)
