use Rattle.std.proofs.Common.{rules}
use Rattle.linter.proofs.Told.{told_in_order}
use Rattle.linter.proofs.report.Goals as goal

pub returns : goal.returns
returns c = rw (← told_in_order c.args.block.now) (search rules)
