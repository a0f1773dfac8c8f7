use Rattle.std.proofs.Common.{◌-◌, length}
use Rattle.reports.specs.Reports.{so_far}
use Rattle.reports.proofs.Underway.{Underway}
use Rattle.reports.proofs.block.report.Given as goal

abbrev pub invariant-loop-part : goal.invariant-loop-part
invariant-loop-part g l = Underway g.T.Teller.telling l.fn.teller l.block l.reader.block.now l.reader.offset (so_far l.draft)

abbrev pub decreases-loop-part : goal.decreases-loop-part
decreases-loop-part g l = length l.block - l.reader.offset
