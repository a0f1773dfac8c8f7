use Rattle.std.proofs.Common.{refl}
use Rattle.drive.specs.Axes.{axes}
use Rattle.controller.proofs.setup.Setup.new.Goals as goal

pub returns-clause-is : goal.returns-clause-is
unfolding axes
returns-clause-is c = refl
