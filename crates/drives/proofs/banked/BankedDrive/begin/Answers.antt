use Rattle.drive.specs.Axes.{index}
use Rattle.motors.specs.Banks.{banked}
use Rattle.motors.proofs.Begins.{begun_admitted}
use Rattle.drives.proofs.banked.BankedDrive.begin.Goals as goal

pub returns-clause-after : goal.returns-clause-after
returns-clause-after g c =
    begun_admitted (banked g.A.Moves.rule) c.args.self.now.bank _ (index c.args.axis) c.args.target _ c.ranges.target
    c.admits.ensures c.in_ok-admits.was c.begin.ensures
