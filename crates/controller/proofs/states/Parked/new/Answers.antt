use Rattle.std.proofs.Common.{replicate, ap₂}
use Rattle.drive.specs.Axes.{axes}
use Rattle.model.specs.Controller.{parked, new}
use Rattle.model.proofs.Calls.{new_accounted}
use Rattle.controller.proofs.states.Parked.new.Goals as goal

pub returns : goal.returns
unfolding new axes
returns g c = record {
  says = ap₂ (λ m u. parked (record { machine = m; setup = u; dropped = replicate axes 0 })) c.new.ensures c.new-2.ensures.is;
  account = λ ks x inside. new_accounted g.D.Drive.ops g.met.D.Drive.keeps x inside (g.D.Drive.state c.args.drive) ks;
}
