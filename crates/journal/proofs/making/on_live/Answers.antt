use Rattle.controller.specs.Views.{live_view}
use Rattle.journal.proofs.Untaken.{live_untaken}
use Rattle.journal.proofs.making.on_live.Goals as goal

pub returns : goal.returns
returns g c =
    live_untaken g.D.Drive.ops (live_view g.D.Drive.state c.args.live) c.args.call c.in_default.not-Command c.in_default.not-Sample c.in_default.not-Step c.in_default.not-Park
