use Rattle.std.proofs.Common.{ap, ◌∙◌}
use Rattle.controller.proofs.Shorts.{noted_short}
use Rattle.model.specs.Controller.{erring}
use Rattle.controller.specs.Views.{live_view}
use Rattle.controller.proofs.states.Live.note.Goals as goal

pub returns-in-M : goal.returns-in-M
returns-in-M g c =
    ap (erring (live_view g.D.Drive.state c.args.self.now)) (c.note.ensures.keeps ∙ noted_short _ _ _ c.in-M.is c.requires)
