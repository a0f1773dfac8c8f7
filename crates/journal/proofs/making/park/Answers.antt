use Rattle.std.proofs.Common.{ap, ◌∙◌}
use Rattle.model.specs.Controller as C
use Rattle.controller.specs.Views.{parked_view}
use Rattle.journal.proofs.making.park.Goals as goal

pub returns : goal.returns
unfolding C.call
returns g c =
    let parked = C.parked (parked_view g.D.Drive.state c.park-parked.result) in
    ap (λ ns. C.after parked (C.dropped_all ns)) c.dropped-dropped.ensures ∙ c.park-parked.ensures
