use Rattle.std.proofs.Common.{refl, rules}
use Rattle.drive.specs.declared.axis.Axis.TheVariants.{X}
use Rattle.drive.specs.Axes.{axes, in_order, index, each}
use Rattle.controller.specs.Views.{live_view}
use Rattle.session.specs.Shows.{course}
use Rattle.drive.proofs.Maps.{mapped}
use Rattle.session.proofs.showing.courses.Goals as goal

pub returns : goal.returns
unfolding axes each
returns g c =
    let at = course g.D.Drive.ops (live_view g.D.Drive.state c.args.live.now) in
    mapped _ _ (λ a. at (index a)) (λ a b q h. (search rules, search rules)) X in_order _ 8 refl c.map.ensures.items
