use Rattle.std.proofs.Common.{◌≡◌, map, length, ℤ, refl, ap, ◌∙◌}
use Rattle.text.specs.Writing.{over}
use Rattle.drive.specs.declared.axis.Axis.{Axis}
use Rattle.drive.specs.declared.axis.Axis.TheVariants.{X}
use Rattle.drive.specs.Axes.{in_order}
use Rattle.model.specs.Controller.{line}
use Rattle.answers.specs.Figures.{Computes}
use Rattle.drive.proofs.Maps.{mapped}
use Rattle.answers.proofs.figures.write_each.Goals as goal

pub returns-in-All : goal.returns-in-All
returns-in-All g c =
    let gave : (of : Axis → ℤ) → Computes g.F.Fn c.args.figure of → c.map.result ≡ map of in_order = λ of k.
    mapped _ c.args.figure of (λ a n q h. (k.each a n ((g.met.F.FnMut.1.post_iff _ _ _).1 (q, record { met = h.met })), g.met.F.Fn.1.step_stays _ _ _ _ (record { met = h.met }))) X in_order _ 8 refl c.map.ensures.items in
    rw c.in-All.is (record {
      len = λ of k. c.write_line-in-All.ensures.len ∙ ap (λ ns. length (line ns)) (gave of k);
      block = λ of k. c.write_line-in-All.ensures.block ∙ ap (λ ns. over (line ns) c.args.block.now) (gave of k);
    })
