use Rattle.std.proofs.Common.{◌*ℤ◌, sym, ap, ◌∙◌, w64}
use Rattle.std.proofs.lemmas.Int.{to_z-of_z}
use Rattle.drive.specs.Axes.{index}
use Rattle.drive.specs.Drive.{reply, tried}
use Rattle.drive.proofs.Frames.{admitted, tried_taken}
use Rattle.drive.proofs.Indices.{index_small}
use Rattle.drives.specs.Ratio.{Geared, geared, with_below}
use Rattle.drives.specs.Gears.{admitted_below, product_fits, product_back}
use Rattle.drives.proofs.ratio.RatioDrive.begin.Goals as goal

pub overflow_mul-target : goal.overflow_mul-target
overflow_mul-target g c =
    let d = g.D.Drive in
    let r = c.args.self.now in
    let s : Geared d.State = record { below = d.state r.below; steps = r.steps } in
    let k = index c.args.axis in
    let t = c.args.target in
    let ok = admitted (geared d.ops) s k t _ _ (to_z-of_z w64 t c.ranges.target) c.admits.ensures c.in_ok-admits.was in
    product_fits g.met.D.Drive.keeps s k (index_small c.args.axis) t ok c.ranges.target

pub returns : goal.returns
returns g c =
    let d = g.D.Drive in
    let K = g.met.D.Drive.keeps in
    let r = c.args.self.now in
    let s : Geared d.State = record { below = d.state r.below; steps = r.steps } in
    let k = index c.args.axis in
    let small = index_small c.args.axis in
    let t = c.args.target in
    let u = t *ℤ r.steps.value in
    let ok = admitted (geared d.ops) s k t _ _ (to_z-of_z w64 t c.ranges.target) c.admits.ensures c.in_ok-admits.was in
    let below = admitted_below K s k small t ok in
    let back = product_back K s k small t ok c.ranges.target in
    let made = c.begin.ensures.after ∙ ap (tried d.ops s.below k) back ∙ tried_taken d.ops s.below k u below in
    record {
      answer = c.begin.ensures.answer ∙ ap (reply d.ops s.below k) back ∙ below ∙ sym ok;
      after = ap (with_below s) made ∙ sym (tried_taken (geared d.ops) s k t ok);
    }
