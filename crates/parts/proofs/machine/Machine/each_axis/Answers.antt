use Rattle.std.proofs.Common.{◌≡◌, ◌<◌, length, arith}
use Rattle.std.proofs.lemmas.List.{length-set}
use Rattle.drive.specs.Axes.{axes}
use Rattle.drive.proofs.Indices.{axes_is, index_of}
use Rattle.parts.proofs.Loops.{each_none, each_more, each_all}
use Rattle.parts.proofs.machine.Machine.each_axis.Goals as goal

pub loop-axis-init : goal.loop-axis-init
loop-axis-init g c = (λ f does. each_none f _ c.args.told.now, omega (arith, axes_is))

pub loop-axis-preserved : goal.loop-axis-preserved
loop-axis-preserved g c =
    let h : c.loop-axis.axis-index < axes = omega (arith, axes_is) in
    let room : c.loop-axis.axis-index < length c.loop-axis.told = omega arith in (
      λ f does. each_more f _ _ _ _ _ _ c.loop-axis.told (index_of _ _ h) c.index.ensures.value room (c.loop-axis.invariant.0 f does) (does _ _ _ _ _ _ c.act.ensures),
      simp length-set c.loop-axis.invariant.1,
    )

pub returns : goal.returns
returns g c =
    let end : c.loop-axis.axis-index ≡ axes = omega (arith, axes_is) in
    λ f does. each_all f _ c.loop-axis.axis-index _ _ end c.loop-axis.invariant.1 (c.loop-axis.invariant.0 f does)
