use Rattle.std.proofs.Common.{◌<◌, sym, subst}
use Rattle.drive.specs.Axes.{axes}
use Rattle.drive.proofs.Indices.{listed, index_small}
use Rattle.drive.proofs.axis.Axis.index.Goals as goal

pub returns : goal.returns
returns c =
    let a = c.args.self in
    record { value = (listed a).0; small = subst (λ i. i < axes) (sym (listed a).0) (index_small a) }
