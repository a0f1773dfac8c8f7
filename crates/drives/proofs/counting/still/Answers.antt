use Rattle.std.proofs.Common.{w64, SFits}
use Rattle.std.proofs.lemmas.Int.{to_z-of_z}
use Rattle.std.specs.Int.Signed.{le_z_yes}
use Rattle.drives.specs.UpTos.{is_near}
use Rattle.drives.proofs.counting.still.Goals as goal

pub returns : goal.returns
returns c =
    let f : SFits w64 c.args.rate = c.ranges.rate in
    let g : SFits w64 c.args.start = c.ranges.start in
    let own = is_near (le_z_yes tt) c.near-2.result c.args.rate (simp to_z-of_z at c.near-2.ensures) in
    let at = simp to_z-of_z at c.near.ensures in
    cc
