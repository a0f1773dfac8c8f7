use Rattle.std.proofs.Common.{refl}
use Rattle.std.specs.Fmt.{digits}
use Rattle.listing.proofs.listed_lines_stand.Goals as goal

pub returns : goal.returns
unfolding digits
returns c =
    record { read = (refl, refl, refl, refl, refl, refl, refl, refl); printed = (refl, refl, refl, refl, refl, refl, refl) }
