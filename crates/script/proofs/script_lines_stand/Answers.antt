use Rattle.std.proofs.Common.{refl}
use Rattle.text.specs.Numbers.{reads}
use Rattle.script.proofs.script_lines_stand.Goals as goal

pub returns : goal.returns
unfolding reads
returns c =
    record {
      taken = (refl, refl, refl, refl, refl, refl, refl, refl, refl, refl, refl, refl, refl, refl);
      skipped = (refl, refl, refl, refl, refl, refl, refl, refl, refl, refl, refl, refl);
    }
