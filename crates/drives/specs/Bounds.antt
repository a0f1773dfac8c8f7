-- Rates and steps through their bits and back. Assumes nothing.
use Rattle.std.specs.Prelude.{◌≡◌}
use Rattle.std.proofs.Common.{arith, to_z, of_z}
use Rattle.std.proofs.lemmas.Int.{ints}
use Rattle.std.specs.Int.{w64}
use Rattle.drives.specs.Counting.{Rate}
use Rattle.drives.specs.Ratio.{Steps}

pub rate_back : (r : Rate) → to_z w64 (of_z w64 r.value) ≡ r.value
rate_back r = let h = r.ok in omega (arith, ints)

pub steps_back : (s : Steps) → to_z w64 (of_z w64 s.value) ≡ s.value
steps_back s = let h = s.ok in omega (arith, ints)
