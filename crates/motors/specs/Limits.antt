-- Numbers taken to their limits. Assumes nothing.
use Rattle.std.specs.Prelude.{◌≡◌, ℤ, ◌≤ℤ◌}
use Rattle.std.proofs.Common.{arith}
use Rattle.std.specs.Int.{int_min, int_max}
use Rattle.std.proofs.lemmas.Int.{clamps, ints}
use Rattle.drive.specs.Range.{Within}

-- z, or the end that it lies beyond
abbrev pub clamped : ℤ → ℤ → ℤ → ℤ
clamped low high z = int_max low (int_min z high)

pub clamped_within : (low high z : ℤ) → low ≤ℤ high → Within low high (clamped low high z)
clamped_within low high z h = (omega (arith, ints, clamps), omega (arith, ints, clamps))

pub clamped_same : (low high z : ℤ) → Within low high z → clamped low high z ≡ z
clamped_same low high z h = omega (arith, ints, clamps)
