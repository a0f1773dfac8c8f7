-- The numbers that a drive holds are equal where their values are, and taking one to its limits leaves what is in them. Assumes nothing.
use Rattle.std.proofs.Common.{◌≡◌, arith, w64, to_z, of_z}
use mathlib.Core.HLevel.{is_prop→PathP}
use denote.Struct.Props.{props}
use borrow.Author.Differences.{ints}
use Rattle.drive.specs.Range.{InRange}
use Rattle.motors.specs.declared.ranged.Ranged.{Ranged}

pub same_ranged : (a b : Ranged) → a.value ≡ b.value → a ≡ b
same_ranged a b e = λ i. record { value = e i; ok = is_prop→PathP (λ j. InRange (e j)) (λ j. hlevel props) a.ok b.ok i }

-- through its bits and back
pub ranged_back : (r : Ranged) → to_z w64 (of_z w64 r.value) ≡ r.value
ranged_back r = let h = r.ok in omega (arith, ints)
