-- Numbers from 1 up. Assumes nothing.
use Rattle.std.specs.Prelude.{◌≡◌, ℕ, ℤ, pos, ◌≤ℤ◌}
use mathlib.Core.HLevel.{is_prop→PathP}
use denote.Struct.Props.{props}
use Rattle.drive.specs.Range.{Within}
use Rattle.motors.specs.Limits.{clamped, clamped_within}
use Rattle.drives.specs.declared.up_to.UpTo.{UpTo}

-- z, or the nearest from 1 to most
unfoldable pub up_to_near : (most : ℕ) → pos 1 ≤ℤ pos most → ℤ → UpTo most
up_to_near most h z = record { value = clamped (pos 1) (pos most) z; ok = clamped_within (pos 1) (pos most) z h }

pub same_up_to : {most : ℕ} (a b : UpTo most) → a.value ≡ b.value → a ≡ b
same_up_to {most} a b e = λ i. record { value = e i; ok = is_prop→PathP (λ j. Within (pos 1) (pos most) (e j)) (λ j. hlevel props) a.ok b.ok i }

-- as the code makes it
pub is_near : {most : ℕ} (h : pos 1 ≤ℤ pos most) (a : UpTo most) (z : ℤ) → a.value ≡ clamped (pos 1) (pos most) z → a ≡ up_to_near most h z
unfolding up_to_near
is_near {most} h a z e = same_up_to a (up_to_near most h z) e
