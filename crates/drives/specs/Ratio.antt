-- The ratio drive over another. Assumes nothing.
use Rattle.std.specs.Prelude.{ℤ, ◌*ℤ◌, neg_ℤ, int_div}
use Rattle.std.specs.Int.Signed.{le_z_yes}
use Rattle.std.specs.Int.{int_div_euclid}
use Rattle.drive.specs.Drive.{Ops}
use Rattle.drives.specs.UpTos.{up_to_near}
use Rattle.drives.specs.declared.up_to.UpTo.{UpTo}
use Rattle.drives.specs.declared.ratio.Ratio.{Ratio}

abbrev pub Steps : Type 0
Steps = UpTo 1000

-- z, or the nearest that steps may be
abbrev pub steps_near : ℤ → Steps
steps_near z = up_to_near 1000 (le_z_yes tt) z

-- rounded down, and up
abbrev pub floored : ℤ → ℤ → ℤ
floored z m = int_div_euclid z m

abbrev pub ceiled : ℤ → ℤ → ℤ
ceiled z m = neg_ℤ (floored (neg_ℤ z) m)

-- the state of the drive below, and its steps to one count
pub record Geared (S : Type 0) : Type 0 where
  pub below : S
  pub steps : Steps

abbrev pub over : {D : Type 0} → D → ℤ → Ratio D
over d m = record { below = d; steps = steps_near m }

abbrev pub with_below : {S : Type 0} → Geared S → S → Geared S
with_below s b = record { below = b; steps = s.steps }

-- `int_div` rounds toward zero
abbrev pub geared : {S : Type 0} → Ops S → Ops (Geared S)
geared o = record {
  position = λ s k. int_div (o.position s.below k) s.steps.value;
  target = λ s k. int_div (o.target s.below k) s.steps.value;
  least = λ s k. ceiled (o.least s.below k) s.steps.value;
  greatest = λ s k. floored (o.greatest s.below k) s.steps.value;
  down = λ s k. o.down s.below k;
  begun = λ s k t. with_below s (o.begun s.below k (t *ℤ s.steps.value));
  halted = λ s k. with_below s (o.halted s.below k);
  advanced = λ s readings h. with_below s (o.advanced s.below readings h);
}
