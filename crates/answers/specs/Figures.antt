-- What can be asked of an axis, and what a closure gives of one. Assumes nothing.
use Rattle.std.specs.Prelude.{◌≡◌, ℤ, pos}
use Rattle.std.specs.Fn.{Shared}
use Rattle.drive.specs.declared.axis.Axis.{Axis}
use Rattle.drive.specs.Axes.{index}
use Rattle.drive.specs.Drive.{Ops}
use Rattle.queue.specs.Views.{free}
use Rattle.model.specs.Machine.{Machine, at}
use Rattle.answers.specs.declared.figures.Question.{Question}
use Rattle.answers.specs.declared.figures.Question.TheVariants.{Position, Places}

-- its position, or its free command places
abbrev pub figure : {S : Type 0} → Ops S → Machine S → Question → Axis → ℤ
figure o m Position a = o.position m.drive (index a)
figure o m Places a = pos (free (at (index a) m).queue)

-- each call gives what `of` does
pub record Computes {F : Type 0} (g : Shared F (Axis × Unit {0}) ℤ) (figure : F) (of : Axis → ℤ) : Type 0 where
  pub each : (a : Axis) (n : ℤ) → g.post figure (a, tt) n → n ≡ of a
