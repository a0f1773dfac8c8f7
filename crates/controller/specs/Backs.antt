-- A position that is told reads back as the drive's position. Assumes nothing.
use Rattle.std.specs.Prelude.{◌≡◌, ℕ, ◌+◌, Bool, true, List, [], ◌∷◌, drop, ℤ, is_ok, Ok, Result}
use Rattle.text.specs.Numbers.{reads}
use Rattle.drive.specs.declared.axis.Axis.{Axis}
use Rattle.drive.specs.Axes.{index}
use Rattle.drive.specs.Drive.{Ops}
use Rattle.command.specs.declared.request.Port.{Port}
use Rattle.command.specs.declared.request.Selection.{Selection}
use Rattle.command.specs.declared.request.Request.TheVariants.{Positions}
use Rattle.model.specs.declared.refusal.Refusal.{Refusal}
use Rattle.model.specs.Controller.{Live, chosen_axes, reading}

-- Number after number, each straight after the byte that ends the one before it, the bytes read as `f` of each axis; a point may be
-- allowed or not.
abbrev pub ReadsAs : (Axis → ℤ) → List Axis → List ℕ → Type 0
ReadsAs f [] bytes = Unit {0}
ReadsAs f (a ∷ others) bytes =
    (end : ℕ)
    × ((point : Bool) → reads point bytes ≡ Ok (record { value = f a; places = 0; end = end }))
    × ReadsAs f others (drop (end + 1) bytes)

-- A text that asks for positions, and is not refused, leaves an answer that reads as the positions of the axes that it asks of.
abbrev pub ReadBack : {S : Type 0} → Ops S → Live S → Port → (text : List ℕ) → Result ℕ Refusal → (block : List ℕ) → Type 0
ReadBack o l port text reply block =
    (s : Selection) (last : Axis) → reading l port text ≡ Ok (record { request = Positions s; last = last }) → is_ok reply ≡ true →
    ReadsAs (λ a. o.position l.machine.drive (index a)) (chosen_axes s) block
