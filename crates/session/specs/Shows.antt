-- What a live controller shows. Assumes nothing.
use Rattle.std.specs.Prelude.{ℕ, List}
use Rattle.drive.specs.Axes.{each}
use Rattle.drive.specs.Drive.{Ops}
use Rattle.model.specs.Controller.{Live}
use Rattle.listing.specs.declared.show.Course.{Course}
use Rattle.listing.specs.Shows.{shown}

abbrev pub shown_live : {S : Type 0} → Ops S → Live S → List ℕ
shown_live o l = shown l.machine.output (each (o.position l.machine.drive)) (each (o.target l.machine.drive))

-- Where an axis is, and where it is going.
abbrev pub course : {S : Type 0} → Ops S → Live S → ℕ → Course
course o l k = record { position = o.position l.machine.drive k; target = o.target l.machine.drive k }
