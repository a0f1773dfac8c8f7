-- What is set of the axes: another axis for Set, and the bounds of the factors. Assumes nothing.
use Rattle.std.specs.Prelude.{ℕ, ◌≤◌, List, None, unsigned_abs, slice_index_or}
use Rattle.std.specs.Option.{ForSome}
use Rattle.drive.specs.declared.axis.Axis.{Axis}
use Rattle.command.specs.declared.request.Settings.{Settings}
use Rattle.model.specs.Controller.{Setup}

abbrev pub selecting : Setup → Axis → Setup
selecting u a = record { settings = u.settings; axis = a }

-- Where units are on, their factor has the bounds of a decimal.
abbrev pub FactorBounded : Settings → Type 0
FactorBounded s = ForSome s.units (λ f. (unsigned_abs f.value ≤ 2_147_483_646) × (f.places ≤ 9))

-- Of each axis.
abbrev pub FactorsBounded : List Settings → Type 0
FactorsBounded settings = (k : ℕ) → FactorBounded (slice_index_or settings k (record { units = None }))
