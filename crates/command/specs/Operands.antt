-- The range of numbers and of lists of them after a name, and what they stand for. Assumes nothing.
use Rattle.std.specs.Prelude.{ℕ, ◌+◌, ◌^◌, Bool, cond, ◌&&◌, List, [], ◌∷◌, ℤ, ◌*ℤ◌, is_some, Some, None, Ok, Option, Result, int_le, slice_index_or}
use Rattle.std.specs.Option.{ok_or}
use Rattle.text.specs.declared.number.Number.{Number}
use Rattle.text.specs.Decimals.{Fixed, decimal_of}
use Rattle.text.specs.Decimals as decimals
use Rattle.text.specs.Scaling.{nearest}
use Rattle.drive.specs.Axes.{each}
use Rattle.command.specs.declared.fields.Field.{Field}
use Rattle.command.specs.declared.request.Refusal.{Refusal}
use Rattle.command.specs.declared.request.Refusal.TheVariants.{Range}
use Rattle.command.specs.declared.request.Settings.{Settings}
use Rattle.command.specs.Requests.{Operands}
use Rattle.command.specs.Fields.{Fields, then, before, single, list}

-- The factor of the axis of index `k`, where its units are on: they are off beyond the settings that are given.
abbrev pub units_of : List Settings → ℕ → Option Fixed
units_of ts k = (slice_index_or ts k (record { units = None })).units

-- Its numbers may have a point where its units are on.
abbrev pub pointed : List Settings → ℕ → Bool
pointed ts k = is_some (units_of ts k)

abbrev pub in_range : ℤ → Option ℤ
in_range z = cond (decimals.in_range z) (Some z) None

-- The counts of a number: the number itself, or with units on its product with the factor, rounded; none where either is out of range.
abbrev pub counts : Option Fixed → Option Fixed → Option ℤ
counts units None = None
counts None (Some d) = Some d.value
counts (Some factor) (Some d) = in_range (nearest (d.value *ℤ factor.value) (10 ^ (d.places + factor.places)))

abbrev pub measured : Option Fixed → Number → Option ℤ
measured units n = counts units (decimal_of n)

abbrev pub ranged : ℤ → ℤ → Number → Option ℤ
ranged low high n = cond (int_le low n.value && int_le n.value high) (Some n.value) None

-- A value that was judged, or the refusal at its first byte.
abbrev pub kept : {A : Type 0} → ℕ → Option A → Result A Refusal
kept at o = ok_or o (Range at)

-- The operand of an axis: none where its field is empty.
abbrev pub operand : Option Fixed → Option Field → Result (Option ℤ) Refusal
operand units None = Ok None
operand units (Some f) = then (kept f.at (measured units f.number)) (λ z. Ok (Some z))

-- The operands of the axes from index `k` on: the first number that is out of range decides.
abbrev pub operands : List Settings → ℕ → Fields → Result Operands Refusal
operands ts k [] = Ok []
operands ts k (f ∷ fs) = then (operand (units_of ts k) f) (λ o. before o (operands ts (k + 1) fs))

-- One number, as `judge` has it: the form of the whole text first, then the range.
abbrev pub amount : {A : Type 0} → Bool → (Number → Option A) → ℕ → List ℕ → Result A Refusal
amount point judge at bs = then (single point at bs) (λ f. kept f.at (judge f.number))

-- A list of numbers, each in the units of its axis.
abbrev pub listed : List Settings → ℕ → List ℕ → Result Operands Refusal
listed ts at bs = then (list (each (pointed ts)) at bs) (operands ts 0)
