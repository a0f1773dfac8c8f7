-- The axes: their order, their number and their names. Assumes nothing.
use Rattle.std.specs.Prelude.{◌≡◌, ℕ, zero, suc, ◌+◌, List, [], ◌∷◌, map, length, codes, Option, slice_index}
use Rattle.std.specs.List.{slice_get, range_with_len}
use Rattle.std.proofs.lemmas.List.FromFn.{length-map-range_with_len}
use Rattle.drive.specs.declared.axis.Axis.{Axis}
use Rattle.drive.specs.declared.axis.Axis.TheVariants.{X, Y, Z, T, U, V, R, S}

abbrev pub in_order : List Axis
in_order = X ∷ Y ∷ Z ∷ T ∷ U ∷ V ∷ R ∷ S ∷ []

-- how many there are
unfoldable pub axes : ℕ
axes = length in_order

abbrev pub index : Axis → ℕ
index X = 0
index Y = 1
index Z = 2
index T = 3
index U = 4
index V = 5
index R = 6
index S = 7

-- the axis at an index, if there is one
abbrev pub axis_at : ℕ → Option Axis
axis_at i = slice_get in_order i

-- as a host counts, from 1
abbrev pub number : Axis → ℕ
number a = index a + 1

abbrev pub letter : Axis → ℕ
letter a = slice_index (codes "XYZTUVRS") (index a)

-- f of each axis, in order
unfoldable pub each : {A : Type 0} → (ℕ → A) → List A
each f = map f (range_with_len 0 axes)

pub length-each : {A : Type 0} (f : ℕ → A) → length (each f) ≡ axes
unfolding each
length-each f = length-map-range_with_len f 0 axes

-- f at each index below n, in order
unfoldable pub through : {B : Type 0} → (B → ℕ → B) → ℕ → B → B
through f zero b = b
through f (suc n) b = f (through f n b) n
