-- The range of a position, and orders of whole numbers. Assumes nothing.
use Rattle.std.specs.Prelude.{Bool, ◌&&◌, ◌⊎◌, ℤ, pos, negsuc, ◌≤ℤ◌, int_le}

-- -2,147,483,646 and 2,147,483,646
abbrev pub bottom : ℤ
bottom = negsuc 2147483645

abbrev pub top : ℤ
top = pos 2147483646

abbrev pub Within : ℤ → ℤ → ℤ → Type 0
Within low high z = (low ≤ℤ z) × (z ≤ℤ high)

abbrev pub InRange : ℤ → Type 0
InRange z = Within bottom top z

-- z lies between a and b, both included
abbrev pub Between : ℤ → ℤ → ℤ → Type 0
Between a b z = Within a b z ⊎ Within b a z

abbrev pub within : ℤ → ℤ → ℤ → Bool
within low high z = int_le low z && int_le z high

abbrev pub same : ℤ → ℤ → Bool
same a b = within a a b
