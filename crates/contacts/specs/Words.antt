-- A word of contacts. Assumes nothing.
use Rattle.std.specs.Prelude.{ℕ, ◌+◌, ◌-◌, ◌%◌, ◌^◌, Bool, true, false, cond, not, ℤ, ◌==◌, bit_and, unsigned_abs}

abbrev pub contact_count : ℕ
contact_count = 16

-- The contact that a number names: itself, where it is one from 0 to 15.
abbrev pub contact_of : ℤ → ℕ
contact_of n = unsigned_abs n % contact_count

-- Whether bit b of word w is 1.
abbrev pub bit : ℕ → ℕ → Bool
bit w b = not (bit_and w (2 ^ b) == 0)

-- Word w with its bit b made 1 or 0.
unfoldable pub written : ℕ → ℕ → Bool → ℕ
written w b true = cond (bit w b) w (w + 2 ^ b)
written w b false = cond (bit w b) (w - 2 ^ b) w
