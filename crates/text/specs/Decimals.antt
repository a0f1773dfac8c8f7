-- Numbers whose digits, their point left out, are in range. Assumes nothing.
use Rattle.std.specs.Prelude.{ℕ, Bool, cond, ◌&&◌, ℤ, Some, None, Option, nat_le, unsigned_abs}
use Rattle.text.specs.declared.number.Number.{Number}

-- digits with their point left out, and how many of them stand after it
pub record Fixed : Type 0 where
  pub value : ℤ
  pub places : ℕ

abbrev pub in_range : ℤ → Bool
in_range z = nat_le (unsigned_abs z) 2_147_483_646

-- what is kept of a number that was read
abbrev pub decimal_of : Number → Option Fixed
decimal_of n = cond (in_range n.value && nat_le n.places 9) (Some (record { value = n.value; places = n.places })) None
