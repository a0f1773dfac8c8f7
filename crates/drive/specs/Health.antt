-- The health word. Assumes nothing.
use Rattle.std.specs.Prelude.{ℕ, ◌/◌, ◌^◌, Bool, ◌==◌, bit_and}
use Rattle.drive.specs.declared.health.Health.{Health}

-- bit k is 1
abbrev pub is_up : Health → ℕ → Bool
is_up h k = bit_and (h.bits / 2 ^ k) 1 == 1
