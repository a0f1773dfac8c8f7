-- Rounding to the nearest whole number. Assumes nothing.
use Rattle.std.specs.Prelude.{◌≡◌, ℕ, suc, ◌+◌, ◌*◌, ◌/◌, ◌%◌, ◌^◌, ◌<◌, ◌≤◌, Bool, cond, ℤ, pos, negsuc, ◌-ℤ◌, ◌*ℤ◌, neg_ℤ, nat_le, unsigned_abs}
use Rattle.text.specs.Decimals.{Fixed}

-- whether the rest of a division by d counts as one more: a half goes away from zero
abbrev pub rounds_up : ℕ → ℕ → Bool
rounds_up rest d = nat_le d (2 * rest)

-- n / d, rounded
abbrev pub rounded : ℕ → ℕ → ℕ
rounded n d = cond (rounds_up (n % d) d) (n / d + 1) (n / d)

-- p / d, rounded alike on both sides of zero
abbrev pub nearest : ℤ → ℕ → ℤ
nearest (pos n) d = pos (rounded n d)
nearest (negsuc n) d = neg_ℤ (pos (rounded (suc n) d))

-- a number times a factor, in whole counts
abbrev pub counts : Fixed → Fixed → ℤ
counts n f = nearest (n.value *ℤ f.value) (10 ^ (n.places + f.places))

-- No whole number is nearer to p / d than r, and where another is as near, r lies further from zero than p / d.
pub record Nearest (p : ℤ) (d : ℕ) (r : ℤ) : Type 0 where
  pub close : 2 * unsigned_abs (r *ℤ pos d -ℤ p) ≤ d
  pub tie : 2 * unsigned_abs (r *ℤ pos d -ℤ p) ≡ d → unsigned_abs p < unsigned_abs (r *ℤ pos d)
