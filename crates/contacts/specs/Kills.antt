-- Kill inputs, and the words that hit them. Assumes nothing.
use Rattle.std.specs.Prelude.{◌≡◌, ℕ, zero, suc, ◌<◌, Bool, true, false, cond, not, ◌||◌, Some, None, Option}
use Rattle.contacts.specs.declared.kill.KillInputs.{KillInputs}
use Rattle.contacts.specs.Words.{contact_count, bit, written}

-- The level at which contact b kills, if it does.
abbrev pub level_of : KillInputs → ℕ → Option Bool
level_of k b = cond (bit k.contacts b) (Some (bit k.levels b)) None

-- No contact kills.
abbrev pub no_kills : KillInputs
no_kills = record { contacts = 0; levels = 0 }

-- Contact b kills at level l, and the others as in k.
abbrev pub with_kill : KillInputs → ℕ → Bool → KillInputs
with_kill k b l = record { contacts = written k.contacts b true; levels = written k.levels b l }

-- Whether a contact at level l is at its kill level, if it has one.
abbrev pub stands : Option Bool → Bool → Bool
stands None l = false
stands (Some true) l = l
stands (Some false) l = not l

-- Whether some contact below n is at its kill level in word w.
unfoldable pub hit_below : KillInputs → ℕ → ℕ → Bool
hit_below k w zero = false
hit_below k w (suc n) = stands (level_of k n) (bit w n) || hit_below k w n

-- Whether some contact is.
unfoldable pub hit : KillInputs → ℕ → Bool
hit k w = hit_below k w contact_count

-- Some contact has in word w the level at which it kills.
abbrev pub Standing : KillInputs → ℕ → Type 0
Standing k w = (b : ℕ) × (b < contact_count) × (level_of k b ≡ Some (bit w b))
