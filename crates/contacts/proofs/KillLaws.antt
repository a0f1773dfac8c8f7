-- The laws of kill inputs. Assumes nothing.
use Rattle.std.proofs.Common.{◌≡◌, ℕ, Bool, true, false, cond, eqb, Some, None, Decides, Option, refl, arith}
use Rattle.std.proofs.lemmas.Bool.Decides.{Decides-below_or}
use Rattle.contacts.specs.declared.kill.KillInputs.{KillInputs}
use Rattle.contacts.specs.Words.{contact_count, bit}
use Rattle.contacts.specs.Kills.{level_of, with_kill, stands, hit_below, hit, Standing}
use Rattle.contacts.proofs.WordLaws.{bit_written}

-- A contact that is added has its level, and each other contact the one that it had.

pub level_with : (k : KillInputs) (b : ℕ) (l : Bool) (j : ℕ) → level_of (with_kill k b l) j ≡ cond (eqb j b) (Some l) (level_of k j)
level_with k b l j = grind (arith, bit_written k.contacts b j true, bit_written k.levels b j l)

-- A word hits exactly where some contact has its kill level.

standing : (o : Option Bool) (l : Bool) → Decides (stands o l) (o ≡ Some l)
standing None l = (λ e. cc, λ e. cc)
standing (Some true) l = (λ e. cc, λ e. cc)
standing (Some false) true = (λ e. cc, λ e. cc)
standing (Some false) false = (λ e. refl, λ e. refl)

pub hit_exactly : (k : KillInputs) (w : ℕ) → Decides (hit k w) (Standing k w)
unfolding hit hit_below
hit_exactly k w =
    Decides-below_or (λ b. stands (level_of k b) (bit w b)) (λ b. level_of k b ≡ Some (bit w b)) (hit_below k w)
    (λ b. standing (level_of k b) (bit w b)) refl (λ _. refl) contact_count
