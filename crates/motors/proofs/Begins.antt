-- A target that is admitted is begun. Assumes nothing.
use Rattle.std.proofs.Common.{◌≡◌, ℕ, ℤ, Ok, Result, sym, ap, ◌∙◌, w64, SFits, to_z, of_z}
use Rattle.std.proofs.lemmas.Int.{to_z-of_z}
use Rattle.drive.specs.Drive.{Ops, reply, tried}
use Rattle.drive.specs.declared.motion.Decline.{Decline}
use Rattle.drive.proofs.Frames.{admitted, tried_taken}

-- from the answer, and from what became of the drive, with the target as the code hands it on
pub begun_admitted : {S : Type 0} (o : Ops S) (s after : S) (k : ℕ) (t : ℤ) (r : Result (Unit {0}) Decline) → SFits w64 t
    → r ≡ reply o s k (to_z w64 (of_z w64 t)) → r ≡ Ok tt → after ≡ o.begun s k (to_z w64 (of_z w64 t)) → after ≡ tried o s k t
begun_admitted o s after k t r fits told ok begun =
    let back = to_z-of_z w64 t fits in
    begun ∙ ap (o.begun s k) back ∙ sym (tried_taken o s k t (admitted o s k t _ r back told ok))
