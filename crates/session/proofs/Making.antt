-- What a call left, and what was printed of what it told.
use Rattle.std.proofs.Common.{◌≡◌, ℕ, List, ℤ, Result, Vec, refl, ap, ◌∙◌, subst}
use Rattle.std.specs.declared.alloc.AllocError.{AllocError}
use Rattle.std.specs.declared.alloc.Global.{Global}
use Rattle.drive.specs.declared.health.Health.{Health}
use Rattle.drive.specs.Drive.{Ops}
use Rattle.command.specs.declared.request.Port.{Port}
use Rattle.model.specs.declared.refusal.Refusal.{Refusal}
use Rattle.model.specs.declared.row.Row.{Row}
use Rattle.model.specs.Controller as C
use Rattle.model.specs.Controller.{Controller, Outcome, After, after}
use Rattle.model.specs.Seen.{of_command, of_sheet, of_set}
use Rattle.controller.specs.Replies.{taken, Took, Did}
use Rattle.controller.proofs.Told.{command_spoken, sample_mute, step_mute, set_settled, told_all, rowed_all, settled_all}
use Rattle.listing.specs.Writing.{Adds}
use Rattle.listing.specs.Printing.{printed}
use Rattle.session.specs.Prints.{Made}

-- The host saw the controller c and the outcome t, and printed that outcome.
pub made : {S : Type 0} {a : After S} {c : Controller S} {r : Result (Unit {0}) AllocError} {before end : Vec ℕ Global} (t : Outcome) → after c t ≡ a → Adds r before end (printed t) → Made a c r before end
made {r = r} {before = before} {end = end} t is h = record { now = ap (λ x. x.now) is; prints = subst (λ x. Adds r before end (printed x.outcome)) is h }

module _ {S : Type 0} (o : Ops S) (l : C.Live S) {c : Controller S} {r : Result (Unit {0}) AllocError} {before end : Vec ℕ Global} where
  pub command_made : (port : Port) (text : List ℕ) (sheet : List Row) (block : List ℕ) {reply : Result ℕ Refusal} {sheet' : List Row} {block' : List ℕ} → Did (C.call o (C.live l) (C.command port text sheet block)) c reply sheet sheet' block block' → Adds r before end (printed (of_command reply sheet' block')) → Made (C.call o (C.live l) (C.command port text sheet block)) c r before end
  command_made port text sheet block d h = made _ (told_all _ (command_spoken o l port text sheet block) d refl) h

  pub sample_made : (w : ℕ) (sheet : List Row) {reply : Result (Unit {0}) Refusal} {sheet' : List Row} → Took (C.call o (C.live l) (C.sample w sheet)) c reply sheet sheet' → Adds r before end (printed (of_sheet reply sheet')) → Made (C.call o (C.live l) (C.sample w sheet)) c r before end
  sample_made w sheet d h = made _ (rowed_all _ (sample_mute o l w sheet) d refl) h

  pub step_made : (readings : List ℤ) (health : Health) (sheet : List Row) {reply : Result (Unit {0}) Refusal} {sheet' : List Row} → Took (C.call o (C.live l) (C.step readings health sheet)) c reply sheet sheet' → Adds r before end (printed (of_sheet reply sheet')) → Made (C.call o (C.live l) (C.step readings health sheet)) c r before end
  step_made readings health sheet d h = made _ (rowed_all _ (step_mute o l readings health sheet) d refl) h

module _ {S : Type 0} {c : Controller S} {r : Result (Unit {0}) AllocError} {before end : Vec ℕ Global} where
  pub set_made : (o : Ops S) (p : C.Parked S) (text : List ℕ) {reply : Result (Unit {0}) Refusal} → c ≡ (C.call o (C.parked p) (C.set_call text)).now → reply ≡ taken (C.call o (C.parked p) (C.set_call text)).outcome → Adds r before end (printed (of_set reply)) → Made (C.call o (C.parked p) (C.set_call text)) c r before end
  set_made o p text does says h = made _ (settled_all _ (set_settled o p text) does says refl) h

  pub park_made : {a : After S} (told : List ℕ) {dropped : List ℕ} → dropped ≡ told → after c (C.dropped_all told) ≡ a → Adds r before end (printed (C.dropped_all dropped)) → Made a c r before end
  park_made told {dropped} same is h = made (C.dropped_all dropped) (ap (λ ns. after c (C.dropped_all ns)) same ∙ is) h
