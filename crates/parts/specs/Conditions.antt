-- The conditions of placing, as the code tests them.
use Rattle.std.specs.Prelude.{◌≡◌, Bool}
use Rattle.std.specs.Borrow.{Bor}
use Rattle.drive.specs.declared.axis.Axis.{Axis}
use Rattle.queue.specs.declared.entry.Batch.{Batch}
use Rattle.queue.specs.Views.{lacks_places, lacks_count}
use Rattle.model.specs.declared.refusal.Refusal.{Refusal}
use Rattle.model.specs.declared.refusal.Refusal.TheVariants.{Killed, Places, Count}
use Rattle.model.specs.Machine.{Post}
use Rattle.model.specs.Controller.{Condition}

-- In the order in which they are tried.
abbrev pub killed : Condition
killed = record { fails = λ p b. p.killed; refusal = Killed }

abbrev pub few_places : Condition
few_places = record { fails = λ p b. lacks_places p.queue b; refusal = Places }

abbrev pub full_count : Condition
full_count = record { fails = λ p b. lacks_count p.queue b; refusal = Count }

-- What each call of a closure says is whether a post fails the condition for a batch.
abbrev pub FailsBy : (Bor Post → Batch → Bool → Type 0) → Condition → Type 0
FailsBy calls c = (p : Bor Post) (b : Batch) (r : Bool) → calls p b r → r ≡ c.fails p.now b

-- What each call of a closure gives is the condition's refusal for an axis.
abbrev pub RefusesBy : (Axis → Refusal → Type 0) → Condition → Type 0
RefusesBy calls c = (a : Axis) (r : Refusal) → calls a r → r ≡ c.refusal a
