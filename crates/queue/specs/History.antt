-- Calls on a queue: what each tells, and what they leave.
use Rattle.std.specs.Prelude.{List, [], ◌∷◌, length}
use Rattle.queue.specs.declared.history.Step.{Step}
use Rattle.queue.specs.declared.history.Step.TheVariants.{Place, Look, Take, Clear, Free}
use Rattle.queue.specs.Views.{View, verdict, placed, head_of, taken, cleared, free}

-- The step with what its call tells.
abbrev pub told : View → Step → Step
told v (Place b r) = Place b (verdict v b)
told v (Look h) = Look (head_of v)
told v (Take h) = Take (head_of v)
told v (Clear n) = Clear (length v.entries)
told v (Free n) = Free (free v)

abbrev pub after : View → Step → View
after v (Place b r) = placed v b
after v (Look h) = v
after v (Take h) = taken v
after v (Clear n) = cleared v
after v (Free n) = v

abbrev pub history : View → List Step → List Step
history v [] = []
history v (s ∷ ss) = told v s ∷ history (after v s) ss

abbrev pub final : View → List Step → View
final v [] = v
final v (s ∷ ss) = final (after v s) ss
