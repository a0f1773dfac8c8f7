-- What a call told, by what a host sees of it: what it gave back, and the lent sheet and answer block after it.
use Rattle.std.specs.Prelude.{ℕ, List, [], take, Ok, Err, Result}
use Rattle.model.specs.declared.row.Row.{Row}
use Rattle.model.specs.declared.refusal.Refusal.{Refusal}
use Rattle.model.specs.Controller.{Outcome, refused, done, told}

-- A command gives back how many bytes of its block are the answer.
abbrev pub of_command : Result ℕ Refusal → (sheet : List Row) → (block : List ℕ) → Outcome
of_command (Ok n) sheet block = told sheet (take n block)
of_command (Err r) sheet block = refused r

-- A sample, and a step.
abbrev pub of_sheet : Result (Unit {0}) Refusal → (sheet : List Row) → Outcome
of_sheet (Ok _) sheet = told sheet []
of_sheet (Err r) sheet = refused r

-- A setting.
abbrev pub of_set : Result (Unit {0}) Refusal → Outcome
of_set (Ok _) = done
of_set (Err r) = refused r
