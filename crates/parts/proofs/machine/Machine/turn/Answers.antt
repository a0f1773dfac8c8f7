use Rattle.std.proofs.Common.{true, false, Some, None, refl, ◌∙◌, rules}
use Rattle.parts.proofs.Branches.{heads_go, heads_other, turned, stayed}
use Rattle.parts.proofs.machine.Machine.turn.Goals as goal

pub returns-then-is_killed : goal.returns-then-is_killed
returns-then-is_killed g c = stayed _ _ _ _ ∙ turned _ _ _ _ true _ _ _ _ (search rules) refl refl refl refl

pub returns-in_default : goal.returns-in_default
returns-in_default g c = stayed _ _ _ _ ∙ turned _ _ _ _ false None _ _ _ (search rules) (search rules) refl refl refl

pub returns-then-not-is_still : goal.returns-then-not-is_still
returns-then-not-is_still g c = stayed _ _ _ _ ∙ turned _ _ _ _ false (Some c.in-Some.head) false _ _ (search rules) (search rules) (search rules) refl refl

pub returns-then-is_held : goal.returns-then-is_held
returns-then-is_held g c = stayed _ _ _ _ ∙ turned _ _ _ _ false (Some c.in-Some.head) true true _ (search rules) (search rules) (search rules) (search rules) refl

pub returns-in-Go : goal.returns-in-Go
returns-in-Go g c = c.go.ensures ∙ turned _ _ _ _ false (Some c.in-Some.head) true false _ (search rules) (search rules) (search rules) (search rules) (heads_go _ _ _ _ _ c.in-Go.is)

pub returns-in_default-code : goal.returns-in_default-code
returns-in_default-code g c = c.run.ensures ∙ turned _ _ _ _ false (Some c.in-Some.head) true false _ (search rules) (search rules) (search rules) (search rules) (heads_other _ _ _ _ _ c.in_default-code.not-Go)
