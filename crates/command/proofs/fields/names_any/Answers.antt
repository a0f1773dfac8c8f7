use Rattle.std.proofs.Common.{◌||◌, is_some, refl, ◌∙◌, rules, tests}
use Rattle.std.specs.List.{list_any}
use Rattle.std.proofs.lemmas.Iterator.{YieldsList-from_slice}
use Rattle.std.proofs.lemmas.Iterator.Search.{any_from_yields_List}
use Rattle.std.proofs.lemmas.List.Recursion.{same_from_clauses}
use Rattle.command.specs.Fields.{any}
use Rattle.command.proofs.fields.names_any.Goals as goal

pub returns : goal.returns
returns c =
    any_from_yields_List is_some _ _ _ c.any.ensures.ran (YieldsList-from_slice c.args.fields.now cc) (λ x b q k. search (rules, tests)) ∙ same_from_clauses (list_any is_some) any (λ f b. is_some f || b) refl (λ _ _. refl) (λ _ _. refl) c.args.fields.now
