use Rattle.std.proofs.Common.{◌≡◌, [], ◌∷◌, ◌++◌, map, length, vec_items, sym, refl, ap, ◌∙◌, append_assoc, arith}
use mathlib.Core.List.{map-append}
use Rattle.model.specs.Controller.{new}
use Rattle.journal.specs.Journals.{outcomes}
use Rattle.journal.specs.Views.{call_view, outcome_view, after_view}
use Rattle.journal.proofs.Runs.{ran_none, ran_more, kept, all_came}
use Rattle.journal.proofs.running.run.Goals as goal

pub loop-call-init : goal.loop-call-init
loop-call-init g c = (refl, ran_none g.D.Drive.ops _ (ap (map outcome_view) c.new-journal.ensures.items))

pub loop-call-preserved : goal.loop-call-preserved
loop-call-preserved g c =
    let call = c.in-Some.call in
    let came = c.loop-call.yielded in
    let a = after_view g.D.Drive.state c.make-next.result.0 c.make-next.result.1 in (
      append_assoc came (call ∷ []) _ ∙ ap (λ l. came ++ l) (sym c.in-Some.ensures.steps.0) ∙ c.loop-call.invariant.0,
      ran_more g.D.Drive.ops (call_view call) a c.make-next.ensures c.loop-call.invariant.1 (map-append call_view came (call ∷ [])) (ap (map outcome_view) c.in_ok-push.ensures.items ∙ map-append outcome_view (vec_items c.loop-call.journal) _),
    )

pub returns : goal.returns
returns g c =
    let o = g.D.Drive.ops in
    let s = g.D.Drive.state c.args.drive in
    let rest = c.loop-call.call-iterator.rest in
    let none : length rest.items ≡ 0 = omega (arith, rest.ok, c.in-None.ensures.steps.0) in
    let all : c.loop-call.yielded ≡ vec_items c.args.calls = all_came _ rest.items _ none c.loop-call.invariant.0 ∙ c.into_iter-call-iterator.ensures.into_iter_gives.0 in
    let journal : map outcome_view (vec_items c.loop-call.journal) ≡ outcomes o (new o s) (map call_view (vec_items c.args.calls)) =
    c.loop-call.invariant.1.told ∙ (λ i. outcomes o (c.new.ensures.says i) (map call_view (all i))) in
    record { journal = journal; account = kept o g.met.D.Drive.keeps s (map call_view (vec_items c.args.calls)) _ journal }
