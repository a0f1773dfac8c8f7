use Rattle.std.proofs.Common.{◌≡◌, ◌++◌, map, vec_items}
use Rattle.journal.specs.Views.{call_view, outcome_view, state_view}
use Rattle.journal.proofs.Runs.{Ran}
use Rattle.journal.proofs.running.run.Given as goal

abbrev pub invariant-loop-call : goal.invariant-loop-call
invariant-loop-call g l =
    let view = state_view g.D.Drive.state in
    (l.yielded ++ l.call-iterator.rest.items ≡ l.initial.call-iterator.rest.items)
    × Ran g.D.Drive.ops (view l.initial.state) (map call_view l.yielded) (view l.state) (map outcome_view (vec_items l.journal))
