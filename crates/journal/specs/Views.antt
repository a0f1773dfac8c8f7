-- Calls, outcomes and states as the model has them. Assumes nothing.
use Rattle.std.specs.Prelude.{vec_items}
use Rattle.model.specs.Controller as C
use Rattle.controller.specs.Views.{parked_view, live_view}
use Rattle.journal.specs.declared.calls.Call.{Call}
use Rattle.journal.specs.declared.calls.Call.TheVariants.{Set, Arm, Command, Sample, Step, Park}
use Rattle.journal.specs.declared.calls.Outcome.{Outcome}
use Rattle.journal.specs.declared.calls.Outcome.TheVariants.{Untaken, Refused, Done, Told, Dropped}
use Rattle.journal.specs.declared.making.State.{State}
use Rattle.journal.specs.declared.making.State.TheVariants.{Parked, Live}

abbrev pub call_view : Call → C.Call
call_view (Set text) = C.set_call (vec_items text)
call_view (Arm word) = C.arm word
call_view (Command port text sheet answer) = C.command port (vec_items text) (vec_items sheet) (vec_items answer)
call_view (Sample word sheet) = C.sample word (vec_items sheet)
call_view (Step readings health sheet) = C.step (vec_items readings) health (vec_items sheet)
call_view Park = C.park

abbrev pub outcome_view : Outcome → C.Outcome
outcome_view Untaken = C.untaken
outcome_view (Refused r) = C.refused r
outcome_view Done = C.done
outcome_view (Told rows answer) = C.told (vec_items rows) (vec_items answer)
outcome_view (Dropped ns) = C.dropped_all ns

module _ {D S : Type 0} (state : D → S) where
  abbrev pub state_view : State D → C.Controller S
  state_view (Parked p) = C.parked (parked_view state p)
  state_view (Live l) = C.live (live_view state l)

  -- The controller after a call, and what the call told.
  abbrev pub after_view : State D → Outcome → C.After S
  after_view c t = record { now = state_view c; outcome = outcome_view t }
