-- The two states as the model has them: no field is left out. Assumes nothing.
use Rattle.drive.specs.Drive.{Ops}
use Rattle.model.specs.Controller as C
use Rattle.parts.specs.Views.{machine_view}
use Rattle.controller.specs.declared.states.Parked.{Parked}
use Rattle.controller.specs.declared.states.Live.{Live}

module _ {D S : Type 0} (state : D → S) where
  abbrev pub parked_view : Parked D → C.Parked S
  parked_view p =
      record { machine = machine_view state p.machine; setup = p.setup; dropped = p.dropped }

  abbrev pub live_view : Live D → C.Live S
  live_view l = record {
    machine = machine_view state l.machine;
    setup = l.setup;
    selection = l.selection;
    last = l.last;
    sampled = l.sampled;
    errors = l.errors;
  }

  -- What the defined controller makes of a call on one that is parked, or live.
  module _ (o : Ops S) where
    abbrev pub on_parked : Parked D → C.Call → C.After S
    on_parked p k = C.call o (C.parked (parked_view p)) k

    abbrev pub on_live : Live D → C.Call → C.After S
    on_live l k = C.call o (C.live (live_view l)) k
