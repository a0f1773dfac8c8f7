-- Histories of faulty controllers, each of which breaks the account of axis X.
use Rattle.std.specs.Prelude.{◌≡◌, ℕ, true, false, List, [], ◌∷◌, replicate, ℤ, pos, None, codes}
use Rattle.std.specs.List.{AllByRecursion}
use Rattle.contacts.specs.declared.kill.KillInputs.{KillInputs}
use Rattle.contacts.specs.Kills.{with_kill, no_kills}
use Rattle.drive.specs.declared.axis.Axis.TheVariants.{X}
use Rattle.drive.specs.Axes.{axes}
use Rattle.drive.specs.Drive.{Ops}
use Rattle.drive.specs.Range.{bottom, top}
use Rattle.queue.specs.declared.entry.Code.TheVariants.{Ma, Mr, Go}
use Rattle.queue.specs.declared.entry.Entry.{Entry}
use Rattle.command.specs.declared.request.Port.{Port}
use Rattle.command.specs.declared.request.Port.TheVariants.{M, P}
use Rattle.command.specs.declared.request.Selection.TheVariants.{One}
use Rattle.command.specs.Reading.{read}
use Rattle.model.specs.declared.row.Row.{Row}
use Rattle.model.specs.Rows.{nothing, accepted, executed, dead, by_sample}
use Rattle.model.specs.Controller.{Controller, live, Call, set_call, arm, command, sample, step, park, told, dropped_all, no_rows, new}
use Rattle.model.specs.Account.{asked, Moment, History, Account, stamp, quiet, accepts, executes, clears, arms, events, history}

-- ---- a drive, a controller over it, and calls

-- A drive whose axes are all at one place, on their way to one target.
pub record Spot : Type 0 where
  pub position : ℤ
  pub target : ℤ

abbrev pub spots : Ops Spot
spots = record {
  position = λ s k. s.position;
  target = λ s k. s.target;
  least = λ s k. bottom;
  greatest = λ s k. top;
  down = λ s k. false;
  begun = λ s k t. record { position = s.position; target = t };
  halted = λ s k. record { position = s.position; target = s.position };
  advanced = λ s readings h. record { position = s.target; target = s.target };
}

-- Contact 2 kills at level 1.
abbrev pub kill_input : KillInputs
kill_input = with_kill no_kills 2 true

-- A live controller: what waits on X, its position and its target. The account looks at no more than these and the kill inputs.
abbrev pub holding : List Entry → ℕ → ℕ → Controller Spot
holding es p t = live (record {
  machine = record {
    drive = record { position = pos p; target = pos t };
    posts = record { queue = record { entries = es; plan = None; count = 0 }; kills = kill_input; killed = false } ∷ [];
    output = 0;
  };
  setup = record { settings = []; axis = X };
  selection = One X;
  last = X;
  sampled = 0;
  errors = [];
})

abbrev pub idle : Controller Spot
idle = holding [] 0 0

-- A call, the row that it fills for X, and the controller after it.
abbrev tells : Call → Row → Controller Spot → Moment Spot
tells k r c = record { call = k; outcome = told (r ∷ []) []; now = c }

-- A text is accepted, which places one entry.
abbrev takes : List ℕ → Controller Spot → Moment Spot
takes text c = tells (command M text no_rows (replicate 192 0)) (accepted 1) c

abbrev samples : ℕ → Row → Controller Spot → Moment Spot
samples w r c = tells (sample w no_rows) r c

abbrev steps : Row → Controller Spot → Moment Spot
steps r c = tells (step (replicate axes (pos 0)) (record { bits = 255 }) no_rows) r c

abbrev kills : ℕ → Controller Spot → Moment Spot
kills n c = samples 4 (by_sample n) c

abbrev frees : Controller Spot → Moment Spot
frees c = samples 0 nothing c

-- ---- three texts, and what they place

abbrev pub ma9 : List ℕ
ma9 = codes "MA9"

abbrev pub mr5 : List ℕ
mr5 = codes "MR5"

abbrev pub go : List ℕ
go = codes "GO"

abbrev pub MA9 : Entry
MA9 = record { code = Ma; operand = pos 9 }

abbrev pub MR5 : Entry
MR5 = record { code = Mr; operand = pos 5 }

abbrev pub GO : Entry
GO = record { code = Go; operand = pos 0 }

abbrev pub Places : List ℕ → Entry → Type 0
Places text e = asked 0 (read M (One X) X [] text) ≡ e ∷ []

-- ---- the faults

abbrev pub executed_twice : History Spot
executed_twice = takes go (holding (GO ∷ []) 0 0) ∷ steps (executed 1 GO) idle ∷ steps (executed 2 GO) idle ∷ []

abbrev pub out_of_order : History Spot
out_of_order =
    takes mr5 (holding (MR5 ∷ []) 0 0)
    ∷ takes go (holding (MR5 ∷ GO ∷ []) 0 0)
    ∷ steps (executed 1 GO) (holding (MR5 ∷ []) 0 0)
    ∷ []

-- Of two equal entries the first is executed under the number of the second.
abbrev pub wrong_serial : History Spot
wrong_serial = takes go (holding (GO ∷ []) 0 0) ∷ takes go (holding (GO ∷ GO ∷ []) 0 0) ∷ steps (executed 2 GO) (holding (GO ∷ []) 0 0) ∷ []

-- Entries are numbered anew after a kill.
abbrev pub numbered_anew : History Spot
numbered_anew =
    takes go (holding (GO ∷ []) 0 0) ∷ kills 1 idle ∷ frees idle ∷ takes go (holding (GO ∷ []) 0 0) ∷ steps (executed 1 GO) idle ∷ []

-- An entry is neither executed nor waiting.
abbrev pub lost : History Spot
lost = takes go idle ∷ []

-- One entry waited, and none is counted as dropped.
abbrev pub uncounted : History Spot
uncounted = takes go (holding (GO ∷ []) 0 0) ∷ kills 0 idle ∷ []

-- One entry waited, and two are counted as dropped.
abbrev pub overcounted : History Spot
overcounted =
    takes go (holding (GO ∷ []) 0 0) ∷ record { call = park; outcome = dropped_all (2 ∷ []); now = idle } ∷ []

-- An entry is executed that a kill dropped.
abbrev pub entry_outlives_kill : History Spot
entry_outlives_kill = takes go (holding (GO ∷ []) 0 0) ∷ kills 1 idle ∷ frees idle ∷ steps (executed 1 GO) idle ∷ []

-- A GO after a kill begins the plan from before it.
abbrev pub plan_outlives_kill : History Spot
plan_outlives_kill =
    takes ma9 (holding (MA9 ∷ []) 0 0)
    ∷ steps (executed 1 MA9) idle
    ∷ kills 0 idle
    ∷ frees idle
    ∷ takes go (holding (GO ∷ []) 0 0)
    ∷ steps (executed 2 GO) (holding [] 0 9)
    ∷ []

abbrev pub go_moves_nothing : History Spot
go_moves_nothing =
    takes ma9 (holding (MA9 ∷ []) 0 0)
    ∷ takes go (holding (MA9 ∷ GO ∷ []) 0 0)
    ∷ steps (executed 1 MA9) (holding (GO ∷ []) 0 0)
    ∷ steps (executed 2 GO) idle
    ∷ []

abbrev pub moved_without_go : History Spot
moved_without_go = takes mr5 (holding (MR5 ∷ []) 0 0) ∷ steps (executed 1 MR5) (holding [] 0 5) ∷ []

-- MR 5 leads to 5, from the target 0 when it was accepted, and not to 14, from the target 9 when it is executed.
abbrev pub reckoned_early : History Spot
reckoned_early =
    takes ma9 (holding (MA9 ∷ []) 0 0)
    ∷ takes go (holding (MA9 ∷ GO ∷ []) 0 0)
    ∷ takes mr5 (holding (MA9 ∷ GO ∷ MR5 ∷ []) 0 0)
    ∷ takes go (holding (MA9 ∷ GO ∷ MR5 ∷ GO ∷ []) 0 0)
    ∷ steps (executed 1 MA9) (holding (GO ∷ MR5 ∷ GO ∷ []) 0 0)
    ∷ steps (executed 2 GO) (holding (MR5 ∷ GO ∷ []) 0 9)
    ∷ steps (executed 3 MR5) (holding (GO ∷ []) 9 9)
    ∷ steps (executed 4 GO) (holding [] 9 5)
    ∷ []

abbrev pub accepted_while_killed : History Spot
accepted_while_killed = kills 0 idle ∷ takes go (holding (GO ∷ []) 0 0) ∷ []

abbrev pub executed_while_killed : History Spot
executed_while_killed = takes go (holding (GO ∷ []) 0 0) ∷ kills 1 idle ∷ steps (executed 1 GO) idle ∷ []

-- The kill did not halt the axis.
abbrev pub moved_while_killed : History Spot
moved_while_killed = kills 0 (holding [] 0 5) ∷ steps dead (holding [] 5 5) ∷ []

abbrev pub faults : List (History Spot)
faults =
    executed_twice
    ∷ out_of_order
    ∷ wrong_serial
    ∷ numbered_anew
    ∷ lost
    ∷ uncounted
    ∷ overcounted
    ∷ entry_outlives_kill
    ∷ plan_outlives_kill
    ∷ go_moves_nothing
    ∷ moved_without_go
    ∷ reckoned_early
    ∷ accepted_while_killed
    ∷ executed_while_killed
    ∷ moved_while_killed
    ∷ []

-- The account holds of none of them.
abbrev pub Caught : Type 0
Caught = AllByRecursion (λ h. Account spots 0 idle h → ⊥) faults

-- ---- a right run

abbrev origin : Spot
origin = record { position = pos 0; target = pos 0 }

abbrev stepping : Call
stepping = step (replicate axes (pos 0)) (record { bits = 255 }) no_rows

abbrev says : Port → List ℕ → Call
says port text = command port text no_rows (replicate 192 0)

-- A kill between a mount command and a bench command.
abbrev pub calls : List Call
calls =
    set_call (codes "IOK2,1")
    ∷ arm 0
    ∷ says M mr5
    ∷ says M go
    ∷ stepping
    ∷ sample 4 no_rows
    ∷ says P (codes "1PR5")
    ∷ stepping
    ∷ sample 0 no_rows
    ∷ says P (codes "1PR5")
    ∷ stepping
    ∷ stepping
    ∷ park
    ∷ []

-- What it tells of X: spans that are closed and open, with entries executed, dropped and waiting, and calls while X is killed.
abbrev pub Right : Type 0
Right =
    events 0 (new spots origin) (history spots (new spots origin) calls)
    ≡ quiet ∷ arms ∷ accepts (MR5 ∷ []) ∷ accepts (GO ∷ []) ∷ executes (stamp 1 MR5) ∷ clears 1 ∷ quiet ∷ quiet ∷ quiet
    ∷ accepts (MR5 ∷ GO ∷ []) ∷ executes (stamp 3 MR5) ∷ executes (stamp 4 GO) ∷ clears 0 ∷ []
