-- What a worked example is: calls on a new controller over the counting drive, and all that they give.
use Rattle.std.specs.Prelude.{ℕ, false, List, [], map, length, replicate, pos, Some, None, Option, slice_set}
use Rattle.text.specs.Decimals.{Fixed}
use Rattle.contacts.specs.Kills.{no_kills}
use Rattle.drive.specs.declared.axis.Axis.{Axis}
use Rattle.drive.specs.declared.axis.Axis.TheVariants.{X}
use Rattle.drive.specs.Axes.{axes, index}
use Rattle.drive.specs.Drive.{Ops, all_halted}
use Rattle.motors.specs.Banks.{banked}
use Rattle.drives.specs.Counting.{CountingState, counted, counting_from}
use Rattle.queue.specs.declared.entry.Entry.{Entry}
use Rattle.command.specs.declared.request.Notice.{Notice}
use Rattle.command.specs.declared.request.Selection.{Selection}
use Rattle.model.specs.Refusals.{noticed}
use Rattle.model.specs.Machine.{Post}
use Rattle.model.specs.Controller.{Controller, parked, live, Call, Outcome, untaken, refused, done, told, dropped_all, new}
use Rattle.model.specs.Account.{Moment, end_of, history}

-- ---- what is written of an example

-- A call, and what it gives.
pub record Line : Type 0 where
  pub call : Call
  pub outcome : Outcome
  -- the number, the place and the axis, where the call is refused
  pub notice : Option Notice
  -- the error record after the call
  pub errors : List ℕ

-- What may have changed at the end. All else is as at the start.
pub record End : Type 0 where
  -- what waits on each axis, head first
  pub queues : List (List Entry)
  pub errors : List ℕ
  -- port M's selection, and port P's last axis
  pub selection : Selection
  pub last : Axis
  -- the factor of X, where its units are on
  pub units : Option Fixed

pub record Example : Type 0 where
  pub lines : List Line
  pub end : End

-- ---- the start, and the whole controller at the end

-- `x` for one axis, and `other` for each of the others.
abbrev pub beside : {A : Type 0} → A → Axis → A → List A
beside other a x = slice_set (replicate axes other) (index a) x

abbrev pub counting : Ops CountingState
counting = banked counted

-- Rate 2 and start 0 on every axis.
abbrev pub new_drive : CountingState
new_drive = counting_from (replicate axes (pos 2)) (replicate axes (pos 0))

abbrev pub start : Controller CountingState
start = new counting new_drive

-- An axis on which these entries wait, the only ones since arming.
abbrev pub holding : List Entry → Post
holding es = record { queue = record { entries = es; plan = None; count = length es }; kills = no_kills; killed = false }

abbrev pub whole : End → Controller CountingState
whole e = live (record {
  machine = record { drive = all_halted counting new_drive; posts = map holding e.queues; output = 0 };
  setup = record { settings = beside (record { units = None }) X (record { units = e.units }); axis = X };
  selection = e.selection;
  last = e.last;
  sampled = 0;
  errors = e.errors;
})

-- ---- what an example gives

pub record Run : Type 0 where
  pub lines : List Line
  pub end : Controller CountingState

abbrev notice_of : Outcome → Option Notice
notice_of untaken = None
notice_of (refused r) = Some (noticed r)
notice_of done = None
notice_of (told rows answer) = None
notice_of (dropped_all ns) = None

-- A parked controller has no error record.
abbrev errors_of : Controller CountingState → List ℕ
errors_of (parked p) = []
errors_of (live l) = l.errors

abbrev seen : Moment CountingState → Line
seen m = record { call = m.call; outcome = m.outcome; notice = notice_of m.outcome; errors = errors_of m.now }

-- What the defined controller gives on its calls.
abbrev pub played : Example → Run
played e =
    let h = history counting start (map (λ l. l.call) e.lines) in record { lines = map seen h; end = end_of start h }

-- What is written of it.
abbrev pub written : Example → Run
written e = record { lines = e.lines; end = whole e.end }
