-- The account of a run: what a history of calls tells of one axis, and what must be so of it.
use Rattle.std.specs.Prelude.{◌≡◌, ℕ, ◌+◌, ◌<◌, Bool, true, false, cond, ◌&&◌, List, [], ◌∷◌, ◌++◌, length, take, ℤ, Some, None, Ok, Err, Option, Result, ◌==◌, nat_le, slice_index, slice_index_or}
use Rattle.contacts.specs.declared.kill.KillInputs.{KillInputs}
use Rattle.contacts.specs.Kills.{hit}
use Rattle.drive.specs.Axes.{axes}
use Rattle.drive.specs.Drive.{Ops}
use Rattle.queue.specs.declared.entry.Entry.{Entry}
use Rattle.queue.specs.Entries.{effects, code_number}
use Rattle.command.specs.declared.request.Command.{Command}
use Rattle.command.specs.declared.request.Port.{Port}
use Rattle.command.specs.declared.request.Refusal.{Refusal as Unread}
use Rattle.command.specs.declared.request.Refusal.TheVariants.{Length}
use Rattle.command.specs.Requests.{placed_on}
use Rattle.model.specs.declared.row.Row.{Row}
use Rattle.model.specs.Rows.{nothing}
use Rattle.model.specs.Machine.{Machine, at, waiting}
use Rattle.model.specs.Controller.{Controller, parked, live, Call, set_call, arm, command, sample, step, park, Outcome, untaken, refused, done, told, dropped_all, reading, call, new}

-- ---- what happened to an axis in one call

-- An entry as a row tells it.
pub record Stamp : Type 0 where
  pub serial : ℕ
  pub code : ℕ
  pub operand : ℤ

abbrev pub stamp : ℕ → Entry → Stamp
stamp s e = record { serial = s; code = code_number e.code; operand = e.operand }

pub data Event : Type 0 where
  quiet : Event
  accepts : List Entry → Event
  executes : Stamp → Event
  -- so many entries were dropped
  clears : ℕ → Event
  -- a clearing that drops none, after which entries are numbered anew
  arms : Event

-- What a row tells: kind 2 is an executed entry, kinds 7 to 9 are clearings.
abbrev pub rowed : Row → Event
rowed r =
    cond (r.kind == 2) (executes (record { serial = r.serial; code = r.code; operand = r.operand }))
    (cond (nat_le 7 r.kind && nat_le r.kind 9) (clears r.count) quiet)

abbrev pub rows_of : Outcome → List Row
rows_of untaken = []
rows_of (refused r) = []
rows_of done = []
rows_of (told rows bytes) = rows
rows_of (dropped_all ns) = []

abbrev pub row_of : ℕ → Outcome → Row
row_of x t = slice_index_or (rows_of t) x nothing

-- The entries that a text places on axis `x`, as it is read.
abbrev pub asked : ℕ → Result Command Unread → List Entry
asked x (Ok c) = placed_on c.request x
asked x (Err r) = []

-- A command that places nothing on the axis may have cleared it.
abbrev pub placed_or_rowed : List Entry → Row → Event
placed_or_rowed [] r = rowed r
placed_or_rowed (e ∷ es) r = accepts (e ∷ es)

abbrev pub commands : ℕ → Result Command Unread → Outcome → Event
commands x c untaken = quiet
commands x c (refused r) = quiet
commands x c done = quiet
commands x c (told rows bytes) = placed_or_rowed (asked x c) (slice_index_or rows x nothing)
commands x c (dropped_all ns) = quiet

abbrev pub arms_if : Outcome → Event
arms_if untaken = quiet
arms_if (refused r) = quiet
arms_if done = arms
arms_if (told rows bytes) = quiet
arms_if (dropped_all ns) = quiet

abbrev pub parks : ℕ → Outcome → Event
parks x untaken = quiet
parks x (refused r) = quiet
parks x done = quiet
parks x (told rows bytes) = quiet
parks x (dropped_all ns) = clears (slice_index ns x)

-- What a text asks for, as the controller reads it; a parked one reads none.
abbrev pub read_by : {S : Type 0} → Controller S → Port → List ℕ → Result Command Unread
read_by (parked p) port text = Err Length
read_by (live l) port text = reading l port text

-- What happened to axis `x` in a call made on the controller `c`.
abbrev pub event : {S : Type 0} → ℕ → Controller S → Call → Outcome → Event
event x c (set_call text) t = quiet
event x c (arm w) t = arms_if t
event x c (command port text sheet answer) t = commands x (read_by c port text) t
event x c (sample w sheet) t = rowed (row_of x t)
event x c (step readings h sheet) t = rowed (row_of x t)
event x c park t = parks x t

abbrev pub if_taken : {A : Type 0} → Outcome → A → A → A
if_taken untaken a b = b
if_taken (refused r) a b = b
if_taken done a b = a
if_taken (told rows bytes) a b = a
if_taken (dropped_all ns) a b = a

-- The latest sample that a live controller took, after a call before which it was `m`; arming's word is one.
abbrev pub sampled : Call → Outcome → Option ℕ → Option ℕ
sampled (set_call text) t m = m
sampled (arm w) t m = if_taken t (Some w) m
sampled (command port text sheet answer) t m = m
sampled (sample w sheet) t m = if_taken t (Some w) m
sampled (step readings h sheet) t m = m
sampled park t m = m

-- ---- histories

-- A call, what it told, and the controller after it.
pub record Moment (S : Type 0) : Type 0 where
  pub call : Call
  pub outcome : Outcome
  pub now : Controller S

-- A history: what came after the controller that it starts from.
abbrev pub History : Type 0 → Type 0
History S = List (Moment S)

abbrev pub end_of : {S : Type 0} → Controller S → History S → Controller S
end_of c [] = c
end_of c (m ∷ h) = end_of m.now h

abbrev pub events : {S : Type 0} → ℕ → Controller S → History S → List Event
events x c [] = []
events x c (m ∷ h) = event x c m.call m.outcome ∷ events x m.now h

abbrev pub latest : {S : Type 0} → Option ℕ → History S → Option ℕ
latest w [] = w
latest w (m ∷ h) = latest (sampled m.call m.outcome w) h

-- ---- what events add up to

abbrev pub accepted_in : Event → List Entry
accepted_in quiet = []
accepted_in (accepts es) = es
accepted_in (executes s) = []
accepted_in (clears n) = []
accepted_in arms = []

abbrev pub executed_in : Event → List Stamp
executed_in quiet = []
executed_in (accepts es) = []
executed_in (executes s) = s ∷ []
executed_in (clears n) = []
executed_in arms = []

abbrev pub accepted : List Event → List Entry
accepted [] = []
accepted (v ∷ vs) = accepted_in v ++ accepted vs

abbrev pub executed : List Event → List Stamp
executed [] = []
executed (v ∷ vs) = executed_in v ++ executed vs

-- A clearing closes a span, and counts so many entries as dropped.
abbrev pub closes : Event → Bool
closes quiet = false
closes (accepts es) = false
closes (executes s) = false
closes (clears n) = true
closes arms = true

abbrev pub drops : Event → ℕ
drops quiet = 0
drops (accepts es) = 0
drops (executes s) = 0
drops (clears n) = n
drops arms = 0

-- No clearing is among these.
abbrev pub Open : List Event → Type 0
Open [] = Unit {0}
Open (v ∷ vs) = (closes v ≡ false) × Open vs

-- A span begins after these: there are none, or the last is a clearing.
abbrev pub Begins : List Event → Type 0
Begins [] = Unit {0}
Begins (v ∷ []) = closes v ≡ true
Begins (v ∷ u ∷ vs) = Begins (u ∷ vs)

-- How many entries were accepted since the last arming, after `n`.
abbrev pub counted_in : Event → ℕ → ℕ
counted_in quiet n = n
counted_in (accepts es) n = n + length es
counted_in (executes s) n = n
counted_in (clears d) n = n
counted_in arms n = 0

abbrev pub counted : ℕ → List Event → ℕ
counted n [] = n
counted n (v ∷ vs) = counted (counted_in v n) vs

-- Entries with their numbers, after the first `n`.
abbrev pub numbered : ℕ → List Entry → List Stamp
numbered n [] = []
numbered n (e ∷ es) = stamp (n + 1) e ∷ numbered (n + 1) es

-- ---- the account

-- A span in which `vs` happened, where `n` entries had been accepted since arming before it: those executed are the first of those
-- accepted, in order and with their numbers, and `left` are the others.
pub record Span (n : ℕ) (vs : List Event) (left : List Entry) : Type 0 where
  pub first : List Entry
  pub accounted : accepted vs ≡ first ++ left
  pub in_order : executed vs ≡ numbered n first

-- The target that entries lead to, from the target `t` and no plan.
abbrev pub led : ℤ → List Entry → ℤ
led t es = (effects (record { plan = None; target = t }) es).target

abbrev pub machine_of : {S : Type 0} → Controller S → Machine S
machine_of (parked p) = p.machine
machine_of (live l) = l.machine

abbrev pub waiting_at : {S : Type 0} → ℕ → Controller S → List Entry
waiting_at x c = waiting (at x (machine_of c))

abbrev pub kills_at : {S : Type 0} → ℕ → Controller S → KillInputs
kills_at x c = (at x (machine_of c)).kills

module _ {S : Type 0} (o : Ops S) (x : ℕ) where
  abbrev pub target_at : Controller S → ℤ
  target_at c = o.target (machine_of c).drive x

  abbrev pub position_at : Controller S → ℤ
  position_at c = o.position (machine_of c).drive x

  pub record Account (c : Controller S) (h : History S) : Type 0 where
    -- In a span up to now those left are those waiting, head first.
    pub open_span : (before span later : History S) → h ≡ before ++ (span ++ later) → Begins (events x c before) →
        let start = end_of c before in
        let vs = events x start span in
        Open vs → Span (counted 0 (events x c before)) vs (waiting_at x (end_of start span))
    -- The target is the one that the span began with, changed by the entries executed since.
    pub targets : (before span later : History S) → h ≡ before ++ (span ++ later) → Begins (events x c before) →
        let start = end_of c before in
        let vs = events x start span in
        Open vs → target_at (end_of start span) ≡ led (target_at start) (take (length (executed vs)) (accepted vs))
    -- In a span that the next call closes, those left are as many as it counts as dropped.
    pub closed_span : (before span later : History S) (m : Moment S) → h ≡ before ++ (span ++ (m ∷ later)) → Begins (events x c before) →
        let start = end_of c before in
        let vs = events x start span in
        let v = event x (end_of start span) m.call m.outcome in
        Open vs → closes v ≡ true → (left : List Entry) × Span (counted 0 (events x c before)) vs left × (length left ≡ drops v)
    -- While the latest sample shows a kill input at its kill level, nothing is accepted or executed, and the position stays.
    pub killed : (before later : History S) (m : Moment S) (w : ℕ) → h ≡ before ++ (m ∷ later) →
        let now = end_of c before in
        let v = event x now m.call m.outcome in
        latest None before ≡ Some w → hit (kills_at x now) w ≡ true →
        (accepted_in v ≡ []) × (executed_in v ≡ []) × (position_at m.now ≡ position_at now)

-- The history of a list of calls.
abbrev pub history : {S : Type 0} → Ops S → Controller S → List Call → History S
history o c [] = []
history o c (k ∷ ks) = record { call = k; outcome = (call o c k).outcome; now = (call o c k).now } ∷ history o (call o c k).now ks

-- Every run of calls on a new controller keeps the account, for each axis.
abbrev pub Accounted : {S : Type 0} → Ops S → S → Type 0
Accounted {S} o s = (ks : List Call) (x : ℕ) → x < axes → Account o x (new o s) (history o (new o s) ks)
