-- The controller: what each call makes of it, and what the call tells.
use Rattle.std.specs.Prelude.{ℕ, Bool, true, false, cond, List, [], ◌∷◌, ◌++◌, map, length, replicate, ℤ, pos, Some, None, Ok, Err, Option, Result, ◌==◌, nat_le, slice_set}
use Rattle.text.specs.Decimals.{Fixed}
use Rattle.text.specs.Writing.{decimal}
use Rattle.contacts.specs.declared.kill.KillInputs.{KillInputs}
use Rattle.contacts.specs.Words.{contact_of}
use Rattle.contacts.specs.Kills.{hit, with_kill, no_kills}
use Rattle.drive.specs.declared.axis.Axis.{Axis}
use Rattle.drive.specs.declared.axis.Axis.TheVariants.{X}
use Rattle.drive.specs.declared.health.Health.{Health}
use Rattle.drive.specs.Axes.{axes, in_order, index}
use Rattle.drive.specs.Drive.{Ops, all_halted}
use Rattle.queue.specs.declared.entry.Batch.{Batch}
use Rattle.queue.specs.Views.{fresh, free, lacks_places, lacks_count}
use Rattle.command.specs.declared.request.Port.{Port}
use Rattle.command.specs.declared.request.Port.TheVariants as Ports
use Rattle.command.specs.declared.request.Selection.{Selection}
use Rattle.command.specs.declared.request.Selection.TheVariants.{One, All}
use Rattle.command.specs.declared.request.Request.{Request}
use Rattle.command.specs.declared.request.Request.TheVariants.{Select, Place, Clear, Positions, Places, ErrorRecord}
use Rattle.command.specs.declared.request.Command.{Command}
use Rattle.command.specs.declared.request.Refusal.{Refusal as Unread}
use Rattle.command.specs.declared.request.Settings.{Settings}
use Rattle.command.specs.declared.request.Setting.{Setting}
use Rattle.command.specs.declared.request.Setting.TheVariants as Sets
use Rattle.command.specs.Requests.{batch_on, recorded}
use Rattle.command.specs.Reading.{read, read_setting}
use Rattle.model.specs.declared.row.Row.{Row}
use Rattle.model.specs.declared.refusal.Refusal.{Refusal}
use Rattle.model.specs.declared.refusal.Refusal.TheVariants.{Sheet, Answer, Readings, Text, Killed, Places as TooFew, Count}
use Rattle.model.specs.Rows.{nothing}
use Rattle.model.specs.Machine.{Post, Machine, Part, at, put, each, blank, clear, judged, turn, clearing, placing}

-- What survives arming and parking: the settings of each axis, and Set's own axis.
pub record Setup : Type 0 where
  pub settings : List Settings
  pub axis : Axis

pub record Parked (S : Type 0) : Type 0 where
  pub machine : Machine S
  pub setup : Setup
  -- how many entries of each axis the last park dropped
  pub dropped : List ℕ

pub record Live (S : Type 0) : Type 0 where
  pub machine : Machine S
  pub setup : Setup
  -- port M's selection, and the axis of port P's last accepted command
  pub selection : Selection
  pub last : Axis
  -- the latest sample
  pub sampled : ℕ
  -- the first-error record
  pub errors : List ℕ

pub data Controller (S : Type 0) : Type 0 where
  parked : Parked S → Controller S
  live : Live S → Controller S

-- A call, with all that the host hands over.
pub data Call : Type 0 where
  set_call : (text : List ℕ) → Call
  arm : (word : ℕ) → Call
  command : Port → (text : List ℕ) → (sheet : List Row) → (answer : List ℕ) → Call
  sample : (word : ℕ) → (sheet : List Row) → Call
  step : (readings : List ℤ) → Health → (sheet : List Row) → Call
  park : Call

-- What a call tells.
pub data Outcome : Type 0 where
  -- the controller's state does not take the call
  untaken : Outcome
  refused : Refusal → Outcome
  -- a setting or an arming was taken
  done : Outcome
  -- the rows, and the answer
  told : List Row → (answer : List ℕ) → Outcome
  -- how many entries of each axis were dropped
  dropped_all : List ℕ → Outcome

pub record After (S : Type 0) : Type 0 where
  pub now : Controller S
  pub outcome : Outcome

-- ---- answers

-- What ends a number: a comma before the next, or a line feed after the last.
abbrev ending : List ℤ → ℕ
ending [] = 10
ending (z ∷ zs) = 44

-- Numbers with commas between them, and a line feed.
abbrev pub line : List ℤ → List ℕ
line [] = []
line (z ∷ zs) = decimal z ++ (ending zs ∷ line zs)

abbrev pub chosen_axes : Selection → List Axis
chosen_axes (One a) = a ∷ []
chosen_axes All = in_order

-- ---- settings

abbrev pub units_set : Setup → Option Fixed → Setup
units_set u f = record { settings = slice_set u.settings (index u.axis) (record { units = f }); axis = u.axis }

-- With other kill inputs on Set's axis.
abbrev pub kills_set : {S : Type 0} → Parked S → (KillInputs → KillInputs) → Parked S
kills_set p f =
    let k = index p.setup.axis in
    let q = at k p.machine in
    record {
      machine = put k p.machine p.machine.drive (record { queue = q.queue; kills = f q.kills; killed = q.killed });
      setup = p.setup;
      dropped = p.dropped;
    }

abbrev pub with_setup : {S : Type 0} → Parked S → Setup → Parked S
with_setup p u = record { machine = p.machine; setup = u; dropped = p.dropped }

abbrev pub apply : {S : Type 0} → Setting → Parked S → Parked S
apply (Sets.Select a) p = with_setup p (record { settings = p.setup.settings; axis = a })
apply (Sets.UnitsOn f) p = with_setup p (units_set p.setup (Some f))
apply Sets.UnitsOff p = with_setup p (units_set p.setup None)
apply (Sets.KillInput b l) p = kills_set p (λ k. with_kill k (contact_of (pos b)) l)
apply Sets.NoKillInputs p = kills_set p (λ k. no_kills)

-- ---- placing

-- A condition under which an axis cannot take what is placed on it, and the refusal that it gives.
pub record Condition : Type 0 where
  pub fails : Post → Batch → Bool
  pub refusal : Axis → Refusal

-- In this order, each over all named axes before the next.
abbrev pub conditions : List Condition
conditions =
    record { fails = λ p b. p.killed; refusal = Killed }
    ∷ record { fails = λ p b. lacks_places p.queue b; refusal = TooFew }
    ∷ record { fails = λ p b. lacks_count p.queue b; refusal = Count }
    ∷ []

abbrev pub fails_for : Condition → Post → Option Batch → Bool
fails_for c p None = false
fails_for c p (Some b) = c.fails p b

module _ {S : Type 0} (m : Machine S) (batches : ℕ → Option Batch) where
  abbrev pub fails_at : Condition → Axis → Bool
  fails_at c a = fails_for c (at (index a) m) (batches (index a))

  -- The first of the axes that fails the condition.
  unfoldable pub barred : Condition → List Axis → Option Refusal
  barred c [] = None
  barred c (a ∷ others) = cond (fails_at c a) (Some (c.refusal a)) (barred c others)

  abbrev pub or_else : Option Refusal → Option Refusal → Option Refusal
  or_else (Some r) o = Some r
  or_else None o = o

  unfoldable pub barring : List Condition → Option Refusal
  barring [] = None
  barring (c ∷ cs) = or_else (barred c in_order) (barring cs)

-- ---- the calls

-- The rows of a call that does nothing to any axis.
abbrev pub no_rows : List Row
no_rows = replicate axes nothing

abbrev pub noted : Port → List ℕ → List ℕ → List ℕ
noted Ports.P errors text = errors
noted Ports.M [] text = text
noted Ports.M (b ∷ bs) text = b ∷ bs

abbrev pub after : {S : Type 0} → Controller S → Outcome → After S
after c t = record { now = c; outcome = t }

-- What a text asks for, as the controller reads it.
abbrev pub reading : {S : Type 0} → Live S → Port → List ℕ → Result Command Unread
reading l port text = read port l.selection l.last l.setup.settings text

-- With another machine.
abbrev pub on : {S : Type 0} → Live S → Machine S → Live S
on l m = record { machine = m; setup = l.setup; selection = l.selection; last = l.last; sampled = l.sampled; errors = l.errors }

abbrev pub erring : {S : Type 0} → Live S → List ℕ → Live S
erring l bs = record { machine = l.machine; setup = l.setup; selection = l.selection; last = l.last; sampled = l.sampled; errors = bs }

abbrev pub addressed : {S : Type 0} → Live S → Selection → Axis → Live S
addressed l s a = record { machine = l.machine; setup = l.setup; selection = s; last = a; sampled = l.sampled; errors = l.errors }

abbrev pub sampling : {S : Type 0} → Live S → ℕ → Live S
sampling l w = record { machine = l.machine; setup = l.setup; selection = l.selection; last = l.last; sampled = w; errors = l.errors }

-- All axes' parts of a call on a live controller.
abbrev pub all_parts : {S : Type 0} → Live S → Part S (List Row) → After S
all_parts l r = after (live (on l r.now)) (told r.tells [])

abbrev pub unless_short : {S : Type 0} → Bool → Refusal → Live S → After S → After S
unless_short true r l a = a
unless_short false r l a = after (live l) (refused r)

-- An axis as it is armed under the word `w`.
abbrev pub armed : ℕ → Post → Post
armed w p = record { queue = fresh; kills = p.kills; killed = hit p.kills w }

abbrev pub arming : {S : Type 0} → Parked S → ℕ → Live S
arming p w = record {
  machine = record { drive = p.machine.drive; posts = map (armed w) p.machine.posts; output = 0 };
  setup = p.setup;
  selection = One X;
  last = X;
  sampled = w;
  errors = [];
}

abbrev pub parking : {S : Type 0} → Live S → Part S (List ℕ) → After S
parking l r = after (parked (record { machine = r.now; setup = l.setup; dropped = r.tells })) (dropped_all r.tells)

abbrev pub setting_by : {S : Type 0} → Parked S → Result Setting Unread → After S
setting_by p (Ok s) = after (parked (apply s p)) done
setting_by p (Err r) = after (parked p) (refused (Text r))

module _ {S : Type 0} (o : Ops S) where
  abbrev pub positions : Live S → Selection → List ℤ
  positions l s = map (λ a. o.position l.machine.drive (index a)) (chosen_axes s)

  abbrev pub free_places : Live S → Selection → List ℤ
  free_places l s = map (λ a. pos (free (at (index a) l.machine).queue)) (chosen_axes s)

  -- Placing, once the conditions were tried; `l` is the controller as it was, and `k` as the command leaves it.
  abbrev pub place_unless : Live S → Live S → (ℕ → Option Batch) → Option Refusal → After S
  place_unless l k batches (Some r) = after (live l) (refused r)
  place_unless l k batches None = all_parts k (each axes (placing o batches) k.machine)

  -- What a request makes of a controller.
  abbrev pub obey : Live S → Axis → Request → After S
  obey l a (Select s) = after (live (addressed l s a)) (told no_rows [])
  obey l a (Place c os go) =
      let batches = batch_on (Place c os go) in
      place_unless l (addressed l l.selection a) batches (barring l.machine batches conditions)
  obey l a (Clear os halt) = all_parts (addressed l l.selection a) (each axes (clearing o os halt) l.machine)
  obey l a (Positions s) = after (live (addressed l l.selection a)) (told no_rows (line (positions l s)))
  obey l a (Places s) = after (live (addressed l l.selection a)) (told no_rows (line (free_places l s)))
  obey l a ErrorRecord = after (live (erring (addressed l l.selection a) [])) (told no_rows (l.errors ++ (10 ∷ [])))

  abbrev pub commanded : Live S → Port → List ℕ → Result Command Unread → After S
  commanded l port text (Ok c) = obey l c.last c.request
  commanded l port text (Err r) = after (live (erring l (noted port l.errors (recorded r text)))) (refused (Text r))

  abbrev pub advancing : Live S → List ℤ → Health → Machine S
  advancing l readings h = record { drive = o.advanced l.machine.drive readings h; posts = l.machine.posts; output = l.machine.output }

  -- What a call makes of a controller. A call that its state does not take changes nothing.
  unfoldable pub call : Controller S → Call → After S
  call (parked p) (set_call text) = setting_by p (read_setting text)
  call (parked p) (arm w) = after (live (arming p w)) done
  call (parked p) (command port text sheet answer) = after (parked p) untaken
  call (parked p) (sample w sheet) = after (parked p) untaken
  call (parked p) (step readings h sheet) = after (parked p) untaken
  call (parked p) park = after (parked p) untaken
  call (live l) (set_call text) = after (live l) untaken
  call (live l) (arm w) = after (live l) untaken
  call (live l) (command port text sheet answer) =
      unless_short (length sheet == axes) Sheet l
      (unless_short (nat_le 192 (length answer)) Answer l (commanded l port text (reading l port text)))
  call (live l) (sample w sheet) =
      unless_short (length sheet == axes) Sheet l (all_parts (sampling l w) (each axes (judged o w) l.machine))
  call (live l) (step readings h sheet) =
      unless_short (length sheet == axes) Sheet l
      (unless_short (length readings == axes) Readings l (all_parts l (each axes (turn o l.sampled) (advancing l readings h))))
  call (live l) park = parking l (each axes (clear o true) l.machine)

  -- A new controller over a drive: every axis is halted, none has a kill input, and all units are off.
  unfoldable pub new : S → Controller S
  new s = parked (record {
    machine = record { drive = all_halted o s; posts = replicate axes blank; output = 0 };
    setup = record { settings = replicate axes (record { units = None }); axis = X };
    dropped = replicate axes 0;
  })
