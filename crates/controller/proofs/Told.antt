-- What a host sees of a call tells what the call told.
use Rattle.std.proofs.Common.{◌≡◌, ℕ, Bool, true, false, eqb, leb, List, [], ◌∷◌, length, drop, ℤ, Some, None, Ok, Err, Option, Result, refl, ap, ◌∙◌, arith}
use Rattle.std.proofs.lemmas.List.{take-append-le, take_all}
use Rattle.drive.specs.declared.axis.Axis.{Axis}
use Rattle.drive.specs.declared.health.Health.{Health}
use Rattle.drive.specs.Axes.{axes}
use Rattle.drive.specs.Drive.{Ops}
use Rattle.queue.specs.declared.entry.Batch.{Batch}
use Rattle.command.specs.declared.request.Port.{Port}
use Rattle.command.specs.declared.request.Request.{Request}
use Rattle.command.specs.declared.request.Request.TheVariants.{Select, Place, Clear, Positions, Places, ErrorRecord}
use Rattle.command.specs.declared.request.Command.{Command}
use Rattle.command.specs.declared.request.Refusal.{Refusal as Unread}
use Rattle.command.specs.declared.request.Setting.{Setting}
use Rattle.command.specs.Requests.{batch_on}
use Rattle.command.specs.Reading.{read_setting}
use Rattle.model.specs.declared.row.Row.{Row}
use Rattle.model.specs.declared.refusal.Refusal.{Refusal}
use Rattle.model.specs.declared.refusal.Refusal.TheVariants.{Sheet, Answer, Readings}
use Rattle.model.specs.Controller as C
use Rattle.model.specs.Seen.{of_command, of_sheet, of_set}
use Rattle.controller.specs.Replies.{answered, taken, sheet_after, block_after, Took, Did}

-- A command tells rows and an answer, or is refused.
abbrev pub Spoken : C.Outcome → Type 0
Spoken C.untaken = ⊥
Spoken (C.refused r) = Unit {0}
Spoken C.done = ⊥
Spoken (C.told rows bytes) = Unit {0}
Spoken (C.dropped_all ns) = ⊥

-- A sample and a step tell rows and no answer.
abbrev pub Mute : C.Outcome → Type 0
Mute C.untaken = ⊥
Mute (C.refused r) = Unit {0}
Mute C.done = ⊥
Mute (C.told rows []) = Unit {0}
Mute (C.told rows (b ∷ bs)) = ⊥
Mute (C.dropped_all ns) = ⊥

-- A setting is done, or refused.
abbrev pub Settled : C.Outcome → Type 0
Settled C.untaken = ⊥
Settled (C.refused r) = Unit {0}
Settled C.done = Unit {0}
Settled (C.told rows bytes) = ⊥
Settled (C.dropped_all ns) = ⊥

-- ---- the calls

module _ {S : Type 0} (P : C.Outcome → Type 0) (refused-so : (r : Refusal) → P (C.refused r)) (l : C.Live S) where
  unless : (b : Bool) (r : Refusal) (a : C.After S) → P a.outcome → P (C.unless_short b r l a).outcome
  unless true r a h = h
  unless false r a h = refused-so r

module _ {S : Type 0} (o : Ops S) (l : C.Live S) where
  placed : (k : C.Live S) (batches : ℕ → Option Batch) (x : Option Refusal) → Spoken (C.place_unless o l k batches x).outcome
  placed k batches None = tt
  placed k batches (Some r) = tt

  obeyed : (last : Axis) (r : Request) → Spoken (C.obey o l last r).outcome
  obeyed last (Select s) = tt
  obeyed last (Place c os go) = placed (C.addressed l l.selection last) (batch_on (Place c os go)) _
  obeyed last (Clear os halt) = tt
  obeyed last (Positions s) = tt
  obeyed last (Places s) = tt
  obeyed last ErrorRecord = tt

  answered_so : (port : Port) (text : List ℕ) (x : Result Command Unread) → Spoken (C.commanded o l port text x).outcome
  answered_so port text (Ok c) = obeyed c.last c.request
  answered_so port text (Err r) = tt

  pub command_spoken : (port : Port) (text : List ℕ) (sheet : List Row) (block : List ℕ) → Spoken (C.call o (C.live l) (C.command port text sheet block)).outcome
  unfolding C.call
  command_spoken port text sheet block =
      unless Spoken (λ r. tt) l (eqb (length sheet) axes) Sheet _
      (unless Spoken (λ r. tt) l (leb 192 (length block)) Answer _ (answered_so port text (C.reading l port text)))

  pub sample_mute : (w : ℕ) (sheet : List Row) → Mute (C.call o (C.live l) (C.sample w sheet)).outcome
  unfolding C.call
  sample_mute w sheet = unless Mute (λ r. tt) l (eqb (length sheet) axes) Sheet _ tt

  pub step_mute : (readings : List ℤ) (h : Health) (sheet : List Row) → Mute (C.call o (C.live l) (C.step readings h sheet)).outcome
  unfolding C.call
  step_mute readings h sheet =
      unless Mute (λ r. tt) l (eqb (length sheet) axes) Sheet _ (unless Mute (λ r. tt) l (eqb (length readings) axes) Readings _ tt)

set_by : {S : Type 0} (p : C.Parked S) (x : Result Setting Unread) → Settled (C.setting_by p x).outcome
set_by p (Ok c) = tt
set_by p (Err r) = tt

pub set_settled : {S : Type 0} (o : Ops S) (p : C.Parked S) (text : List ℕ) → Settled (C.call o (C.parked p) (C.set_call text)).outcome
unfolding C.call
set_settled o p text = set_by p (read_setting text)

-- ---- what was told, from what was seen

pub heard : (t : C.Outcome) (sheet : List Row) (block : List ℕ) → Spoken t → of_command (answered t) (sheet_after t sheet) (block_after t block) ≡ t
heard (C.refused r) sheet block h = refl
heard (C.told rows bytes) sheet block h =
    ap (C.told rows) (take-append-le (length bytes) bytes (drop (length bytes) block) (omega arith) ∙ take_all (length bytes) bytes (omega arith))
heard C.untaken sheet block h = absurd h
heard C.done sheet block h = absurd h
heard (C.dropped_all ns) sheet block h = absurd h

pub read_off : (t : C.Outcome) (sheet : List Row) → Mute t → of_sheet (taken t) (sheet_after t sheet) ≡ t
read_off (C.refused r) sheet h = refl
read_off (C.told rows []) sheet h = refl
read_off (C.told rows (b ∷ bs)) sheet h = absurd h
read_off C.untaken sheet h = absurd h
read_off C.done sheet h = absurd h
read_off (C.dropped_all ns) sheet h = absurd h

pub settled_off : (t : C.Outcome) → Settled t → of_set (taken t) ≡ t
settled_off (C.refused r) h = refl
settled_off C.done h = refl
settled_off C.untaken h = absurd h
settled_off (C.told rows bytes) h = absurd h
settled_off (C.dropped_all ns) h = absurd h

-- ---- what a call left and told, from what was seen

module _ {S : Type 0} (a : C.After S) {c : C.Controller S} {t : C.Outcome} where
  pub told_all : {r : Result ℕ Refusal} {sheet sheet' : List Row} {block block' : List ℕ} → Spoken a.outcome → Did a c r sheet sheet' block block' → t ≡ of_command r sheet' block' → C.after c t ≡ a
  told_all {r} {sheet} {sheet'} {block} {block'} h d is =
      let seen : t ≡ a.outcome = is ∙ (λ i. of_command (d.says i) (d.rows i) (d.answer i)) ∙ heard a.outcome sheet block h in
      λ i. record { now = d.now i; outcome = seen i }

  pub rowed_all : {r : Result (Unit {0}) Refusal} {sheet sheet' : List Row} → Mute a.outcome → Took a c r sheet sheet' → t ≡ of_sheet r sheet' → C.after c t ≡ a
  rowed_all {r} {sheet} {sheet'} h d is =
      let seen : t ≡ a.outcome = is ∙ (λ i. of_sheet (d.says i) (d.rows i)) ∙ read_off a.outcome sheet h in
      λ i. record { now = d.now i; outcome = seen i }

  pub settled_all : {r : Result (Unit {0}) Refusal} → Settled a.outcome → c ≡ a.now → r ≡ taken a.outcome → t ≡ of_set r → C.after c t ≡ a
  settled_all h left says is =
      let seen : t ≡ a.outcome = is ∙ ap of_set says ∙ settled_off a.outcome h in λ i. record { now = left i; outcome = seen i }
