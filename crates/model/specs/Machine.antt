-- The machine: what entries act on. One axis's part of each call.
use Rattle.std.specs.Prelude.{ℕ, zero, suc, ◌+◌, ◌-◌, Bool, true, false, not, List, [], ◌∷◌, ◌++◌, length, ℤ, Some, None, Option, slice_index_or, slice_set}
use Rattle.contacts.specs.declared.kill.KillInputs.{KillInputs}
use Rattle.contacts.specs.Words.{bit, written, contact_of}
use Rattle.contacts.specs.Kills.{hit, no_kills}
use Rattle.drive.specs.Drive.{Ops, still, reaches}
use Rattle.queue.specs.declared.entry.Code.{Code}
use Rattle.queue.specs.declared.entry.Code.TheVariants.{Ma, Mr, Go, Bh, Bl, Sw, Bw, Ws}
use Rattle.queue.specs.declared.entry.Entry.{Entry}
use Rattle.queue.specs.declared.entry.Batch.{Batch}
use Rattle.queue.specs.Entries.{Aim, effect, listed}
use Rattle.queue.specs.Views.{View, fresh, placed, taken, cleared, replanned}
use Rattle.command.specs.Requests.{Operands, named_in}
use Rattle.model.specs.declared.row.Row.{Row}
use Rattle.model.specs.Rows.{nothing, accepted, executed, in_motion, awaiting, drive_down, dead, by_command, by_sample, by_reach}

-- One axis: its queue with its plan and its count, its kill inputs, and whether it is killed.
pub record Post : Type 0 where
  pub queue : View
  pub kills : KillInputs
  pub killed : Bool

-- What entries act on: the drive, the axes, and the output word.
pub record Machine (S : Type 0) : Type 0 where
  pub drive : S
  pub posts : List Post
  pub output : ℕ

abbrev pub blank : Post
blank = record { queue = fresh; kills = no_kills; killed = false }

-- The axis of index `k`.
abbrev pub at : {S : Type 0} → ℕ → Machine S → Post
at k m = slice_index_or m.posts k blank

-- With axis `k` as `p`, and the drive `s`.
abbrev pub put : {S : Type 0} → ℕ → Machine S → S → Post → Machine S
put k m s p = record { drive = s; posts = slice_set m.posts k p; output = m.output }

abbrev pub with_queue : Post → View → Post
with_queue p q = record { queue = q; kills = p.kills; killed = p.killed }

abbrev pub marked : Bool → Post → Post
marked b p = record { queue = p.queue; kills = p.kills; killed = b }

abbrev pub emptied : Post → Post
emptied p = with_queue p (cleared p.queue)

abbrev pub waiting : Post → List Entry
waiting p = p.queue.entries

-- The machine after one axis's part of a call, or after all of them, and what they tell.
pub record Part (S R : Type 0) : Type 0 where
  pub now : Machine S
  pub tells : R

-- The parts of the axes below `n`, in their order.
unfoldable pub each : {S R : Type 0} → ℕ → (ℕ → Machine S → Part S R) → Machine S → Part S (List R)
each zero f m = record { now = m; tells = [] }
each (suc n) f m =
    let r = each n f m in
    let s = f n r.now in
    record { now = s.now; tells = r.tells ++ (s.tells ∷ []) }

-- ---- what a step finds

pub data Next : Type 0 where
  -- nothing is executed, and the row says why
  stays : Row → Next
  -- the entry is executed, and begins no motion
  runs : Entry → Next
  -- GO begins the plan
  begins : Entry → ℤ → Next
  -- the plan is out of reach
  overreaches : Next

abbrev pub unless : Bool → Row → Next → Next
unless true r n = stays r
unless false r n = n

-- Whether an entry of this code waits, where the bit that it names has this level.
abbrev pub awaits : Code → Bool → Bool
awaits Sw b = not b
awaits Bw b = b
awaits Ma b = false
awaits Mr b = false
awaits Go b = false
awaits Bh b = false
awaits Bl b = false
awaits Ws b = false

abbrev pub held : ℕ → Entry → Bool
held w e = awaits e.code (bit w (contact_of e.operand))

abbrev pub reached : Bool → Entry → ℤ → Next
reached true e t = begins e t
reached false e t = overreaches

-- GO at the head: with no plan it is executed; with one, the drive may be down, or the plan out of its reach.
abbrev pub going : Option ℤ → Bool → (ℤ → Bool) → Entry → Next
going None down within e = runs e
going (Some t) down within e = unless down drive_down (reached (within t) e t)

abbrev pub heading : Code → Option ℤ → Bool → (ℤ → Bool) → Entry → Next
heading Go p down within e = going p down within e
heading Ma p down within e = runs e
heading Mr p down within e = runs e
heading Bh p down within e = runs e
heading Bl p down within e = runs e
heading Sw p down within e = runs e
heading Bw p down within e = runs e
heading Ws p down within e = runs e

abbrev pub queued : List Entry → Bool → ℕ → Option ℤ → Bool → (ℤ → Bool) → Next
queued [] is_still w p down within = stays nothing
queued (e ∷ es) is_still w p down within =
    unless (not is_still) in_motion (unless (held w e) awaiting (heading e.code p down within e))

-- The output word after an entry.
abbrev pub shown : Code → ℕ → ℕ → ℕ
shown Bh b o = written o b true
shown Bl b o = written o b false
shown Ma b o = o
shown Mr b o = o
shown Go b o = o
shown Sw b o = o
shown Bw b o = o
shown Ws b o = o

abbrev pub driven : ℕ → Entry → ℕ
driven o e = shown e.code (contact_of e.operand) o

-- The number of the head among the axis's entries since arming.
abbrev pub serial : View → ℕ
serial q = q.count - length q.entries + 1

module _ {S : Type 0} (o : Ops S) where
  abbrev pub halting : Bool → S → ℕ → S
  halting true s k = o.halted s k
  halting false s k = s

  -- Axis `k` is cleared, and halted or not; it tells how many entries that dropped.
  unfoldable pub clear : Bool → ℕ → Machine S → Part S ℕ
  clear halt k m =
      record { now = put k m (halting halt m.drive k) (emptied (at k m)); tells = length (waiting (at k m)) }

  -- ---- Sample

  abbrev pub judge : Bool → Bool → ℕ → Machine S → Part S Row
  judge false true k m =
      record { now = put k m (o.halted m.drive k) (marked true (emptied (at k m))); tells = by_sample (length (waiting (at k m))) }
  judge true false k m = record { now = put k m m.drive (marked false (at k m)); tells = nothing }
  judge false false k m = record { now = m; tells = nothing }
  judge true true k m = record { now = m; tells = nothing }

  -- The word `w` for axis `k`: it is killed, is killed no longer, or neither.
  unfoldable pub judged : ℕ → ℕ → Machine S → Part S Row
  judged w k m = judge (at k m).killed (hit (at k m).kills w) k m

  -- ---- Step

  abbrev pub aim : ℕ → Machine S → Aim
  aim k m = record { plan = (at k m).queue.plan; target = o.target m.drive k }

  unfoldable pub next : ℕ → ℕ → Machine S → Next
  next w k m =
      unless (at k m).killed dead
      (queued (waiting (at k m)) (still o m.drive k) w (at k m).queue.plan (o.down m.drive k) (reaches o m.drive k))

  -- The queue without its head, and with this plan.
  abbrev pub stepped : ℕ → Machine S → Option ℤ → Post
  stepped k m p = with_queue (at k m) (replanned (taken (at k m).queue) p)

  unfoldable pub perform : ℕ → Machine S → Next → Part S Row
  perform k m (stays r) = record { now = m; tells = r }
  perform k m (runs e) =
      record {
        now = record { drive = m.drive; posts = slice_set m.posts k (stepped k m (effect (aim k m) e).plan); output = driven m.output e };
        tells = executed (serial (at k m).queue) e;
      }
  perform k m (begins e t) =
      record { now = put k m (o.begun m.drive k t) (stepped k m None); tells = executed (serial (at k m).queue) e }
  perform k m overreaches = let r = clear true k m in record { now = r.now; tells = by_reach r.tells }

  -- The step of axis `k`, under the sampled word `w`.
  unfoldable pub turn : ℕ → ℕ → Machine S → Part S Row
  turn w k m = perform k m (next w k m)

  -- ---- Command

  abbrev pub clear_if : Bool → Bool → ℕ → Machine S → Part S Row
  clear_if true halt k m = let r = clear halt k m in record { now = r.now; tells = by_command r.tells }
  clear_if false halt k m = record { now = m; tells = nothing }

  -- The named axes are cleared.
  unfoldable pub clearing : Operands → Bool → ℕ → Machine S → Part S Row
  clearing os halt k m = clear_if (named_in os k) halt k m

  abbrev pub place : Option Batch → ℕ → Machine S → Part S Row
  place None k m = record { now = m; tells = nothing }
  place (Some b) k m =
      record { now = put k m m.drive (with_queue (at k m) (placed (at k m).queue b)); tells = accepted (length (listed b)) }

  -- What is placed on each axis.
  unfoldable pub placing : (ℕ → Option Batch) → ℕ → Machine S → Part S Row
  placing batches k m = place (batches k) k m
