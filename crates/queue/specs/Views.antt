-- One axis's queue as its user sees it, and what each call answers and leaves.
use Rattle.std.specs.Prelude.{◌≡◌, ℕ, ◌+◌, ◌-◌, ◌≤◌, Bool, true, false, cond, not, ◌||◌, List, [], ◌∷◌, ◌++◌, length, drop, ℤ, pos, Some, None, Ok, Err, Option, Result, nat_lt, slice_index_or}
use Rattle.queue.specs.declared.entry.Code.{Code}
use Rattle.queue.specs.declared.entry.Entry.{Entry}
use Rattle.queue.specs.declared.entry.Batch.{Batch}
use Rattle.queue.specs.declared.axis.Head.{Head}
use Rattle.queue.specs.declared.axis.Refusal.{Refusal}
use Rattle.queue.specs.declared.axis.Refusal.TheVariants.{Commands, Arguments, Count}
use Rattle.queue.specs.Entries.{takes, listed, argument_count, ranged}

-- Places for commands, places for arguments, and the most entries that an axis takes in from one arming to the next.
abbrev pub command_places : ℕ
command_places = 128

abbrev pub argument_places : ℕ
argument_places = 64

abbrev pub most_entries : ℕ
most_entries = 1000000000

pub record View : Type 0 where
  -- the waiting entries, head first
  pub entries : List Entry
  pub plan : Option ℤ
  -- how many entries were taken in since arming
  pub count : ℕ

-- Codes with their operands: each code that takes an argument has the next of the arguments, and the others have 0.
abbrev pub paired : List Code → List ℤ → List Entry
paired [] zs = []
paired (c ∷ cs) zs =
    record { code = c; operand = cond (takes c) (slice_index_or zs 0 (pos 0)) (pos 0) } ∷ paired cs (cond (takes c) (drop 1 zs) zs)

-- The queue that these codes, arguments, plan and count make.
abbrev pub seen : List Code → List ℤ → Option ℤ → ℕ → View
seen codes arguments p n = record { entries = paired codes arguments; plan = p; count = n }

-- A new queue, and one that was armed anew.
abbrev pub fresh : View
fresh = record { entries = []; plan = None; count = 0 }

-- With these entries behind the others.
abbrev pub extended : View → List Entry → View
extended v es = record { entries = v.entries ++ es; plan = v.plan; count = v.count + length es }

-- There is room for these entries.
pub record Roomy (v : View) (es : List Entry) : Type 0 where
  pub command_room : length v.entries + length es ≤ command_places
  pub argument_room : argument_count v.entries + argument_count es ≤ argument_places
  pub in_place : ranged es ≡ true
  pub count_room : v.count + length es ≤ most_entries

-- Whether the batch finds too few free command places; too few free argument places, or none that holds an operand of
-- it; or would have the count pass its bound.
abbrev pub lacks_commands : View → Batch → Bool
lacks_commands v b = nat_lt command_places (length v.entries + length (listed b))

abbrev pub lacks_arguments : View → Batch → Bool
lacks_arguments v b =
    nat_lt argument_places (argument_count v.entries + argument_count (listed b)) || not (ranged (listed b))

abbrev pub lacks_places : View → Batch → Bool
lacks_places v b = lacks_commands v b || lacks_arguments v b

abbrev pub lacks_count : View → Batch → Bool
lacks_count v b = nat_lt most_entries (v.count + length (listed b))

-- The number under which a command's refusal is told.
abbrev pub refusal_number : Refusal → ℕ
refusal_number Commands = 10
refusal_number Arguments = 10
refusal_number Count = 11

-- The first of the three that holds is the refusal.
abbrev pub judged : Bool → Bool → Bool → Result (Unit {0}) Refusal
judged true few_arguments full = Err Commands
judged false true full = Err Arguments
judged false false true = Err Count
judged false false false = Ok tt

abbrev pub verdict : View → Batch → Result (Unit {0}) Refusal
verdict v b = judged (lacks_commands v b) (lacks_arguments v b) (lacks_count v b)

-- All of the batch waits behind the others, or nothing has changed.
abbrev pub placed_by : Result (Unit {0}) Refusal → View → Batch → View
placed_by (Ok done) v b = extended v (listed b)
placed_by (Err refusal) v b = v

abbrev pub placed : View → Batch → View
placed v b = placed_by (verdict v b) v b

-- The first of the entries, of which `count` were taken in since arming.
abbrev pub first_of : List Entry → ℕ → Option Head
first_of [] count = None
first_of (e ∷ es) count = Some (record { entry = e; serial = count - length (e ∷ es) + 1 })

abbrev pub head_of : View → Option Head
head_of v = first_of v.entries v.count

-- Without its head.
abbrev pub taken : View → View
taken v = record { entries = drop 1 v.entries; plan = v.plan; count = v.count }

-- With neither entry nor plan.
abbrev pub cleared : View → View
cleared v = record { entries = []; plan = None; count = v.count }

abbrev pub replanned : View → Option ℤ → View
replanned v p = record { entries = v.entries; plan = p; count = v.count }

-- Free command places.
abbrev pub free : View → ℕ
free v = command_places - length v.entries
