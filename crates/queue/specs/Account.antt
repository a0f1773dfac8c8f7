-- The account of every history of calls on a new queue: number the placed entries from 1; in each stretch between
-- clearings those placed are those taken, in order and with their numbers, and those left.
use Rattle.std.specs.Prelude.{◌≡◌, ℕ, ◌+◌, Bool, true, false, List, [], ◌∷◌, ◌++◌, map, length, Some, None, Ok, Err}
use Rattle.std.specs.List.{flat_map, AllByRecursion}
use Rattle.queue.specs.declared.entry.Entry.{Entry}
use Rattle.queue.specs.declared.axis.Head.{Head}
use Rattle.queue.specs.declared.history.Step.{Step}
use Rattle.queue.specs.declared.history.Step.TheVariants.{Place, Look, Take, Clear, Free}
use Rattle.queue.specs.Entries.{listed}

-- The entries that a step placed.
abbrev pub entered : Step → List Entry
entered (Place b (Ok done)) = listed b
entered (Place b (Err refusal)) = []
entered (Look h) = []
entered (Take h) = []
entered (Clear n) = []
entered (Free n) = []

-- The entry that a step took, with the number told.
abbrev pub took : Step → List Head
took (Place b r) = []
took (Look h) = []
took (Take None) = []
took (Take (Some h)) = h ∷ []
took (Clear n) = []
took (Free n) = []

abbrev pub clears : Step → Bool
clears (Place b r) = false
clears (Look h) = false
clears (Take h) = false
clears (Clear n) = true
clears (Free n) = false

abbrev pub all_entered : List Step → List Entry
all_entered ss = flat_map entered ss

abbrev pub all_took : List Step → List Head
all_took ss = flat_map took ss

-- The entries with their numbers, of which `n` were given before.
abbrev pub numbered : ℕ → List Entry → List Head
numbered n [] = []
numbered n (e ∷ es) = record { entry = e; serial = n + 1 } ∷ numbered (n + 1) es

-- A stretch starts after these steps: there are none, or the last of them clears.
abbrev pub Starts : List Step → Type 0
Starts [] = Unit {0}
Starts (s ∷ []) = clears s ≡ true
Starts (s ∷ t ∷ ss) = Starts (t ∷ ss)

abbrev pub Uncleared : List Step → Type 0
Uncleared ss = AllByRecursion (λ s. clears s ≡ false) ss

-- The stretch `ss` after `before` was left with these entries, under their numbers.
abbrev pub Leaves : List Step → List Step → List Head → Type 0
Leaves before ss left = numbered (length (all_entered before)) (all_entered ss) ≡ all_took ss ++ left

pub record Account (steps : List Step) (waiting : List Entry) : Type 0 where
  -- A stretch that is cleared leaves as many entries as the clearing says it dropped.
  pub cleared : (before stretch later : List Step) (dropped : ℕ) → steps ≡ before ++ (stretch ++ Clear dropped ∷ later)
      → Starts before → Uncleared stretch → (left : List Head) × Leaves before stretch left × (length left ≡ dropped)
  -- The last stretch leaves those waiting.
  pub last : (before stretch : List Step) → steps ≡ before ++ stretch
      → Starts before → Uncleared stretch → (left : List Head) × Leaves before stretch left × (map (λ h. h.entry) left ≡ waiting)
