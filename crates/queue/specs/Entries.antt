-- Entries: their codes, which of these take an argument, and what executing one does to an axis's plan and target.
use Rattle.std.specs.Prelude.{ℕ, ◌+◌, Bool, true, false, cond, ◌&&◌, List, [], ◌∷◌, map, codes, ℤ, pos, ◌+ℤ◌, neg_ℤ, ◌≤ℤ◌, Some, None, Option, int_le}
use Rattle.queue.specs.declared.entry.Code.{Code}
use Rattle.queue.specs.declared.entry.Code.TheVariants.{Ma, Mr, Go, Bh, Bl, Sw, Bw, Ws}
use Rattle.queue.specs.declared.entry.Entry.{Entry}
use Rattle.queue.specs.declared.entry.Batch.{Batch}
use Rattle.queue.specs.declared.entry.Batch.TheVariants.{One, Two}

abbrev pub code_number : Code → ℕ
code_number Ma = 1
code_number Mr = 2
code_number Go = 3
code_number Bh = 4
code_number Bl = 5
code_number Sw = 6
code_number Bw = 7
code_number Ws = 8

-- The two letters that a code is printed as.
abbrev pub code_letters : Code → List ℕ
code_letters Ma = codes "MA"
code_letters Mr = codes "MR"
code_letters Go = codes "GO"
code_letters Bh = codes "BH"
code_letters Bl = codes "BL"
code_letters Sw = codes "SW"
code_letters Bw = codes "BW"
code_letters Ws = codes "WS"

-- Whether the code takes an argument.
abbrev pub takes : Code → Bool
takes Ma = true
takes Mr = true
takes Go = false
takes Bh = true
takes Bl = true
takes Sw = true
takes Bw = true
takes Ws = false

-- The entry as it waits: with operand 0 where its code takes no argument.
abbrev pub settled : Entry → Entry
settled e = record { code = e.code; operand = cond (takes e.code) e.operand (pos 0) }

-- The entries that a batch places, in their order.
abbrev pub listed : Batch → List Entry
listed (One e) = settled e ∷ []
listed (Two e f) = settled e ∷ settled f ∷ []

-- How many of the codes, or of the entries, take an argument.
abbrev pub taking : List Code → ℕ
taking [] = 0
taking (c ∷ cs) = cond (takes c) 1 0 + taking cs

abbrev pub argument_count : List Entry → ℕ
argument_count es = taking (map (λ e. e.code) es)

-- An argument place holds a count, which is of this size at most.
abbrev pub greatest_count : ℕ
greatest_count = 2147483646

abbrev pub in_range : ℤ → Bool
in_range n = int_le (neg_ℤ (pos greatest_count)) n && int_le n (pos greatest_count)

abbrev pub InRange : ℤ → Type 0
InRange n = (neg_ℤ (pos greatest_count) ≤ℤ n) × (n ≤ℤ pos greatest_count)

abbrev pub all_in_range : List ℤ → Bool
all_in_range [] = true
all_in_range (n ∷ ns) = in_range n && all_in_range ns

-- Whether the operands of the entries are counts.
abbrev pub ranged : List Entry → Bool
ranged es = all_in_range (map (λ e. e.operand) es)

-- Where an axis is bound: its plan, if it has one, and its drive's target.
pub record Aim : Type 0 where
  pub plan : Option ℤ
  pub target : ℤ

-- GO: a plan becomes the target.
abbrev pub gone : Option ℤ → ℤ → Aim
gone None t = record { plan = None; target = t }
gone (Some p) t = record { plan = None; target = p }

-- What executing a code with its operand does.
abbrev pub effect_of : Code → ℤ → Aim → Aim
effect_of Ma n g = record { plan = Some n; target = g.target }
effect_of Mr n g = record { plan = Some (g.target +ℤ n); target = g.target }
effect_of Go n g = gone g.plan g.target
effect_of Bh n g = g
effect_of Bl n g = g
effect_of Sw n g = g
effect_of Bw n g = g
effect_of Ws n g = g

abbrev pub effect : Aim → Entry → Aim
effect g e = effect_of e.code e.operand g

-- What executing entries does, in their order.
abbrev pub effects : Aim → List Entry → Aim
effects g [] = g
effects g (e ∷ es) = effects (effect g e) es
