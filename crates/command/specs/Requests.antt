-- What a request does to each axis, and what a refusal tells. Assumes nothing.
use Rattle.std.specs.Prelude.{ℕ, ◌+◌, Bool, true, false, List, [], take, replicate, ℤ, pos, is_some, Some, None, Option, ◌==◌, slice_index_or, slice_set}
use Rattle.drive.specs.declared.axis.Axis.{Axis}
use Rattle.drive.specs.Axes.{axes, index}
use Rattle.queue.specs.declared.entry.Code.{Code}
use Rattle.queue.specs.declared.entry.Code.TheVariants.{Go}
use Rattle.queue.specs.declared.entry.Entry.{Entry}
use Rattle.queue.specs.declared.entry.Batch.{Batch}
use Rattle.queue.specs.declared.entry.Batch.TheVariants as Batches
use Rattle.queue.specs.Entries.{listed}
use Rattle.command.specs.declared.request.Selection.{Selection}
use Rattle.command.specs.declared.request.Selection.TheVariants.{One, All}
use Rattle.command.specs.declared.request.Request.{Request}
use Rattle.command.specs.declared.request.Request.TheVariants.{Select, Place, Clear, Positions, Places, ErrorRecord}
use Rattle.command.specs.declared.request.Notice.{Notice}
use Rattle.command.specs.declared.request.Refusal.{Refusal}
use Rattle.command.specs.declared.request.Refusal.TheVariants.{Length, Name, Mode, Form, Range}

-- For each axis its operand, or none where it is not named.
abbrev pub Operands : Type 0
Operands = List (Option ℤ)

-- One axis is named.
abbrev pub alone : Axis → ℤ → Operands
alone a n = slice_set (replicate axes None) (index a) (Some n)

-- One axis is named, with no operand.
abbrev pub bare : Axis → Operands
bare a = alone a (pos 0)

-- Every axis is named.
abbrev pub every : Operands
every = replicate axes (Some (pos 0))

-- The axis of index `k` is named.
abbrev pub named_in : Operands → ℕ → Bool
named_in os k = is_some (slice_index_or os k None)

-- The selection has the axis of index `k`.
abbrev pub chosen : Selection → ℕ → Bool
chosen (One a) k = index a == k
chosen All k = true

-- The named axes take an entry of the code.
abbrev pub enters : Code → Operands → Request
enters c os = Place c os false

abbrev entry : Code → ℤ → Entry
entry c n = record { code = c; operand = n }

-- An entry, and a GO after it or not.
abbrev pub batch : Code → Bool → ℤ → Batch
batch c true n = Batches.Two (entry c n) (entry Go (pos 0))
batch c false n = Batches.One (entry c n)

abbrev batch_for : Code → Bool → Option ℤ → Option Batch
batch_for c go None = None
batch_for c go (Some n) = Some (batch c go n)

-- What a request places on the axis of index `k`.
abbrev pub batch_on : Request → ℕ → Option Batch
batch_on (Select s) k = None
batch_on (Place c os go) k = batch_for c go (slice_index_or os k None)
batch_on (Clear os halt) k = None
batch_on (Positions s) k = None
batch_on (Places s) k = None
batch_on ErrorRecord k = None

abbrev pub entries_of : Option Batch → List Entry
entries_of None = []
entries_of (Some b) = listed b

-- The entries that a request places on the axis of index `k`.
abbrev pub placed_on : Request → ℕ → List Entry
placed_on r k = entries_of (batch_on r k)

-- Whether a request clears the axis of index `k`.
abbrev pub clears_on : Request → ℕ → Bool
clears_on (Select s) k = false
clears_on (Place c os go) k = false
clears_on (Clear os halt) k = named_in os k
clears_on (Positions s) k = false
clears_on (Places s) k = false
clears_on ErrorRecord k = false

-- Whether a request asks after the axis of index `k`.
abbrev pub asks_of : Request → ℕ → Bool
asks_of (Select s) k = false
asks_of (Place c os go) k = false
asks_of (Clear os halt) k = false
asks_of (Positions s) k = chosen s k
asks_of (Places s) k = chosen s k
asks_of ErrorRecord k = false

abbrev told : ℕ → ℕ → Notice
told n p = record { number = n; place = p; axis = 0 }

-- What is told of a refusal.
abbrev pub notice : Refusal → Notice
notice Length = told 4 0
notice (Name p) = told 5 p
notice Mode = told 6 0
notice (Form p) = told 7 p
notice (Range p) = told 8 p

-- What the error record takes of a refused text: through the byte at the place for a name or a form, the whole text where a byte is missing,
-- out of range or not valid in AA, and nothing for a bad length.
abbrev pub recorded : Refusal → List ℕ → List ℕ
recorded Length text = []
recorded (Name p) text = take (p + 1) text
recorded Mode text = text
recorded (Form p) text = take (p + 1) text
recorded (Range p) text = text
