-- What a request asks for, in words. Assumes nothing.
use Rattle.std.specs.Prelude.{ℕ, Bool, true, false, cond, List, [], ◌∷◌, ◌++◌, map, length, codes, decimal, fold, Option, ◌==◌}
use Rattle.std.specs.Fmt.{signed_decimal}
use Rattle.drive.specs.declared.axis.Axis.{Axis}
use Rattle.drive.specs.Axes.{index, letter, in_order}
use Rattle.queue.specs.declared.entry.Entry.{Entry}
use Rattle.queue.specs.declared.entry.Batch.{Batch}
use Rattle.queue.specs.Entries.{code_letters, takes}
use Rattle.command.specs.declared.request.Selection.{Selection}
use Rattle.command.specs.declared.request.Selection.TheVariants.{One, All}
use Rattle.command.specs.declared.request.Request.{Request}
use Rattle.command.specs.declared.request.Request.TheVariants.{Select, Place, Clear, Positions, Places, ErrorRecord}
use Rattle.command.specs.declared.request.Refusal.{Refusal}
use Rattle.command.specs.Requests.{batch_on, entries_of, clears_on, notice}

abbrev pub axis_word : Axis → List ℕ
axis_word a = letter a ∷ []

abbrev pub selection_word : Selection → List ℕ
selection_word (One a) = axis_word a
selection_word All = codes "all"

abbrev pub halt_word : Bool → List ℕ
halt_word true = codes " and halt"
halt_word false = []

-- an entry that an axis takes: the axis, the code, and the operand where the code takes one
abbrev pub operand_word : Entry → List ℕ
operand_word e = cond (takes e.code) (codes " " ++ signed_decimal e.operand) []

abbrev pub entry_words : Axis → Entry → List ℕ
entry_words a e = axis_word a ++ (codes " " ++ (code_letters e.code ++ operand_word e))

-- one phrase more in a list: a comma parts it from those before it
abbrev pub comma : List ℕ → List ℕ
comma list = cond (length list == 0) [] (codes ", ")

abbrev pub with_phrase : List ℕ → List ℕ → List ℕ
with_phrase list phrase = list ++ (comma list ++ phrase)

-- the phrases of an axis: an entry each, and the axis alone where it is cleared
abbrev pub entered : Axis → Option Batch → List (List ℕ)
entered a b = map (entry_words a) (entries_of b)

abbrev pub cleared : Axis → Bool → List (List ℕ)
cleared a clears = cond clears (axis_word a ∷ []) []

abbrev pub with_axis : Request → List ℕ → Axis → List ℕ
with_axis r list a = fold with_phrase (fold with_phrase list (entered a (batch_on r (index a)))) (cleared a (clears_on r (index a)))

-- what a request does to the axes, in order
abbrev pub listed : Request → List ℕ
listed r = fold (with_axis r) [] in_order

-- what is told of the selected axes
abbrev pub tell_words : List ℕ → Selection → List ℕ
tell_words what s = codes "tell " ++ (what ++ (codes " of " ++ selection_word s))

abbrev pub request_words : Request → List ℕ
request_words (Select s) = codes "select " ++ selection_word s
request_words (Place c os go) = codes "place " ++ listed (Place c os go)
request_words (Clear os halt) = codes "clear " ++ (listed (Clear os halt) ++ halt_word halt)
request_words (Positions s) = tell_words (codes "positions") s
request_words (Places s) = tell_words (codes "free places") s
request_words ErrorRecord = codes "tell the error record"

-- the number of a refusal, and the place of the byte that it is about
abbrev pub refusal_words : Refusal → List ℕ
refusal_words e = codes "! " ++ (decimal (notice e).number ++ (codes " " ++ decimal (notice e).place))
