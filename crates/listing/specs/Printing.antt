-- What is printed of the outcome of a call.
use Rattle.std.specs.Prelude.{ℕ, cond, List, [], ◌∷◌, ◌++◌, map, length, codes, ◌==◌, slice_index_or}
use Rattle.std.specs.List.{flat_map}
use Rattle.text.specs.Writing.{digits, decimal}
use Rattle.drive.specs.declared.axis.Axis.{Axis}
use Rattle.drive.specs.Axes.{in_order, index, letter}
use Rattle.command.specs.declared.request.Notice.{Notice}
use Rattle.model.specs.declared.row.Row.{Row}
use Rattle.model.specs.Refusals.{noticed}
use Rattle.model.specs.Rows.{nothing}
use Rattle.model.specs.Controller.{Outcome, untaken, refused, done, told, dropped_all}

-- Words with a space before each, and a line feed.
abbrev pub ending : List (List ℕ) → List ℕ
ending [] = codes "\n"
ending (w ∷ ws) = codes " " ++ (w ++ ending ws)

-- Words with single spaces between them, and a line feed.
abbrev pub line : List ℕ → List (List ℕ) → List ℕ
line first others = first ++ ending others

-- Nothing is printed of a row of kind 0.
abbrev pub row_line : Axis → Row → List ℕ
row_line a r =
    cond (r.kind == 0) [] (line (letter a ∷ []) (digits r.kind ∷ digits r.count ∷ digits r.serial ∷ digits r.code ∷ decimal r.operand ∷ []))

-- An axis's row of a sheet; one that is missing counts as one of kind 0.
abbrev pub row_of : List Row → Axis → List ℕ
row_of sheet a = row_line a (slice_index_or sheet (index a) nothing)

abbrev pub row_lines : List Row → List ℕ
row_lines sheet = flat_map (row_of sheet) in_order

-- Nothing is printed of an empty answer; any other ends with its own line feed.
abbrev pub answer_line : List ℕ → List ℕ
answer_line answer = cond (length answer == 0) [] (codes "= " ++ answer)

abbrev pub notice_line : Notice → List ℕ
notice_line n = line (codes "!") (digits n.number ∷ digits n.place ∷ digits n.axis ∷ [])

abbrev pub dropped_line : List ℕ → List ℕ
dropped_line ns = line (codes "-") (map digits ns)

abbrev pub printed : Outcome → List ℕ
printed untaken = []
printed (refused r) = notice_line (noticed r)
printed done = []
printed (told sheet answer) = row_lines sheet ++ answer_line answer
printed (dropped_all ns) = dropped_line ns
