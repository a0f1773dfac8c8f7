-- A line for each axis. Assumes nothing.
use Rattle.std.proofs.Common.{◌≡◌, ℕ, List, [], ◌∷◌, map, length, ◌++◌, ◌⊎◌, ⊎_elim, pos, sym, refl, ap, ◌∙◌, append-nil, arith}
use Rattle.drive.specs.declared.axis.Axis.{Axis}
use Rattle.drive.specs.Axes.{in_order}
use Rattle.model.specs.declared.row.Row.{Row}
use Rattle.listing.specs.declared.show.Course.{Course}
use Rattle.listing.specs.Printing.{row_line, row_lines}
use Rattle.listing.specs.Shows.{course_line, axis_lines}
use Rattle.listing.proofs.Places.{at_places}

-- F is what is printed of an axis and its item; nothing is printed of an axis that has none.
module _ {X : Type 0} (F : Axis → X → List ℕ) where
  abbrev pub lines_of : List Axis → List X → List ℕ
  lines_of [] xs = []
  lines_of (a ∷ others) [] = []
  lines_of (a ∷ others) (x ∷ xs) = F a x ++ lines_of others xs

  none_left : (axes : List Axis) (xs : List X) → (length axes ≡ 0) ⊎ (length xs ≡ 0) → lines_of axes xs ≡ []
  none_left [] xs h = refl
  none_left (a ∷ others) [] h = refl
  none_left (a ∷ others) (x ∷ xs) h = absurd (⊎_elim (λ p. omega arith) (λ p. omega arith) h)

  -- `out` is printed before the axes and the items that are left, where one of the two came to its end.
  pub all_told : (out start : List ℕ) (axes : List Axis) (xs all : List X) → (length axes ≡ 0) ⊎ (length xs ≡ 0) → out ++ lines_of axes xs ≡ start ++ lines_of in_order all → out ≡ start ++ lines_of in_order all
  all_told out start axes xs all h inv = sym (append-nil out) ∙ ap (λ l. out ++ l) (sym (none_left axes xs h)) ∙ inv

-- A row of kind 0 prints nothing, so a row that is missing may count as one.
pub rows_are : (sheet : List Row) → lines_of row_line in_order sheet ≡ row_lines sheet
rows_are [] = refl
rows_are (x ∷ []) = refl
rows_are (x ∷ y ∷ []) = refl
rows_are (x ∷ y ∷ z ∷ []) = refl
rows_are (x ∷ y ∷ z ∷ t ∷ []) = refl
rows_are (x ∷ y ∷ z ∷ t ∷ u ∷ []) = refl
rows_are (x ∷ y ∷ z ∷ t ∷ u ∷ v ∷ []) = refl
rows_are (x ∷ y ∷ z ∷ t ∷ u ∷ v ∷ r ∷ []) = refl
rows_are (x ∷ y ∷ z ∷ t ∷ u ∷ v ∷ r ∷ s ∷ more) = refl

-- An axis that the list lacks; the courses of all eight lack none.
abbrev origin : Course
origin = record { position = pos 0; target = pos 0 }

pub axes_are : (courses : List Course) → length courses ≡ 8 → lines_of course_line in_order courses ≡ axis_lines (map (λ c. c.position) courses) (map (λ c. c.target) courses)
axes_are courses full =
    at_places origin (lines_of course_line in_order) courses 8 full
    ∙ sym (at_places origin (λ cs. axis_lines (map (λ c. c.position) cs) (map (λ c. c.target) cs)) courses 8 full)
