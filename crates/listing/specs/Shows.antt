-- What is printed of a live controller.
use Rattle.std.specs.Prelude.{ℕ, List, [], ◌∷◌, ◌++◌, ℤ, pos, codes, slice_index_or}
use Rattle.std.specs.List.{flat_map}
use Rattle.text.specs.Writing.{decimal}
use Rattle.drive.specs.declared.axis.Axis.{Axis}
use Rattle.drive.specs.Axes.{in_order, index, letter}
use Rattle.listing.specs.declared.show.Course.{Course}
use Rattle.listing.specs.Hex.{written}
use Rattle.listing.specs.Printing.{line}

abbrev pub word_line : ℕ → List ℕ
word_line word = line (codes "word") (written word ∷ [])

module _ (positions targets : List ℤ) where
  abbrev pub axis_line : Axis → List ℕ
  axis_line a =
      line (letter a ∷ []) (decimal (slice_index_or positions (index a) (pos 0)) ∷ decimal (slice_index_or targets (index a) (pos 0)) ∷ [])

  abbrev pub axis_lines : List ℕ
  axis_lines = flat_map axis_line in_order

-- The output word, then each axis's position and target.
abbrev pub shown : ℕ → (positions targets : List ℤ) → List ℕ
shown word positions targets = word_line word ++ axis_lines positions targets

-- What is printed of one axis whose position and target are told together.
abbrev pub course_line : Axis → Course → List ℕ
course_line a c = line (letter a ∷ []) (decimal c.position ∷ decimal c.target ∷ [])
