-- How many texts a block has, and of which kind.
use Rattle.std.specs.Prelude.{ℕ, ◌+◌, ◌≤◌, Bool, cond, List, ◌++◌, codes, decimal}
use Rattle.reports.specs.declared.tally.Tally.{Tally}

-- the type under a name that other crates can use
abbrev pub TextTally : Type 0
TextTally = Tally

abbrev pub none : Tally
none = record { texts = 0; known = 0; refused = 0; unfinished = 0 }

-- one text more, known or refused
abbrev pub counted : Tally → Bool → Bool → Tally
counted t known finished =
    record { texts = t.texts + 1; known = t.known + cond known 1 0; refused = t.refused + cond known 0 1; unfinished = t.unfinished + cond finished 0 1 }

-- no count is past n
abbrev pub Within : Tally → ℕ → Type 0
Within t n = (t.texts ≤ n) × (t.known ≤ n) × (t.refused ≤ n) × (t.unfinished ≤ n)

-- the counts, and the line that tells them
abbrev pub counts : Tally → List ℕ
counts t =
    codes "texts " ++ (decimal t.texts ++ (codes ", known " ++ (decimal t.known ++ (codes ", refused " ++ (decimal t.refused ++ (codes ", unfinished " ++ decimal t.unfinished))))))

abbrev pub summary : Tally → List ℕ
summary t = counts t ++ codes "\n"
