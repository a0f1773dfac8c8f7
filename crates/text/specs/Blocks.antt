-- How a received block is parted into texts. Assumes nothing.
use Rattle.std.specs.Prelude.{◌≡◌, ℕ, zero, suc, ◌+◌, ◌<◌, ◌≤◌, Bool, true, false, cond, ◌||◌, List, [], ◌∷◌, length, take, drop, ◌==◌, slice_index, slice_range}
use Rattle.std.specs.Bool.{beq}
use Rattle.std.specs.List.{AllByRecursion, prefix_len}
use Rattle.text.specs.declared.block.Piece.{Piece}
use Rattle.text.specs.declared.block.Piece.TheVariants.{Command, Unfinished, End}

-- space, CR, LF and semicolon
abbrev pub separates : ℕ → Bool
separates b = b == 32 || b == 13 || b == 10 || b == 59

-- what the reader came to: a text and its offset, or the end
pub data Cut : Type 0 where
  command : List ℕ → ℕ → Cut
  unfinished : List ℕ → ℕ → Cut
  end : Cut

abbrev pub seen : Piece → Cut
seen (Command p) = command p.bytes.now p.offset
seen (Unfinished p) = unfinished p.bytes.now p.offset
seen End = end

-- how many bytes at the front are separators, or are none
abbrev pub run : Bool → List ℕ → ℕ
run separators bs = prefix_len (λ b. beq (separates b) separators) bs

-- from an offset on, where the next text begins, and how long it is
abbrev pub start : List ℕ → ℕ → ℕ
start block at = at + run true (drop at block)

abbrev pub span : List ℕ → ℕ → ℕ
span block at = run false (drop (start block at) block)

-- a text of n bytes at offset s; with none there, the end
abbrev pub cut : List ℕ → ℕ → ℕ → Cut
cut block s n =
    cond (n == 0) end (cond (s + n == length block) (unfinished (take n (drop s block)) s) (command (take n (drop s block)) s))

-- what is next from an offset on
abbrev pub cut_at : List ℕ → ℕ → Cut
cut_at block at = cut block (start block at) (span block at)

-- the offset after it, in a block of a given length: one separator after a text is passed with it
abbrev pub after : ℕ → Cut → ℕ
after long (command w at) = at + length w + 1
after long (unfinished w at) = long
after long end = long

-- a text in front of those after it; after the end there is none
abbrev pub onto : Cut → List Cut → List Cut
onto (command w at) cs = command w at ∷ cs
onto (unfinished w at) cs = unfinished w at ∷ cs
onto end cs = []

-- what asking n times from an offset on gives
unfoldable pub asked : ℕ → List ℕ → ℕ → List Cut
asked zero block at = []
asked (suc n) block at = onto (cut_at block at) (asked n block (after (length block) (cut_at block at)))

-- the texts of a block from an offset on: there are not more than bytes
abbrev pub pieces : List ℕ → ℕ → List Cut
pieces block at = asked (length block) block at

-- with each text the reader moves on, and the end is at the end
abbrev pub Onward : Cut → ℕ → ℕ → ℕ → Type 0
Onward (command w at) from to long = (from < to) × (to ≤ long)
Onward (unfinished w at) from to long = (from < to) × (to ≤ long)
Onward end from to long = to ≡ long

-- only separators; a text: some bytes, and no separator
abbrev pub Gap : List ℕ → Type 0
Gap bs = AllByRecursion (λ b. separates b ≡ true) bs

abbrev pub Text : List ℕ → Type 0
Text bs = (0 < length bs) × AllByRecursion (λ b. separates b ≡ false) bs

-- What a block has next from an offset on: only separators, then a text that stands at its offset, and after it a separator,
-- or, after an unfinished one, nothing.
abbrev pub Found : List ℕ → ℕ → Cut → Type 0
Found block from (command w at) =
    (from ≤ at) × Gap (slice_range block from at) × Text w × (take (length w) (drop at block) ≡ w) × (separates (slice_index block (at + length w)) ≡ true)
Found block from (unfinished w at) = (from ≤ at) × Gap (slice_range block from at) × Text w × (drop at block ≡ w)
Found block from end = Gap (drop from block)

-- A block from an offset on is its texts in their order, with only separators before, between and after them.
abbrev pub Parted : List ℕ → ℕ → List Cut → Type 0
Parted block from [] = Found block from end
Parted block from (command w at ∷ cs) = Found block from (command w at) × Parted block (at + length w + 1) cs
Parted block from (unfinished w at ∷ cs) = Found block from (unfinished w at) × (cs ≡ [])
Parted block from (end ∷ cs) = ⊥
