-- The line of a text.
use Rattle.std.specs.Prelude.{ℕ, ◌/◌, ◌%◌, Bool, true, false, cond, ◌&&◌, List, [], ◌∷◌, ◌++◌, codes, decimal, nat_le}
use Rattle.std.specs.Fmt.{digit_glyph}
use Rattle.std.specs.List.{flat_map}

-- printable ASCII
abbrev pub printable : ℕ → Bool
printable b = nat_le 32 b && nat_le b 126

-- printable ASCII as it is, any other byte as `\xHH` in upper-case hexadecimal digits
abbrev pub shown_byte : ℕ → List ℕ
shown_byte b = cond (printable b) (b ∷ []) (92 ∷ 120 ∷ digit_glyph true (b / 16) ∷ digit_glyph true (b % 16) ∷ [])

abbrev pub shown : List ℕ → List ℕ
shown text = flat_map shown_byte text

abbrev pub mark : Bool → List ℕ
mark true = []
mark false = codes " unfinished"

-- before the text stands its offset, and after it what is told of it and whether it is finished
abbrev pub head : ℕ → List ℕ
head offset = decimal offset ++ codes " "

abbrev pub tail : List ℕ → Bool → List ℕ
tail words finished = codes " " ++ (words ++ (mark finished ++ codes "\n"))

-- the line of a text, of which these words are told
abbrev pub line : List ℕ → List ℕ → ℕ → Bool → List ℕ
line words text offset finished = head offset ++ (shown text ++ tail words finished)
