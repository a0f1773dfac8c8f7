-- Hexadecimal digits, read one after another, and as the library writes them. Assumes nothing.
use Rattle.std.proofs.Common.{◌≡◌, ℕ, zero, suc, ◌+◌, ◌-◌, ◌*◌, ◌/◌, ◌%◌, ◌^◌, ◌<◌, ◌≤◌, Bool, true, false, ◌&&◌, eqb, List, [], ◌∷◌, ◌++◌, length, get_or, Some, None, Option, sym, refl, ap, ◌∙◌, ⊎_elim, arith}
use Rattle.std.proofs.lemmas.Bool.{cases_lt, cond-true, cond-false, eq-eqb, ne_eqb}
use Rattle.std.proofs.lemmas.Bool.Decides.{Decides-eqb, Decides-below_and}
use Rattle.std.specs.Fmt.{digits as hexadecimal, digits_onto, digit_glyph, padded_integral, char_count, format_spec}
use Rattle.listing.specs.Hex.{digit, following, digits, figure, written}
use Rattle.listing.proofs.Places.{at_places}

-- ---- reading

pub word_small : (many : ℕ) → many ≤ 4 → 16 ^ many ≤ 65536
word_small zero h = omega arith
word_small (suc zero) h = omega arith
word_small (suc (suc zero)) h = omega arith
word_small (suc (suc (suc zero))) h = omega arith
word_small (suc (suc (suc (suc zero)))) h = omega arith
word_small (suc (suc (suc (suc (suc n))))) h = absurd (omega arith)

abbrev pub going_on : Option ℕ → List ℕ → Option ℕ
going_on None bs = None
going_on (Some n) bs = following n bs

following_more : (n : ℕ) (bs more : List ℕ) → going_on (following n bs) more ≡ following n (bs ++ more)
following_more n [] more = refl
following_more n (b ∷ bs) more =
    elim (digit b) as (λ o. going_on (elim o [ None ↦ None | Some d ↦ following (n * 16 + d) bs ]) more ≡ elim o [ None ↦ None | Some d ↦ following (n * 16 + d) (bs ++ more) ]) [ None ↦ refl | Some d ↦ following_more (n * 16 + d) bs more ]

-- Four digits: two after two.
pub in_two : (text : List ℕ) (o : Option ℕ) → length text ≡ 4 → o ≡ following 0 (get_or text 0 0 ∷ get_or text 1 0 ∷ []) → going_on o (get_or text 2 0 ∷ get_or text 3 0 ∷ []) ≡ digits 4 text
in_two text o long e =
    let low = get_or text 2 0 ∷ get_or text 3 0 ∷ [] in
    ap (λ h. going_on h low) e ∙ following_more 0 (get_or text 0 0 ∷ get_or text 1 0 ∷ []) low ∙ sym (at_places 0 (digits 4) text 4 long)

-- ---- writing

abbrev same : ℕ → Bool
same zero = true
same (suc d) = eqb (digit_glyph true d) (figure d) && same d

glyph_is : (d : ℕ) → d < 16 → digit_glyph true d ≡ figure d
glyph_is d h =
    (Decides-below_and _ (λ k. digit_glyph true k ≡ figure k) same (λ k. Decides-eqb (digit_glyph true k) (figure k)) refl (λ _. refl) 16).0 refl d h

spelled : (n a b c d : ℕ) → a < 16 → b < 16 → c < 16 → d < 16 → n ≡ ((a * 16 + b) * 16 + c) * 16 + d → digit_glyph true a ∷ digit_glyph true b ∷ digit_glyph true c ∷ digit_glyph true d ∷ [] ≡ written n
spelled n a b c d ha hb hc hd e =
    let first : a ≡ n / 4096 = omega arith in
    let second : b ≡ n / 256 % 16 = omega arith in
    let third : c ≡ n / 16 % 16 = omega arith in
    let last : d ≡ n % 16 = omega arith in
    λ i. (glyph_is a ha ∙ ap figure first) i ∷ (glyph_is b hb ∙ ap figure second) i ∷ (glyph_is c hc ∙ ap figure third) i ∷ (glyph_is d hd ∙ ap figure last) i ∷ []

-- one digit more, and the last
more : (k n : ℕ) (acc : List ℕ) → (n / 16 ≡ 0 → ⊥) → digits_onto (suc k) 16 true n acc ≡ digits_onto k 16 true (n / 16) (digit_glyph true (n % 16) ∷ acc)
more k n acc h = cond-false _ _ _ (ne_eqb (n / 16) 0 h)

last : (k n : ℕ) (acc : List ℕ) → n / 16 ≡ 0 → digits_onto (suc k) 16 true n acc ≡ digit_glyph true (n % 16) ∷ acc
last k n acc h = cond-true _ _ _ (eq-eqb (n / 16) 0 h)

module _ (n : ℕ) where
  -- the number without its last digit, its last two, and its last three
  abbrev one : ℕ
  one = n / 16

  abbrev two : ℕ
  two = n / 16 / 16

  abbrev three : ℕ
  three = n / 16 / 16 / 16

  -- what is written of a word with no zeros before it: one digit to four
  one_digit : n < 16 → hexadecimal 16 true n ≡ digit_glyph true (n % 16) ∷ []
  unfolding hexadecimal
  one_digit h = last 63 n [] (omega arith)

  two_digits : 16 ≤ n → n < 256 → hexadecimal 16 true n ≡ digit_glyph true (one % 16) ∷ digit_glyph true (n % 16) ∷ []
  unfolding hexadecimal
  two_digits g h = more 63 n [] (omega arith) ∙ last 62 one _ (omega arith)

  three_digits : 256 ≤ n → n < 4096 → hexadecimal 16 true n ≡ digit_glyph true (two % 16) ∷ digit_glyph true (one % 16) ∷ digit_glyph true (n % 16) ∷ []
  unfolding hexadecimal
  three_digits g h = more 63 n [] (omega arith) ∙ more 62 one _ (omega arith) ∙ last 61 two _ (omega arith)

  four_digits : 4096 ≤ n → n < 65536 → hexadecimal 16 true n ≡ digit_glyph true (three % 16) ∷ digit_glyph true (two % 16) ∷ digit_glyph true (one % 16) ∷ digit_glyph true (n % 16) ∷ []
  unfolding hexadecimal
  four_digits g h =
      more 63 n [] (omega arith) ∙ more 62 one _ (omega arith) ∙ more 61 two _ (omega arith) ∙ last 60 three _ (omega arith)

  -- what `{:04X}` writes of a word
  pub hex_word : n < 65536 → padded_integral (format_spec 32 0 4 4 (2 ^ 64 - 1)) false [] (hexadecimal 16 true n) ≡ written n
  unfolding padded_integral char_count
  hex_word h =
      ⊎_elim
      (λ a. rw (one_digit a) (spelled n 0 0 0 (n % 16) (omega arith) (omega arith) (omega arith) (omega arith) (omega arith)))
      (λ a.
      ⊎_elim
      (λ b. rw (two_digits a b) (spelled n 0 0 (one % 16) (n % 16) (omega arith) (omega arith) (omega arith) (omega arith) (omega arith)))
      (λ b.
      ⊎_elim
      (λ c. rw (three_digits b c) (spelled n 0 (two % 16) (one % 16) (n % 16) (omega arith) (omega arith) (omega arith) (omega arith) (omega arith)))
      (λ c. rw (four_digits c h) (spelled n (three % 16) (two % 16) (one % 16) (n % 16) (omega arith) (omega arith) (omega arith) (omega arith) (omega arith)))
      (cases_lt n 4096))
      (cases_lt n 256))
      (cases_lt n 16)
