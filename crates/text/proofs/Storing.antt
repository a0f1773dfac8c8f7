-- Bytes stored into a block one after the other. Assumes nothing.
use Rattle.std.proofs.Common.{◌≡◌, ℕ, zero, suc, ◌+◌, ◌-◌, ◌/◌, ◌%◌, ◌^◌, ◌<◌, ◌≤◌, List, [], ◌∷◌, ◌++◌, length, take, drop, set, ℤ, pos, negsuc, nat_abs, sym, refl, ap, ◌∙◌, append-nil, add-zero, arith, length-drop, length-set}
use borrow.Rule.Slice.PartMut.{put_mid}
use Rattle.std.proofs.lemmas.Fmt.{decimal_step, length-decimal-le}
use Rattle.std.proofs.lemmas.List.{drop_all, take_rest, length_push}
use Rattle.text.specs.Writing.{digits, decimal, put, over}

-- some bytes, and then others after them
pub put-append : (at : ℕ) (ws bs block : List ℕ) → put at (ws ++ bs) block ≡ put (at + length ws) bs (put at ws block)
put-append at [] bs block = ap (λ k. put k bs block) (sym (add-zero at))
put-append at (w ∷ ws) bs block = put-append (suc at) ws bs (set block at w) ∙ ap (λ k. put k bs (put (suc at) ws (set block at w))) (omega arith)

-- one byte more
pub put-push : (at : ℕ) (bs : List ℕ) (b : ℕ) (block : List ℕ) → set (put at bs block) (at + length bs) b ≡ put at (bs ++ b ∷ []) block
put-push at bs b block = sym (put-append at bs (b ∷ []) block)

pub length-put : (at : ℕ) (bs block : List ℕ) → length (put at bs block) ≡ length block
length-put at [] block = refl
length-put at (b ∷ bs) block = length-put (suc at) bs (set block at b) ∙ length-set block at b

put-none : (at : ℕ) (bs : List ℕ) → put at bs [] ≡ []
put-none at [] = refl
put-none at (b ∷ bs) = put-none (suc at) bs

put-cons : (at : ℕ) (bs : List ℕ) (c : ℕ) (block : List ℕ) → put (suc at) bs (c ∷ block) ≡ c ∷ put at bs block
put-cons at [] c block = refl
put-cons at (b ∷ bs) c block = put-cons (suc at) bs c (set block at b)

-- what stands before the offset stays
pub put-tail : (at : ℕ) (bs block : List ℕ) → put at bs block ≡ take at block ++ over bs (drop at block)
put-tail zero bs block = refl
put-tail (suc at) bs [] = put-none (suc at) bs ∙ sym (put-none 0 bs)
put-tail (suc at) bs (c ∷ block) = put-cons at bs c block ∙ ap (λ l. c ∷ l) (put-tail at bs block)

-- bytes that fit take the place of as many
pub over_fits : (bs block : List ℕ) → length bs ≤ length block → over bs block ≡ bs ++ drop (length bs) block
over_fits [] block h = refl
over_fits (b ∷ bs) [] h = absurd (omega arith)
over_fits (b ∷ bs) (c ∷ block) h = put-cons 0 bs b block ∙ ap (λ l. b ∷ l) (over_fits bs block (omega arith))

-- the tail of a block is lent, and bytes are stored at the tail's front
pub put_lent : (at : ℕ) (bs block tail : List ℕ) → at ≤ length block → tail ≡ over bs (take (length block - at) (drop at block)) → put_mid at (length block - at) block tail ≡ put at bs block
put_lent at bs block tail h e =
    let none : drop (length block - at) (drop at block) ≡ [] = drop_all (length block - at) (drop at block) (omega (arith, length-drop at block)) in
    ap (λ l. take at block ++ (tail ++ l)) none ∙ ap (λ l. take at block ++ l) (append-nil tail ∙ e ∙ ap (over bs) (take_rest block at)) ∙ sym (put-tail at bs block)

pub length-number : (z : ℤ) → nat_abs z < 10 ^ 10 → length (decimal z) ≤ 11
length-number (pos n) h = omega (arith, length-decimal-le 10 n (omega arith) h (omega arith))
length-number (negsuc n) h = omega (arith, length-decimal-le 10 (suc n) (omega arith) h (omega arith))

-- one digit more of a number
pub put_digit : (at n end : ℕ) (out block : List ℕ) → 10 ≤ n → n < 2 ^ 64 → end ≡ at + length (digits (n / 10)) → out ≡ put at (digits (n / 10)) block → (end + 1 ≡ at + length (digits n)) × (set out end (48 + n % 10) ≡ put at (digits n) block)
put_digit at n end out block more fits there is =
    let front = digits (n / 10) in
    let last = 48 + n % 10 in
    let all = decimal_step n more fits in
    (omega (arith, ap length all, length_push front last), (λ i. set (is i) (there i) last) ∙ put-push at front last block ∙ ap (λ ds. put at ds block) (sym all))
