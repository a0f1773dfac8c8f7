-- The laws of a word's bits. Assumes nothing.
use Rattle.std.proofs.Common.{◌≡◌, ℕ, zero, suc, ◌+◌, ◌-◌, ◌*◌, ◌/◌, ◌%◌, ◌^◌, ◌<◌, ◌≤◌, Bool, true, false, cond, not, ◌&&◌, ◌||◌, eqb, sym, refl, ap, ◌∙◌, ap₂, suc-le-suc, le_of_suc-le-suc, one-mul, pow-suc, zero-mul, one-add, arith, pow_pos, shr-shr}
use native.Mathlib.Nat.{div-eq_of_lt}
use lib.Bits.{bit_and, bit_or, bit_xor, and_high, and_shr, and_mod, or_shr, or_mod, xor_shr, xor_mod}
use lib.Dec.{eqb-zero-suc, eqb-suc-zero, eqb-suc-suc}
use Rattle.std.proofs.lemmas.Bool.Decides.{nat_tests}
use Rattle.contacts.specs.Words.{bit, written}

-- A bit as a digit, 1 or 0.

share : (d p : ℕ) → d < 2 → 0 < p → not (eqb (d * p) 0) ≡ eqb d 1
share zero p h k = rw (zero-mul p)
share (suc zero) p h k = rw (one-mul p) (grind (arith, nat_tests))
share (suc (suc d)) p h k = absurd (omega arith)

pub bit_is : (w b : ℕ) → bit w b ≡ eqb (w / 2 ^ b % 2) 1
bit_is w b =
    let alone : 2 ^ (1 + b) - 2 ^ b ≡ 2 ^ b = rw (one-add b, pow-suc 2 b) (omega arith) in
    ap (λ n. not (eqb n 0)) (ap (bit_and w) (sym alone) ∙ and_high w 1 b) ∙ share (w / 2 ^ b % 2) (2 ^ b) (omega arith) (pow_pos b)

digit : (w b : ℕ) → w / 2 ^ b % 2 ≡ cond (bit w b) 1 0
digit w b = rw (bit_is w b) (grind (arith, nat_tests))

of_digit : (l : Bool) → eqb (cond l 1 0) 1 ≡ l
of_digit true = refl
of_digit false = refl

-- The lowest bit, and those above it.

pub bit_half : (w b : ℕ) → bit w (suc b) ≡ bit (w / 2) b
bit_half w b =
    bit_is w (suc b) ∙ ap (λ n. eqb (n % 2) 1) (sym (shr-shr w 1 b ∙ ap (λ k. w / 2 ^ k) (one-add b))) ∙ sym (bit_is (w / 2) b)

pub lowest : (x d : ℕ) → d < 2 → bit (x * 2 + d) 0 ≡ eqb d 1
lowest x d h = bit_is (x * 2 + d) 0 ∙ ap (λ n. eqb n 1) (omega arith)

pub above : (x d b : ℕ) → d < 2 → bit (x * 2 + d) (suc b) ≡ bit x b
above x d b h = bit_half (x * 2 + d) b ∙ ap (λ n. bit n b) (omega arith)

-- A word has no bit past its width, and its bits are all of it.

pub bit_past : (n w : ℕ) → w < 2 ^ n → bit w n ≡ false
bit_past n w h = bit_is w n ∙ ap (λ x. eqb (x % 2) 1) (div-eq_of_lt h)

pub half_below : (n w : ℕ) → w < 2 ^ suc n → w / 2 < 2 ^ n
half_below n w h = omega (arith, pow-suc 2 n)

pub same_below : (n v w : ℕ) → v < 2 ^ n → w < 2 ^ n → ((b : ℕ) → b < n → bit v b ≡ bit w b) → v ≡ w
same_below zero v w hv hw e = omega arith
same_below (suc n) v w hv hw e =
    let bits : (b : ℕ) → b < n → bit (v / 2) b ≡ bit (w / 2) b = λ b h. sym (bit_half v b) ∙ e (suc b) (suc-le-suc h) ∙ bit_half w b in
    let halves : v / 2 ≡ w / 2 = same_below n (v / 2) (w / 2) (half_below n v hv) (half_below n w hw) bits in
    let odds : v / 1 % 2 ≡ w / 1 % 2 = digit v 0 ∙ ap (λ o. cond o 1 0) (e 0 (omega arith)) ∙ sym (digit w 0) in
    omega arith

-- An operation on each digit is one on each bit.

module _ (op : ℕ → ℕ → ℕ) (f : Bool → Bool → Bool)
    (shr : (v w k : ℕ) → op v w / 2 ^ k ≡ op (v / 2 ^ k) (w / 2 ^ k))
    (rest : (v w k : ℕ) → op v w % 2 ^ k ≡ op (v % 2 ^ k) (w % 2 ^ k))
    (digits : (l m : Bool) → op (cond l 1 0) (cond m 1 0) ≡ cond (f l m) 1 0) where
  bit_op : (v w b : ℕ) → bit (op v w) b ≡ f (bit v b) (bit w b)
  bit_op v w b =
      bit_is (op v w) b ∙ ap (λ n. eqb (n % 2) 1) (shr v w b)
      ∙ ap (λ n. eqb n 1) (rest (v / 2 ^ b) (w / 2 ^ b) 1 ∙ ap₂ op (digit v b) (digit w b) ∙ digits (bit v b) (bit w b))
      ∙ of_digit (f (bit v b) (bit w b))

pub bit-and : (v w b : ℕ) → bit (bit_and v w) b ≡ (bit v b && bit w b)
bit-and = bit_op bit_and ◌&&◌ and_shr and_mod (λ l m. grind arith)

pub bit-or : (v w b : ℕ) → bit (bit_or v w) b ≡ (bit v b || bit w b)
bit-or = bit_op bit_or ◌||◌ or_shr or_mod (λ l m. grind arith)

pub bit-xor : (v w b : ℕ) → bit (bit_xor v w) b ≡ cond (bit v b) (not (bit w b)) (bit w b)
bit-xor = bit_op bit_xor (λ l m. cond l (not m) m) xor_shr xor_mod (λ l m. grind arith)

-- A word with a bit made, by its half and its lowest digit. A bit that is 1 is part of the word.

part : (w b : ℕ) → bit w b ≡ true → 2 ^ b ≤ w
part w zero e = omega (arith, digit w 0 ∙ ap (λ o. cond o 1 0) e)
part w (suc b) e = omega (arith, part (w / 2) b (sym (bit_half w b) ∙ e), pow-suc 2 b)

written_high : (w b : ℕ) (l : Bool) → written w (suc b) l ≡ written (w / 2) b l * 2 + w % 2
unfolding written
written_high w b true = grind (arith, bit_half w b, pow-suc 2 b)
written_high w b false = grind (arith, bit_half w b, pow-suc 2 b, part (w / 2) b)

written_low : (w : ℕ) (l : Bool) → written w 0 l ≡ w / 2 * 2 + cond l 1 0
unfolding written
written_low w true = grind (arith, digit w 0)
written_low w false = grind (arith, digit w 0)

digit_lt : (l : Bool) → cond l 1 0 < 2
digit_lt l = grind arith

-- Bit b has its new level, and each other bit the one that it had.

pub bit_written : (w b j : ℕ) (l : Bool) → bit (written w b l) j ≡ cond (eqb j b) l (bit w j)
bit_written w zero zero l = rw (written_low w l, lowest (w / 2) (cond l 1 0) (digit_lt l)) (of_digit l)
bit_written w zero (suc j) l = rw (written_low w l, above (w / 2) (cond l 1 0) j (digit_lt l), eqb-suc-zero j, bit_half w j)
bit_written w (suc b) zero l =
    rw (written_high w b l, lowest (written (w / 2) b l) (w % 2) (omega arith), eqb-zero-suc b, bit_is w 0) (ap (λ n. eqb n 1) (omega arith))
bit_written w (suc b) (suc j) l =
    rw (written_high w b l, above (written (w / 2) b l) (w % 2) j (omega arith), eqb-suc-suc j b, bit_half w j) (bit_written (w / 2) b j l)

-- The word keeps its width.

pub written_below : (n w b : ℕ) (l : Bool) → w < 2 ^ n → b < n → written w b l < 2 ^ n
written_below zero w b l hw hb = absurd (omega arith)
written_below (suc n) w zero l hw hb = rw (written_low w l) (omega (arith, digit_lt l, pow-suc 2 n))
written_below (suc n) w (suc b) l hw hb =
    let half : written (w / 2) b l < 2 ^ n = written_below n (w / 2) b l (half_below n w hw) (le_of_suc-le-suc hb) in
    rw (written_high w b l) (omega (arith, half, pow-suc 2 n))
