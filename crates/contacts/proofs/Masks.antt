-- What masks do to a word's bits. Assumes nothing.
use Rattle.std.proofs.Common.{◌≡◌, ℕ, zero, suc, ◌+◌, ◌-◌, ◌*◌, ◌/◌, ◌%◌, ◌^◌, ◌<◌, ◌≤◌, true, false, not, ◌||◌, eqb, sym, ap, ◌∙◌, ⊎_elim, le_of_suc-le-suc, lt_of_le_of_lt, pow-suc, zero-add, arith, pow_pos}
use lib.Bits.{bit_and, bit_or, bit_xor, and_le_l, or_lt, xor_lt}
use lib.Pow.{pow-lt}
use Rattle.std.proofs.lemmas.Nat.{le-div, div_below}
use Rattle.std.proofs.lemmas.Bool.{cases_lt}
use Rattle.std.proofs.lemmas.Bool.Decides.{nat_tests}
use Rattle.contacts.specs.declared.kill.KillInputs.{KillInputs}
use Rattle.contacts.specs.Words.{bit, written}
use Rattle.contacts.specs.Kills.{level_of, stands, hit_below}
use Rattle.contacts.proofs.WordLaws.{bit_is, bit_half, lowest, above, bit_past, half_below, same_below, bit-and, bit-or, bit-xor, bit_written, written_below}

-- The word of one bit, and the word with every bit turned.

bit_mask : (b j : ℕ) → bit (2 ^ b) j ≡ eqb j b
unfolding written
bit_mask b j =
    let alone : written 0 b true ≡ 2 ^ b = zero-add (2 ^ b) in
    ap (λ n. bit n j) (sym alone) ∙ bit_written 0 b j true ∙ grind arith

halved : (n x : ℕ) → x < 2 ^ suc n → 2 ^ suc n - 1 - x ≡ (2 ^ n - 1 - x / 2) * 2 + (1 - x % 2)
halved n x h = omega (arith, pow-suc 2 n)

bit_not : (n x b : ℕ) → x < 2 ^ n → b < n → bit (2 ^ n - 1 - x) b ≡ not (bit x b)
bit_not zero x b hx hb = absurd (omega arith)
bit_not (suc n) x zero hx hb =
    rw (halved n x hx, lowest (2 ^ n - 1 - x / 2) (1 - x % 2) (omega arith)) (grind (arith, nat_tests, bit_is x 0))
bit_not (suc n) x (suc b) hx hb =
    rw (halved n x hx, above (2 ^ n - 1 - x / 2) (1 - x % 2) b (omega arith), bit_half x b)
    (bit_not n (x / 2) b (half_below n x hx) (le_of_suc-le-suc hb))

-- A bit is made 1 by its mask, and 0 by the mask of all others.

pub made_by_or : (n w b : ℕ) → w < 2 ^ n → b < n → bit_or w (2 ^ b) ≡ written w b true
made_by_or n w b hw hb =
    same_below n (bit_or w (2 ^ b)) (written w b true) (or_lt n w (2 ^ b) hw (pow-lt hb)) (written_below n w b true hw hb)
    (λ j _. grind (arith, bit-or w (2 ^ b) j, bit_mask b j, bit_written w b j true))

pub cleared_by_and : (n w b : ℕ) → w < 2 ^ n → b < n → bit_and w (2 ^ n - 1 - 2 ^ b) ≡ written w b false
cleared_by_and n w b hw hb =
    let others : ℕ = 2 ^ n - 1 - 2 ^ b in
    same_below n (bit_and w others) (written w b false) (lt_of_le_of_lt (and_le_l w others) hw) (written_below n w b false hw hb)
    (λ j hj. grind (arith, bit-and w others j, bit_not n (2 ^ b) j (pow-lt hb) hj, bit_mask b j, bit_written w b j false))

-- A word whose bits are the contacts at their kill level is 0 exactly where there are none.

top : (n x : ℕ) → 2 ^ n ≤ x → x < 2 ^ suc n → bit x n ≡ true
top n x h hx =
    let at_least : 1 ≤ x / 2 ^ n = le-div 1 x (2 ^ n) (pow_pos n) (omega arith) in
    let below : x / 2 ^ n < 2 = div_below x (2 ^ n) 2 (pow_pos n) (omega (arith, pow-suc 2 n)) in
    let one : x / 2 ^ n ≡ 1 = omega arith in
    bit_is x n ∙ ap (λ q. eqb (q % 2) 1) one

some_bit : (k : KillInputs) (w n x : ℕ) → x < 2 ^ n
    → ((b : ℕ) → b < n → bit x b ≡ stands (level_of k b) (bit w b)) → not (eqb x 0) ≡ hit_below k w n
unfolding hit_below
some_bit k w zero x hx e = grind (arith, nat_tests)
some_bit k w (suc n) x hx e =
    let lower : x < 2 ^ n → not (eqb x 0) ≡ (bit x n || hit_below k w n) = λ h. rw (bit_past n x h) (some_bit k w n x h (λ b hb. e b (omega arith))) in
    let upper : 2 ^ n ≤ x → not (eqb x 0) ≡ (bit x n || hit_below k w n) = λ h. rw (top n x h hx) (grind (arith, nat_tests, pow_pos n)) in
    rw (← e n (omega arith)) (⊎_elim lower upper (cases_lt x (2 ^ n)))

pub hit_by_mask : (n : ℕ) (k : KillInputs) (w : ℕ) → k.contacts < 2 ^ n → k.levels < 2 ^ n → w < 2 ^ n
    → not (eqb (bit_and k.contacts (2 ^ n - 1 - bit_xor w k.levels)) 0) ≡ hit_below k w n
hit_by_mask n k w hc hl hw =
    let agree : ℕ = 2 ^ n - 1 - bit_xor w k.levels in
    some_bit k w n (bit_and k.contacts agree) (lt_of_le_of_lt (and_le_l k.contacts agree) hc)
    (λ b hb. grind (arith, bit-and k.contacts agree b, bit_not n (bit_xor w k.levels) b (xor_lt n w k.levels hw hl) hb, bit-xor w k.levels b))
