-- A quotient, rounded to the nearest. Assumes nothing.
use Rattle.std.proofs.Common.{◌≡◌, ℕ, zero, suc, ◌+◌, ◌*◌, ◌/◌, ◌%◌, ◌^◌, ◌<◌, ◌≤◌, ℤ, pos, negsuc, ◌*ℤ◌, neg_ℤ, nat_abs, sym, refl, ap, ◌∙◌, mod-lt, add-mul, mul-le-mul, one-mul, div-add-mod', zero-mul, arith, w64, SFits, to_z, of_z}
use native.Mathlib.Nat.{pow-le-pow_right}
use lib.IntN.{pos-*ℤ-pos, pos-*ℤ-negsuc, negsuc-*ℤ-pos, negsuc-*ℤ-negsuc, zero-*ℤ}
use Rattle.std.proofs.lemmas.Int.{ints, to_z-of_z}
use Rattle.std.proofs.lemmas.Bool.{cond_both, leb-true, leb-false}
use Rattle.text.specs.Scaling.{rounds_up, rounded, nearest, Nearest}

nat_abs_neg : (n : ℕ) → nat_abs (neg_ℤ (pos n)) ≡ n
nat_abs_neg zero = refl
nat_abs_neg (suc n) = refl

nat_abs_mul : (a b : ℤ) → nat_abs (a *ℤ b) ≡ nat_abs a * nat_abs b
nat_abs_mul (pos m) (pos n) = ap nat_abs (pos-*ℤ-pos m n)
nat_abs_mul (pos m) (negsuc n) = ap nat_abs (pos-*ℤ-negsuc m n) ∙ nat_abs_neg (m * suc n)
nat_abs_mul (negsuc m) (pos n) = ap nat_abs (negsuc-*ℤ-pos m n) ∙ nat_abs_neg (suc m * n)
nat_abs_mul (negsuc m) (negsuc n) = ap nat_abs (negsuc-*ℤ-negsuc m n)

pub product_small : (a b : ℤ) → nat_abs a ≤ 2_147_483_646 → nat_abs b ≤ 2_147_483_646 → nat_abs (a *ℤ b) ≤ 2 ^ 62
product_small a b h g = omega (arith, nat_abs_mul a b, mul-le-mul h g)

pub small_fits : (z : ℤ) → nat_abs z ≤ 2 ^ 62 → SFits w64 z
small_fits (pos n) h = record { sfits = omega arith }
small_fits (negsuc n) h = record { sfits = omega arith }

-- the product of the numbers as the machine holds them
pub times : (a b : ℤ) → nat_abs a ≤ 2_147_483_646 → nat_abs b ≤ 2_147_483_646 → to_z w64 (of_z w64 (to_z w64 (of_z w64 a) *ℤ to_z w64 (of_z w64 b))) ≡ a *ℤ b
times a b h g =
    rw (to_z-of_z w64 a (small_fits a (omega arith)), to_z-of_z w64 b (small_fits b (omega arith))) (to_z-of_z w64 (a *ℤ b) (small_fits (a *ℤ b) (product_small a b h g)))

pub ten_fits : (i : ℕ) → i ≤ 18 → 10 ^ i ≤ 10 ^ 18
ten_fits i h = pow-le-pow_right {n = 10} (omega arith) {i = i} {j = 18} h

-- a count times d that lies at most half of d from n, and above it where it lies as far
module _ (n d : ℕ) (some : 0 < d) where
  abbrev Near : ℕ → Type 0
  Near r = (2 * n < 2 * (r * d) + d) × (2 * (r * d) ≤ 2 * n + d)

  near_size : Near (rounded n d)
  near_size =
      let parts = div-add-mod' n d in
      let less = mod-lt n {m = d} some in
      cond_both (rounds_up (n % d) d) (n / d + 1) (n / d) Near
      (λ up. let h = leb-true d (2 * (n % d)) up in let more = add-mul (n / d) 1 d in let one = one-mul d in (omega arith, omega arith))
      (λ stay. let h = leb-false d (2 * (n % d)) stay in (omega arith, omega arith))

neg_mul : (m d : ℕ) → neg_ℤ (pos m) *ℤ pos d ≡ neg_ℤ (pos (m * d))
neg_mul zero d = zero-*ℤ (pos d) ∙ ap (λ k. neg_ℤ (pos k)) (sym (zero-mul d))
neg_mul (suc m) d = negsuc-*ℤ-pos m d

pub near : (p : ℤ) (d : ℕ) → 0 < d → Nearest p d (nearest p d)
near (pos n) d some =
    let is = near_size n d some in
    record {
      close = rw (pos-*ℤ-pos (rounded n d) d) (omega (arith, ints, is.0, is.1));
      tie = rw (pos-*ℤ-pos (rounded n d) d) (λ e. omega (arith, ints, is.0, is.1));
    }
near (negsuc n) d some =
    let is = near_size (suc n) d some in
    record {
      close = rw (neg_mul (rounded (suc n) d) d) (omega (arith, ints, is.0, is.1));
      tie = rw (neg_mul (rounded (suc n) d) d) (λ e. omega (arith, ints, is.0, is.1));
    }
