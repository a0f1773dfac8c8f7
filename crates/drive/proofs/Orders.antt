-- Orders of whole numbers. Assumes nothing.
use Rattle.std.proofs.Common.{◌≡◌, true, ℤ, arith}
use lib.Signed.{le_z}
use borrow.Author.Differences.{ints}
use Rattle.std.proofs.lemmas.Bool.{and_parts, and_from}
use Rattle.drive.specs.Range.{Within, within, same}

pub within_true : (low high z : ℤ) → within low high z ≡ true → Within low high z
within_true low high z e = let p = and_parts (le_z low z) (le_z z high) e in (omega (arith, ints, p.0), omega (arith, ints, p.1))

pub true_within : (low high z : ℤ) → Within low high z → within low high z ≡ true
true_within low high z h = and_from (le_z low z) (le_z z high) (grind (arith, ints)) (grind (arith, ints))

pub same_true : (a b : ℤ) → same a b ≡ true → a ≡ b
same_true a b e = let p = within_true a a b e in omega (arith, ints)
