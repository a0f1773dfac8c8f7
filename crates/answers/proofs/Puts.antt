-- Bytes stored past a block's end, and bytes copied one after the other. Assumes nothing.
use Rattle.std.proofs.Common.{◌≡◌, ℕ, suc, true, ◌+◌, ◌-◌, ◌<◌, ◌≤◌, min, eqb, List, [], ◌∷◌, ◌++◌, length, get_or, take, drop, set, sym, refl, ap, ◌∙◌, ⊎_elim, zero-add, arith}
use borrow.Rule.Slice.PartMut.{put_mid}
use Rattle.std.proofs.lemmas.List.{drop_all, take_all, take_more, take_min, length-take-le, append-nil}
use Rattle.std.proofs.lemmas.Bool.{cases_lt}
use Rattle.std.proofs.lemmas.Bool.Decides.{nat_tests}
use Rattle.text.specs.Writing.{put, over}
use Rattle.answers.specs.Records.{kept}
use Rattle.text.proofs.Storing.{put-push, put-tail, put_lent}

put-none : (at : ℕ) (bs : List ℕ) → put at bs [] ≡ []
put-none at [] = refl
put-none at (b ∷ bs) = put-none (suc at) bs

-- past the end nothing is stored
put_past : (at : ℕ) (bs block : List ℕ) → length block ≤ at → put at bs block ≡ block
put_past at bs block h =
    put-tail at bs block ∙ ap (λ l. take at block ++ over bs l) (drop_all at block h) ∙ ap (λ l. take at block ++ l) (put-none 0 bs) ∙ append-nil (take at block) ∙ take_all at block h

-- the tail from `at` on is lent, or an empty one where the block ends before
pub put_lent_min : (at from : ℕ) (bs block tail : List ℕ) → from ≡ min at (length block) → tail ≡ over bs (take (length block - from) (drop from block)) → put_mid from (length block - from) block tail ≡ put at bs block
put_lent_min at from bs block tail is e =
    put_lent from bs block tail (omega arith) e
    ∙ ⊎_elim
    (λ (h : at < length block). ap (λ k. put k bs block) (let s : from ≡ at = omega arith in s))
    (λ h. put_past from bs block (omega arith) ∙ sym (put_past at bs block h))
    (cases_lt at (length block))

-- one byte more of those that are copied
pub copy_more : (bs block b : List ℕ) (i : ℕ) → i < length bs → b ≡ over (take i bs) block → set b i (get_or bs i 0) ≡ over (take (i + 1) bs) block
copy_more bs block b i h e =
    let n : 0 + length (take i bs) ≡ i = zero-add (length (take i bs)) ∙ length-take-le i bs (omega arith) in
    ap (λ l. set l i (get_or bs i 0)) e
    ∙ ap (λ k. set (over (take i bs) block) k (get_or bs i 0)) (sym n)
    ∙ put-push 0 (take i bs) (get_or bs i 0) block
    ∙ ap (λ l. over l block) (sym (take_more bs i 0 h))

-- a record that held nothing keeps as much of the text as there is room for
pub kept_new : (held text : List ℕ) (n : ℕ) → eqb (length held) 0 ≡ true → n ≡ min (length text) 160 → held ++ take n text ≡ kept held text
kept_new [] text n none is = let m : n ≡ min 160 (length text) = omega arith in ap (λ k. take k text) m ∙ take_min 160 text
kept_new (b ∷ bs) text n none is = absurd (grind (arith, nat_tests))
