-- The first word of a text, by where its first space stands. Assumes nothing.
use Rattle.std.proofs.Common.{◌≡◌, ℕ, zero, suc, ◌+◌, ◌<◌, ◌≤◌, Bool, true, false, cond, eqb, List, [], ◌∷◌, length, get_or, take, drop, Some, None, sym, refl, ap, ⊎_elim, add-one, arith}
use Rattle.std.specs.Bool.{nat_lt}
use Rattle.std.specs.List.{position, position_or_len}
use Rattle.std.proofs.lemmas.Bool.{cases_Bool}
use Rattle.std.proofs.lemmas.Bool.Decides.{nat_tests}
use Rattle.std.proofs.lemmas.List.Quantifiers.{position-Some}
use Rattle.script.specs.Words.{parted}

abbrev pub space : ℕ → Bool
space b = eqb b 32

cut : (text : List ℕ) (i : ℕ) → i < length text → space (get_or text i 0) ≡ true → ((k : ℕ) → k < i → space (get_or text k 0) ≡ false) → (take i text, Some (drop (suc i) text)) ≡ parted text
cut [] i h here before = absurd (omega arith)
cut (b ∷ bs) zero h here before = rw here refl
cut (b ∷ bs) (suc i) h here before =
    let e : eqb b 32 ≡ false = before 0 (omega arith) in
    rw e (ap (λ q. (b ∷ q.0, q.1)) (cut bs i (omega arith) here (λ k l. before (suc k) (omega arith))))

pub parted_at : (text : List ℕ) (i : ℕ) → Some i ≡ position space text → (take i text, Some (drop (i + 1) text)) ≡ parted text
parted_at text i e = let p = position-Some space text i 0 (sym e) in rw add-one (cut text i p.0 p.1 p.2)

uncut : (text : List ℕ) → length text ≤ position_or_len space text → (text, None) ≡ parted text
uncut [] h = refl
uncut (b ∷ bs) h =
    ⊎_elim
    (λ (t : eqb b 32 ≡ true). absurd (omega (arith, rw t at h)))
    (λ (f : eqb b 32 ≡ false). rw f (ap (λ q. (b ∷ q.0, q.1)) (uncut bs (omega (arith, rw f at h)))))
    (cases_Bool (eqb b 32))

none_within : (a b : ℕ) → None ≡ cond (nat_lt a b) (Some a) None → b ≤ a
none_within a b e = grind (arith, nat_tests)

pub parted_whole : (text : List ℕ) → None ≡ position space text → (text, None) ≡ parted text
parted_whole text e = uncut text (none_within (position_or_len space text) (length text) e)
