-- A line of numbers, written field by field. Assumes nothing.
use Rattle.std.proofs.Common.{◌≡◌, ℕ, zero, suc, ◌+◌, ◌<◌, ◌≤◌, List, [], ◌∷◌, ◌++◌, length, get_or, drop, ℤ, pos, sym, refl, ap, ◌∙◌, append_assoc, zero-add, add-one, arith, length-append}
use Rattle.text.specs.Writing.{decimal, put, over}
use Rattle.text.proofs.Storing.{put-append}
use Rattle.model.specs.Controller.{line}

-- what stands after a number, by those that follow it
abbrev pub ends : List ℤ → ℕ
ends [] = 10
ends (z ∷ zs) = 44

-- the first fields of a line
pub fields : List ℤ → ℕ → List ℕ
fields zs zero = []
fields [] (suc i) = []
fields (z ∷ zs) (suc i) = decimal z ++ (ends zs ∷ fields zs i)

pub fields_none : (zs : List ℤ) → fields zs 0 ≡ []
unfolding fields
fields_none zs = refl

line_cons : (z : ℤ) (zs : List ℤ) → line (z ∷ zs) ≡ decimal z ++ (ends zs ∷ line zs)
line_cons z [] = refl
line_cons z (y ∷ zs) = refl

pub fields_all : (zs : List ℤ) (i : ℕ) → length zs ≤ i → fields zs i ≡ line zs
unfolding fields
fields_all [] zero h = refl
fields_all [] (suc i) h = refl
fields_all (z ∷ zs) zero h = absurd (omega arith)
fields_all (z ∷ zs) (suc i) h = ap (λ l. decimal z ++ (ends zs ∷ l)) (fields_all zs i (omega arith)) ∙ sym (line_cons z zs)

abbrev field : List ℤ → ℕ → List ℕ
field zs i = decimal (get_or zs i (pos 0)) ++ (ends (drop (suc i) zs) ∷ [])

fields_more : (zs : List ℤ) (i : ℕ) → i < length zs → fields zs (suc i) ≡ fields zs i ++ field zs i
unfolding fields
fields_more [] i h = absurd (omega arith)
fields_more (z ∷ zs) zero h = refl
fields_more (z ∷ zs) (suc i) h =
    ap (λ l. decimal z ++ (ends zs ∷ l)) (fields_more zs i (omega arith)) ∙ sym (append_assoc (decimal z) (ends zs ∷ fields zs i) (field zs i))

pub ends_more : (zs : List ℤ) (i : ℕ) → i + 1 < length zs → 44 ≡ ends (drop (suc i) zs)
ends_more [] i h = absurd (omega arith)
ends_more (z ∷ []) i h = absurd (omega arith)
ends_more (z ∷ y ∷ zs) zero h = refl
ends_more (z ∷ y ∷ zs) (suc i) h = ends_more (y ∷ zs) i (omega arith)

pub ends_last : (zs : List ℤ) (i : ℕ) → length zs ≤ i + 1 → 10 ≡ ends (drop (suc i) zs)
ends_last [] i h = refl
ends_last (z ∷ []) zero h = refl
ends_last (z ∷ []) (suc i) h = refl
ends_last (z ∷ y ∷ zs) zero h = absurd (omega arith)
ends_last (z ∷ y ∷ zs) (suc i) h = ends_last (y ∷ zs) i (omega arith)

-- `i` fields stand in the block, and end at `at`
pub record Wrote (zs : List ℤ) (start : List ℕ) (i at : ℕ) (block : List ℕ) : Type 0 where
  pub end : at ≡ length (fields zs i)
  pub is : block ≡ over (fields zs i) start

pub wrote_more : (zs : List ℤ) (start : List ℕ) (i at : ℕ) (block : List ℕ) (e at' : ℕ) (block' : List ℕ) → i < length zs → e ≡ ends (drop (suc i) zs) → Wrote zs start i at block →
    let f = decimal (get_or zs i (pos 0)) ++ (e ∷ []) in
    at' ≡ at + length f → block' ≡ put at f block → Wrote zs start (i + 1) at' block'
wrote_more zs start i at block e at' block' h here w far stored =
    let more = fields_more zs i h in
    let f : decimal (get_or zs i (pos 0)) ++ (e ∷ []) ≡ field zs i = ap (λ b. decimal (get_or zs i (pos 0)) ++ (b ∷ [])) here in
    rw add-one (record {
      end = far ∙ ap (λ l. at + length l) f ∙ ap (λ n. n + length (field zs i)) w.end ∙ sym (length-append (fields zs i) (field zs i)) ∙ ap length (sym more);
      is =
          stored
          ∙ ap (λ l. put at l block) f
          ∙ ap (λ n. put n (field zs i) block) (w.end ∙ sym (zero-add (length (fields zs i))))
          ∙ ap (put (0 + length (fields zs i)) (field zs i)) w.is
          ∙ sym (put-append 0 (fields zs i) (field zs i) start)
          ∙ ap (λ l. over l start) (sym more);
    })
