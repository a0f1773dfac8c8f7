-- One turn of the reading of a list's fields. Assumes nothing.
use Rattle.std.proofs.Common.{◌≡◌, ℕ, suc, ◌+◌, ◌-◌, ◌<◌, ◌≤◌, Bool, false, List, [], ◌∷◌, ◌++◌, length, get_or, take, drop, set, replicate, None, Ok, Err, Result, sym, refl, ap, ◌∙◌, append_assoc, add-one, arith}
use Rattle.std.proofs.lemmas.List.{at_drop_more, at_drop_all, drop-drop, drop-replicate, drop-set-lt, length-drop, length-set, set_split, take_more_set}
use Rattle.std.proofs.lemmas.Bool.{eq-eqb, ne_eqb}
use Rattle.drive.specs.declared.axis.Axis.TheVariants.{X}
use Rattle.drive.specs.Axes.{in_order, axes, index, each, length-each}
use Rattle.drive.proofs.Indices.{index_of, get_or-each}
use Rattle.command.specs.declared.fields.Slot.{Slot}
use Rattle.command.specs.declared.request.Refusal.{Refusal}
use Rattle.command.specs.declared.request.Refusal.TheVariants.{Form}
use Rattle.command.specs.Fields.{Fields, then, slot, after, before, fields}
use Rattle.command.proofs.Fronts.{front, front_more}

-- The fields fs are read as far as axis i, and bs at place `at` are left of bs₀ at place at₀; p says of each axis whether a point is allowed.
pub record Reading (p : ℕ → Bool) (at₀ : ℕ) (bs₀ : List ℕ) (i : ℕ) (fs : Fields) (at : ℕ) (bs : List ℕ) : Type 0 where
  pub past : i ≤ at
  pub full : length fs ≡ axes
  pub empty : drop i fs ≡ replicate (axes - i) None
  pub whole : front (take i fs) (fields (drop i (each p)) at bs) ≡ fields (each p) at₀ bs₀

module _ {p : ℕ → Bool} {at₀ : ℕ} {bs₀ : List ℕ} {i : ℕ} {fs : Fields} {at : ℕ} {bs : List ℕ} (g : Reading p at₀ bs₀ i fs at bs) where
  -- no axis is left for the comma before
  pub crowded : axes ≤ i → Err (Form (at - 1)) ≡ fields (each p) at₀ bs₀
  unfolding fields
  crowded h =
      let past : length (each p) ≤ i = rw length-each h in
      sym (at_drop_all (λ ps. front (take i fs) (fields ps at bs)) (each p) i past) ∙ g.whole

  -- the turn of an axis
  module _ (h : i < axes) {point : Bool} (own : point ≡ p (index (get_or in_order i X))) where
    is_turn : {k : ℕ} → k ≡ index (get_or in_order i X) → k ≡ i
    is_turn here = here ∙ index_of i X h

    -- what the text gives, by the field that is read next
    abbrev given : Result Slot Refusal → Result Fields Refusal
    given r =
        front (take i fs) (then r (λ s. before s.field (after (fields (drop (i + 1) (each p))) (length (drop (i + 1) (each p))) (at + s.width) (drop s.width bs))))

    turn : given (slot point at bs) ≡ fields (each p) at₀ bs₀
    unfolding fields
    turn =
        let inside : i < length (each p) = rw length-each h in
        ap (λ b. given (slot b at bs)) (own ∙ ap p (is_turn refl) ∙ sym (get_or-each p i false h)) ∙ sym (at_drop_more (λ ps. front (take i fs) (fields ps at bs)) (each p) i false inside) ∙ g.whole

    pub refused : (e : Refusal) → Err e ≡ slot point at bs → Err e ≡ fields (each p) at₀ bs₀
    refused e is = ap given is ∙ turn

    -- k is the index of the axis; cs is left of the text after the field, and stands at `on`
    module _ {k : ℕ} (here : k ≡ index (get_or in_order i X)) (s : Slot) (is : Ok s ≡ slot point at bs) {on : ℕ} {cs : List ℕ} (to : on ≡ at + s.width) (left : cs ≡ drop s.width bs) where
      -- what the text gives, by what stands after the field
      abbrev onward : List ℕ → Result Fields Refusal
      onward ds = front (take i fs ++ s.field ∷ []) (after (fields (drop (i + 1) (each p))) (length (drop (i + 1) (each p))) on ds)

      read : onward cs ≡ fields (each p) at₀ bs₀
      read = rw (to, left) (sym (front_more (take i fs) s.field _) ∙ ap given is ∙ turn)

      still_empty : drop (i + 1) fs ≡ replicate (axes - (i + 1)) None
      still_empty =
          sym (drop-drop 1 i fs) ∙ ap (drop 1) g.empty ∙ drop-replicate 1 (axes - i) None ∙ ap (λ k. replicate k None) (omega arith)

      -- the text ends after the field
      pub ended : length cs < 1 → Ok (set fs k s.field) ≡ fields (each p) at₀ bs₀
      ended e =
          let inside : i < length fs = omega (arith, g.full) in
          let others : drop (suc i) fs ≡ replicate (length (drop (i + 1) (each p))) None = rw (length-drop, length-each, ← add-one i) still_empty in
          let made : set fs i s.field ≡ (take i fs ++ s.field ∷ []) ++ replicate (length (drop (i + 1) (each p))) None = rw append_assoc (set_split fs i s.field inside ∙ ap (λ l. take i fs ++ s.field ∷ l) others) in
          rw (is_turn here) (ap (λ l. Ok l) made ∙ sym (at_drop_all onward cs 0 (omega arith)) ∙ read)

      -- a byte that is no comma
      pub stray : 1 ≤ length cs → (get_or cs 0 0 ≡ 44 → ⊥) → Err (Form on) ≡ fields (each p) at₀ bs₀
      stray l n = rw (ne_eqb (get_or cs 0 0) 44 n) at (sym (at_drop_more onward cs 0 0 (omega arith)) ∙ read)

      -- a comma
      pub comma : 1 ≤ length cs → get_or cs 0 0 ≡ 44 → Reading p at₀ bs₀ (i + 1) (set fs k s.field) (on + 1) (drop 1 cs)
      comma l e =
          let inside : i < length fs = omega (arith, g.full) in
          let next : i < i + 1 = omega arith in
          record {
            past = omega (arith, g.past);
            full = simp length-set g.full;
            empty = rw (is_turn here, drop-set-lt) still_empty;
            whole = rw (is_turn here, take_more_set) (rw (eq-eqb (get_or cs 0 0) 44 e) at (sym (at_drop_more onward cs 0 0 (omega arith)) ∙ read));
          }
