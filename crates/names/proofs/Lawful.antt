-- The laws of a table whose names are apart. Assumes nothing.
use Rattle.std.proofs.Common.{◌≡◌, ℕ, zero, suc, ◌<◌, ◌≤◌, true, false, ◌⊎◌, List, [], ◌∷◌, map, length, take, Some, None, Err, Option, sym, refl, ap, ◌∙◌, subst, inl, inr, ⊎_elim, arith}
use Rattle.std.proofs.lemmas.Bool.{both_ways, cases_Bool, cases_lt}
use Rattle.std.proofs.lemmas.Bool.Decides.{nat_tests}
use Rattle.std.specs.Option.{option_map, ok_or}
use Rattle.names.specs.Tables.{Row, upper, begins, along, leading, reach, cut, named}
use Rattle.names.specs.Laws.{Stands, Apart, Nameless, Place, Lawful, ApartIsLawful}

-- of two names at the front of the same bytes, one begins the other
one_begins : (a b bs : List ℕ) → begins a bs ≡ true → begins b bs ≡ true → (begins a b ≡ true) ⊎ (begins b a ≡ true)
one_begins [] b bs ha hb = inl refl
one_begins (n ∷ a) [] bs ha hb = inr refl
one_begins (n ∷ a) (m ∷ b) [] ha hb = grind arith
one_begins (n ∷ a) (m ∷ b) (c ∷ bs) ha hb = let h = one_begins a b bs in grind (arith, nat_tests)

-- the bytes that go along a name are a front of it, and no longer front is
pub along_le : (ns bs : List ℕ) → along ns bs ≤ length bs
along_le [] bs = omega arith
along_le (n ∷ ns) [] = omega arith
along_le (n ∷ ns) (b ∷ bs) = let h = along_le ns bs in grind (arith, nat_tests)

along_front : (ns bs : List ℕ) → begins (take (along ns bs) bs) ns ≡ true
along_front [] bs = refl
along_front (n ∷ ns) [] = refl
along_front (n ∷ ns) (b ∷ bs) = let h = along_front ns bs in grind (arith, nat_tests)

along_most : (ns bs : List ℕ) (k : ℕ) → k ≤ length bs → begins (take k bs) ns ≡ true → k ≤ along ns bs
along_most ns bs zero l h = omega arith
along_most ns [] (suc k) l h = absurd (omega arith)
along_most [] (b ∷ bs) (suc k) l h = grind arith
along_most (n ∷ ns) (b ∷ bs) (suc k) l h = let m = along_most ns bs k (omega arith) in grind (arith, nat_tests)

shorter : (k m : ℕ) (bs ns : List ℕ) → k ≤ m → begins (take m bs) ns ≡ true → begins (take k bs) ns ≡ true
shorter zero m bs ns l h = refl
shorter (suc k) zero bs ns l h = absurd (omega arith)
shorter (suc k) (suc m) [] ns l h = h
shorter (suc k) (suc m) (b ∷ bs) [] l h = h
shorter (suc k) (suc m) (b ∷ bs) (n ∷ ns) l h = let s = shorter k m bs ns (omega arith) in grind (arith, nat_tests)

which : {X : Type 0} (o : Option X) → (o ≡ None) ⊎ ((x : X) × (o ≡ Some x))
which None = inl refl
which (Some x) = inr (x, refl)

module _ {N : Type 0} where
  pub same_row : (table : List (Row N)) (i : ℕ) (r s : Row N) → Stands table i r → Stands table i s → r ≡ s
  same_row [] i r s hr hs = absurd hr
  same_row (q ∷ rows) zero r s hr hs = cc
  same_row (q ∷ rows) (suc i) r s hr hs = same_row rows i r s hr hs

  -- the row that leads stands in the table, and none leads where there is no name
  leads : (rows : List (Row N)) (bs : List ℕ) (r : Row N) → leading rows bs ≡ Some r → (i : ℕ) × Stands rows i r × (begins r.1 bs ≡ true)
  leads [] bs r h = absurd (cc)
  leads (q ∷ rows) bs r h =
      ⊎_elim
      (λ (t : begins q.1 bs ≡ true). let e : q ≡ r = cc (rw t at h) in (0, e, subst (λ (x : Row N). begins x.1 bs ≡ true) e t))
      (λ (f : begins q.1 bs ≡ false). let p = leads rows bs r (rw f at h) in (suc p.0, p.1, p.2))
      (cases_Bool (begins q.1 bs))

  none_leads : (rows : List (Row N)) (bs : List ℕ) → leading rows bs ≡ None → Nameless rows bs
  none_leads [] bs h i r st = absurd st
  none_leads (q ∷ rows) bs h zero r st = grind arith
  none_leads (q ∷ rows) bs h (suc i) r st = let k = none_leads rows bs in grind arith

  leads_none : (rows : List (Row N)) (bs : List ℕ) → Nameless rows bs → leading rows bs ≡ None
  leads_none [] bs h = refl
  leads_none (q ∷ rows) bs h = let here = h 0 q refl in let k = leads_none rows bs (λ i. h (suc i)) in grind arith

  -- how far the bytes go along some name
  reach_most : (rows : List (Row N)) (bs : List ℕ) (i : ℕ) (r : Row N) → Stands rows i r → along r.1 bs ≤ reach rows bs
  reach_most [] bs i r st = absurd st
  reach_most (q ∷ rows) bs zero r st = grind arith
  reach_most (q ∷ rows) bs (suc i) r st = omega (arith, reach_most rows bs i r st)

  reach_some : (rows : List (Row N)) (bs : List ℕ) → 0 < length rows → (i : ℕ) × (r : Row N) × Stands rows i r × (along r.1 bs ≡ reach rows bs)
  reach_some [] bs l = absurd (omega arith)
  reach_some (r ∷ []) bs l = (0, r, refl, omega arith)
  reach_some (r ∷ s ∷ rows) bs l =
      let p = reach_some (s ∷ rows) bs (omega arith) in
      ⊎_elim
      (λ (less : along r.1 bs < reach (s ∷ rows) bs). (suc p.0, p.1, p.2, omega (arith, p.3)))
      (λ (most : reach (s ∷ rows) bs ≤ along r.1 bs). (0, r, refl, omega arith))
      (cases_lt (along r.1 bs) (reach (s ∷ rows) bs))

  module _ (table : List (Row N)) (bs : List ℕ) (some : 0 < length table) where
    place : Place table bs (reach table bs)
    place =
        let p = reach_some table bs some in
        let front = subst (λ k. begins (take k bs) p.1.1 ≡ true) p.3 (along_front p.1.1 bs) in (
          omega (arith, along_le p.1.1 bs, p.3),
          (p.0, p.1, p.2, front),
          λ l g. omega (arith, along_most g.1.1 bs (suc (reach table bs)) l g.3, reach_most table bs g.0 g.1 g.2),
        )

    one_place : (p : ℕ) → Place table bs p → p ≡ reach table bs
    one_place p h =
        let up : p ≤ reach table bs = omega (arith, along_most h.1.1.1 bs p h.0 h.1.3, reach_most table bs h.1.0 h.1.1 h.1.2) in
        ⊎_elim
        (λ (l : p < reach table bs).
        let g = place.1 in
        absurd (h.2 (omega (arith, place.0)) (g.0, g.1, g.2, shorter (suc p) (reach table bs) bs g.1.1 l g.3)))
        (λ (l : reach table bs ≤ p). omega arith)
        (cases_lt p (reach table bs))

  module _ (table : List (Row N)) (some : 0 < length table) (apart : Apart table) where
    one : (bs : List ℕ) (i j : ℕ) (r s : Row N) → Stands table i r → Stands table j s → begins r.1 bs ≡ true → begins s.1 bs ≡ true → i ≡ j
    one bs i j r s hr hs br bs' = ⊎_elim (λ t. apart i j r s hr hs t) (λ t. sym (apart j i s r hs hr t)) (one_begins r.1 s.1 bs br bs')

    -- what leads, and so what the text is named
    leads_one : (bs : List ℕ) (i : ℕ) (r : Row N) → Stands table i r → begins r.1 bs ≡ true → leading table bs ≡ Some r
    leads_one bs i r st b =
        ⊎_elim
        (λ none. absurd (both_ways _ (none_leads table bs none i r st) b))
        (λ p.
        let l = leads table bs p.0 p.1 in
        let same : p.0 ≡ r = same_row table i p.0 r (subst (λ k. Stands table k p.0) (one bs l.0 i p.0 r l.1 st l.2 b) l.1) st in
        p.1 ∙ ap (λ x. Some x) same)
        (which (leading table bs))

    -- a text is named by the row that leads it, or refused
    by_lead : (text : List ℕ) (o : Option (Row N)) → leading table (map upper text) ≡ o → named table text ≡ ok_or (option_map (cut text) o) (reach table (map upper text))
    unfolding named
    by_lead text o e = ap (λ x. ok_or (option_map (cut text) x) (reach table (map upper text))) e

    lawful : Lawful table
    lawful =
        record {
          one = one;
          finds = λ text i r st b. by_lead text (Some r) (leads_one (map upper text) i r st b);
          found =
              λ text x h.
              ⊎_elim
              (λ none. absurd (cc (by_lead text None none)))
              (λ p. let l = leads table (map upper text) p.0 p.1 in (l.0, p.0, l.1, l.2, cc (by_lead text (Some p.0) p.1)))
              (which (leading table (map upper text)));
          refused =
              λ text p h.
              ⊎_elim
              (λ none. let e : reach table (map upper text) ≡ p = cc (by_lead text None none) in (none_leads table (map upper text) none, subst (Place table (map upper text)) e (place table (map upper text) some)))
              (λ q. absurd (cc (by_lead text (Some q.0) q.1)))
              (which (leading table (map upper text)));
          refuses = λ text p no pl. by_lead text None (leads_none table (map upper text) no) ∙ ap (λ k. Err k) (sym (one_place table (map upper text) some p pl));
        }

  pub apart_is_lawful : ApartIsLawful N
  apart_is_lawful = lawful
