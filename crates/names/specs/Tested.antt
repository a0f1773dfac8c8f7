-- That no name begins another, from one test of the whole table. Assumes nothing.
use Rattle.std.proofs.Common.{◌≡◌, ℕ, zero, suc, Bool, true, false, not, ◌&&◌, ◌||◌, List, [], ◌∷◌, refl, ap, ◌∙◌, subst}
use Rattle.std.proofs.lemmas.Bool.{and_parts, or_parts, not-true, both_ways}
use Rattle.names.specs.Tables.{Row, begins}
use Rattle.names.specs.Laws.{Stands, Apart}

module _ {N : Type 0} where
  -- ns neither begins a name of the rows nor has one at its front
  abbrev free : List ℕ → List (Row N) → Bool
  free ns [] = true
  free ns (r ∷ rows) = not (begins ns r.1 || begins r.1 ns) && free ns rows

  abbrev pub apart : List (Row N) → Bool
  apart [] = true
  apart (r ∷ rows) = free r.1 rows && apart rows

  free_of : (ns : List ℕ) (rows : List (Row N)) (j : ℕ) (s : Row N) → free ns rows ≡ true → Stands rows j s → (begins ns s.1 ≡ false) × (begins s.1 ns ≡ false)
  free_of ns [] j s t h = absurd h
  free_of ns (r ∷ rows) zero s t h =
      let here = (and_parts (not (begins ns r.1 || begins r.1 ns)) (free ns rows) t).0 in
      subst (λ (q : Row N). (begins ns q.1 ≡ false) × (begins q.1 ns ≡ false)) h (or_parts (begins ns r.1) (begins r.1 ns) (not-true _ here))
  free_of ns (r ∷ rows) (suc j) s t h = free_of ns rows j s (and_parts (not (begins ns r.1 || begins r.1 ns)) (free ns rows) t).1 h

  pub apart_by_test : (table : List (Row N)) → apart table ≡ true → Apart table
  apart_by_test [] t i j r s hr hs b = absurd hr
  apart_by_test (q ∷ rows) t zero zero r s hr hs b = refl
  apart_by_test (q ∷ rows) t zero (suc j) r s hr hs b =
      absurd (both_ways _ (free_of q.1 rows j s (and_parts (free q.1 rows) (apart rows) t).0 hs).0 (ap (λ (x : Row N). begins x.1 s.1) hr ∙ b))
  apart_by_test (q ∷ rows) t (suc i) zero r s hr hs b =
      absurd (both_ways _ (free_of q.1 rows i r (and_parts (free q.1 rows) (apart rows) t).0 hr).1 (ap (λ (x : Row N). begins r.1 x.1) hs ∙ b))
  apart_by_test (q ∷ rows) t (suc i) (suc j) r s hr hs b = ap suc (apart_by_test rows (and_parts (free q.1 rows) (apart rows) t).1 i j r s hr hs b)
