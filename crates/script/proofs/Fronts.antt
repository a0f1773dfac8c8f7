-- What stands after the bytes at the front of a line. Assumes nothing.
use Rattle.std.proofs.Common.{◌≡◌, ℕ, true, false, eqb, List, [], ◌∷◌, ◌++◌, Some, None, Option, refl, ap, ⊎_elim, Bor, MatchOption}
use Rattle.std.specs.Option.{option_map}
use Rattle.std.proofs.lemmas.Bool.{cases_Bool, eq-eqb, eqb-true}
use Rattle.listing.specs.Lines.{after}

after_all : (ns rest : List ℕ) → after ns (ns ++ rest) ≡ Some rest
after_all [] rest = refl
after_all (n ∷ ns) rest = rw (eq-eqb n n refl) (after_all ns rest)

led : (ns line rest : List ℕ) → after ns line ≡ Some rest → line ≡ ns ++ rest
led [] line rest e = cc
led (n ∷ ns) [] rest e = cc
led (n ∷ ns) (b ∷ bs) rest e =
    ⊎_elim
    (λ (t : eqb b n ≡ true). let here = eqb-true b n t in let more = led ns bs rest (rw t at e) in cc)
    (λ (f : eqb b n ≡ false). let none : None ≡ Some rest = rw f at e in cc)
    (cases_Bool (eqb b n))

is_none : {A : Type 0} (o : Option A) → ((x : A) → o ≡ Some x → ⊥) → None ≡ o
is_none None h = refl
is_none (Some x) h = absurd (h x refl)

pub stripped : (line ns : List ℕ) (r : Option (Bor (List ℕ))) → MatchOption r ((rest : List ℕ) → line ≡ ns ++ rest → ⊥) (λ x. line ≡ ns ++ x.now) → option_map (λ x. x.now) r ≡ after ns line
stripped line ns (Some x) e = let all = after_all ns x.now in cc (ap (after ns) e)
stripped line ns None h = is_none (after ns line) (λ x e. h x (led ns line x e))
