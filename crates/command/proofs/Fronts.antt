-- A list that is made element by element, or is refused. Assumes nothing.
use Rattle.std.proofs.Common.{◌≡◌, List, [], ◌∷◌, ◌++◌, Ok, Err, Result, sym, refl, ap, append_assoc}
use Rattle.command.specs.declared.request.Refusal.{Refusal}
use Rattle.command.specs.Fields.{before}

-- xs stand before the elements that are still to come
abbrev pub front : {A : Type 0} → List A → Result (List A) Refusal → Result (List A) Refusal
front xs (Ok ys) = Ok (xs ++ ys)
front xs (Err e) = Err e

module _ {A : Type 0} where
  pub front_none : (r : Result (List A) Refusal) → front [] r ≡ r
  front_none (Ok ys) = refl
  front_none (Err e) = refl

  -- one element more stands before them
  pub front_more : (xs : List A) (x : A) (r : Result (List A) Refusal) → front xs (before x r) ≡ front (xs ++ x ∷ []) r
  front_more xs x (Ok ys) = ap (λ l. Ok l) (sym (append_assoc xs (x ∷ []) ys))
  front_more xs x (Err e) = refl
