-- What stands after a name, and the place where no name goes on, is within the text. Assumes nothing.
use Rattle.std.proofs.Common.{ℕ, suc, ◌≤◌, List, [], ◌∷◌, length, arith, length-drop}
use Rattle.std.specs.Option.{IfSome}
use Rattle.std.proofs.lemmas.List.{take_rest}
use Rattle.std.proofs.lemmas.Bool.Decides.{nat_tests}
use Rattle.names.specs.Tables.{Row}
use Rattle.names.specs.Places.{end, lead, short, stop}

end_within : (ns : List ℕ) (i : ℕ) (text : List ℕ) → i ≤ length text → end ns i text ≤ length text
end_within [] i text h = h
end_within (n ∷ ns) i text h = let e = end_within ns (suc i) text in grind (arith, nat_tests)

module _ {N : Type 0} where
  pub stop_within : (rows : List (Row N)) (text : List ℕ) → stop rows text ≤ length text
  stop_within [] text = omega arith
  stop_within (r ∷ rows) text = omega (arith, end_within (short r.1) 0 text (omega arith), stop_within rows text)

  pub lead_within : (rows : List (Row N)) (text : List ℕ) → IfSome (lead rows text) (λ x. length x.1 ≤ length text)
  lead_within [] text = tt
  lead_within (r ∷ rows) text =
      let h = lead_within rows text in
      let rest = take_rest text (length r.1) in
      grind (arith, length-drop)
