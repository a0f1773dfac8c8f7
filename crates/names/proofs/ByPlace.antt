-- What a match on the leading bytes gives is the named text. Assumes nothing.
use Rattle.std.proofs.Common.{◌≡◌, ℕ, suc, ◌+◌, false, List, [], ◌∷◌, ◌++◌, map, length, drop, None, sym, refl, add-zero, arith, drop-cons}
use Rattle.std.proofs.lemmas.List.{drop_all, take_rest}
use Rattle.std.proofs.lemmas.Bool.Decides.{nat_tests}
use Rattle.std.specs.Option.{option_map, option_or, ok_or}
use Rattle.names.specs.Tables.{Row, upper, begins, along, leading, reach, cut, named}
use Rattle.names.specs.Places.{has, end, lead, short, stop}

has_begins : (ns : List ℕ) (i : ℕ) (text : List ℕ) → has ns i text ≡ begins ns (map upper (drop i text))
has_begins [] i text = refl
has_begins (n ∷ ns) i text = let h = has_begins ns (suc i) text in grind (arith, nat_tests, drop-cons, drop_all)

end_along : (ns : List ℕ) (i : ℕ) (text : List ℕ) → end ns i text ≡ i + along ns (map upper (drop i text))
end_along [] i text = sym (add-zero i)
end_along (n ∷ ns) i text = let h = end_along ns (suc i) text in grind (arith, nat_tests, drop-cons, drop_all)

-- where the name does not stand at the front, its last byte is not reached
short_along : (ns bs : List ℕ) → begins ns bs ≡ false → along (short ns) bs ≡ along ns bs
short_along [] bs h = grind arith
short_along (n ∷ []) [] h = refl
short_along (n ∷ []) (b ∷ bs) h = grind (arith, nat_tests)
short_along (n ∷ m ∷ ns) [] h = refl
short_along (n ∷ m ∷ ns) (b ∷ bs) h = let k = short_along (m ∷ ns) bs in grind (arith, nat_tests)

module _ {N : Type 0} (text : List ℕ) where
  lead_is : (rows : List (Row N)) → lead rows text ≡ option_map (cut text) (leading rows (map upper text))
  lead_is [] = refl
  lead_is (r ∷ rows) =
      let h = lead_is rows in
      let first = has_begins r.1 0 text in
      let rest = take_rest text (length r.1) in
      grind arith

  stop_is : (rows : List (Row N)) → None ≡ leading rows (map upper text) → stop rows text ≡ reach rows (map upper text)
  stop_is [] h = refl
  stop_is (r ∷ rows) h =
      let k = stop_is rows in
      let first = end_along (short r.1) 0 text in
      let whole = short_along r.1 (map upper text) in
      grind arith

  -- the name that the match gives, or the place where it gives none
  pub named_by_place : (table : List (Row N)) → named table text ≡ ok_or (lead table text) (stop table text)
  unfolding named
  named_by_place table = let l = lead_is table in let s = stop_is table in grind arith

  -- rows in two parts
  pub lead_append : (a b : List (Row N)) → lead (a ++ b) text ≡ option_or (lead a text) (lead b text)
  lead_append [] b = refl
  lead_append (r ∷ a) b = let h = lead_append a b in grind arith
