-- Texts by the name at their front. Assumes nothing.
use Rattle.std.proofs.Common.{◌≡◌, ℕ, zero, suc, ◌+◌, ◌-◌, ◌<◌, ◌≤◌, Bool, true, ◌&&◌, leb, List, [], ◌∷◌, ◌++◌, map, length, take, drop, Ok, Err, Result, sym, refl, ap, ◌∙◌, subst, inl, ⊎_elim, append_assoc, append-nil, zero-add, arith, length-append, length-drop, take-append-drop, take_at}
use Rattle.std.proofs.lemmas.List.{append_cancel_left, length-map, length-take, length-take-le, map-append, take-append-le, take-map}
use Rattle.std.proofs.lemmas.Bool.{and_parts, both_ways, cases_lt}
use Rattle.std.proofs.lemmas.Bool.Decides.{nat_tests}
use Rattle.names.specs.Tables.{Row, upper, begins, named}
use Rattle.names.specs.Laws.{Stands, Lawful}
use Rattle.names.proofs.Lawful.{same_row}
use Rattle.command.specs.declared.request.Refusal.{Refusal}
use Rattle.command.specs.declared.request.Refusal.TheVariants.{Name, Mode}
use Rattle.command.specs.Fields.{then}
use Rattle.grammar.specs.Forms.{Same, Spelled, Shape, anything, invalid, Shaped, Rule, Ruled, here, there, Named}
use Rattle.grammar.specs.Forms as form
use Rattle.grammar.proofs.Fronts.{Agree, agree_less, Misfit, Follows, misfit_after}
use Rattle.grammar.proofs.Judging.{Judged, judged_after, judged_then, value}
use Rattle.grammar.proofs.Shapes.{Reads, takes, never}

-- A byte stands for its letter in upper case, and for no other byte that is not a letter in lower case.
upper_same : (b : ℕ) → Same (upper b) b
upper_same b = grind (arith, nat_tests)

same_upper : (n b : ℕ) → n ≤ 96 → Same n b → upper b ≡ n
same_upper n b h s = grind (arith, nat_tests)

-- no letter in lower case
abbrev plain : List ℕ → Bool
plain [] = true
plain (n ∷ ns) = leb n 96 && plain ns

abbrev pub all_plain : List Rule → Bool
all_plain [] = true
all_plain (r ∷ rs) = plain r.1 && all_plain rs

spelled_upper : (ns w : List ℕ) → plain ns ≡ true → Spelled ns w → map upper w ≡ ns
spelled_upper [] [] h s = refl
spelled_upper [] (b ∷ w) h s = absurd s
spelled_upper (n ∷ ns) [] h s = absurd s
spelled_upper (n ∷ ns) (b ∷ w) h s = let first = same_upper n b in let k = spelled_upper ns w in grind (arith, nat_tests)

-- the bytes w, and then those of x as they are
upper_spelled : (w x : List ℕ) → Spelled (map upper w ++ x) (w ++ x)
upper_spelled [] [] = tt
upper_spelled [] (c ∷ x) = (inl refl, upper_spelled [] x)
upper_spelled (b ∷ w) x = (upper_same b, upper_spelled w x)

begins_front : (ns bs : List ℕ) → begins ns bs ≡ true → bs ≡ ns ++ drop (length ns) bs
begins_front [] bs h = refl
begins_front (n ∷ ns) [] h = grind arith
begins_front (n ∷ ns) (b ∷ bs) h = let k = begins_front ns bs in grind (arith, nat_tests)

front_begins : (ns v : List ℕ) → begins ns (ns ++ v) ≡ true
front_begins [] v = refl
front_begins (n ∷ ns) v = let k = front_begins ns v in grind (arith, nat_tests)

take_begins : (ns bs : List ℕ) → take (length ns) bs ≡ ns → begins ns bs ≡ true
take_begins [] bs e = refl
take_begins (n ∷ ns) [] e = grind arith
take_begins (n ∷ ns) (b ∷ bs) e = let h = take_begins ns bs (cc) in grind (arith, nat_tests)

-- The rule that a text follows.
record Following (rs : List Rule) (t : List ℕ) : Type 0 where
  place : ℕ
  rule : Rule
  stands : Stands rs place rule
  word : List ℕ
  rest : List ℕ
  is : t ≡ word ++ rest
  name : map upper word ≡ rule.1
  shaped : Shaped rule.0 rest

following : {rs : List Rule} {t : List ℕ} → all_plain rs ≡ true → Ruled rs t → Following rs t
following h (here s n rs w v sp sh) =
    record { place = 0; rule = (s, n); stands = refl; word = w; rest = v; is = refl; name = spelled_upper n w (and_parts (plain n) (all_plain rs) h).0 sp; shaped = sh }
following h (there r rs t x) =
    let f = following (and_parts (plain r.1) (all_plain rs) h).1 x in
    record { place = suc f.place; rule = f.rule; stands = f.stands; word = f.word; rest = f.rest; is = f.is; name = f.name; shaped = f.shaped }

following_upper : {rs : List Rule} {t : List ℕ} (f : Following rs t) → map upper t ≡ f.rule.1 ++ map upper f.rest
following_upper f = ap (map upper) f.is ∙ map-append upper f.word f.rest ∙ ap (λ l. l ++ map upper f.rest) f.name

follows_rule : (rs : List Rule) (i : ℕ) (s : Shape) (n : List ℕ) → Stands rs i (s, n) → (w v : List ℕ) → Spelled n w → Shaped s v → Ruled rs (w ++ v)
follows_rule [] i s n st w v sp sh = absurd st
follows_rule (r ∷ rs) zero s n st w v sp sh = subst (λ q. Ruled (q ∷ rs) (w ++ v)) (sym st) (here s n rs w v sp sh)
follows_rule (r ∷ rs) (suc i) s n st w v sp sh = there r rs (w ++ v) (follows_rule rs i s n st w v sp sh)

-- a text of the first rule, with its name as it is written
pub first_rule : {s : Shape} {n : List ℕ} {rs : List Rule} {v : List ℕ} → Shaped s v → (t : List ℕ) × Ruled ((s, n) ∷ rs) t
first_rule {s} {n} {rs} {v} sh = (n ++ v, here s n rs n v (upper_spelled [] n) sh)

-- a text of the right form has a name
pub ruled_named : {rs : List Rule} {t : List ℕ} → Ruled rs t → Named rs t
ruled_named (here s n rs w v sp sh) = here anything n (map (λ r. (anything, r.1)) rs) w v sp (form.whatever v)
ruled_named (there r rs t x) = there (anything, r.1) (map (λ r. (anything, r.1)) rs) t (ruled_named x)

-- The rules of texts with those names and any text after them.
abbrev any_rest : List Rule → List Rule
any_rest rs = map (λ r. (anything, r.1)) rs

any_plain : (rs : List Rule) → all_plain (any_rest rs) ≡ all_plain rs
any_plain [] = refl
any_plain (r ∷ rs) = ap (λ b. plain r.1 && b) (any_plain rs)

to_any : (rs : List Rule) (i : ℕ) (r : Rule) → Stands rs i r → Stands (any_rest rs) i (anything, r.1)
to_any [] i r st = absurd st
to_any (q ∷ rs) zero r st = ap (λ x. (anything, x.1)) st
to_any (q ∷ rs) (suc i) r st = to_any rs i r st

from_any : (rs : List Rule) (i : ℕ) (r : Rule) → Stands (any_rest rs) i r → (s : Shape) × Stands rs i (s, r.1)
from_any [] i r st = absurd st
from_any (q ∷ rs) zero r st = (q.0, λ i. (q.0, (st i).1))
from_any (q ∷ rs) (suc i) r st = from_any rs i r st

-- Names and rules, row by row: the same bytes, and what follows the name is read as its rule says.
pub data Matched {N A : Type 0} (operand : N → ℕ → List ℕ → Result A Refusal) : List (Row N) → List Rule → Type 0 where
  done : Matched operand [] []
  row : {x : N} {n : List ℕ} {s : Shape} {xs : List (Row N)} {rs : List Rule} → Reads s (operand x) → Matched operand xs rs → Matched operand ((x, n) ∷ xs) ((s, n) ∷ rs)

module _ {N A : Type 0} {operand : N → ℕ → List ℕ → Result A Refusal} where
  rule_of : {xs : List (Row N)} {rs : List Rule} → Matched operand xs rs → (i : ℕ) (x : Row N) → Stands xs i x → (s : Shape) × Stands rs i (s, x.1) × Reads s (operand x.0)
  rule_of done i x st = absurd st
  rule_of (row {s = s} r m) zero x st = (s, λ i. (s, (st i).1), subst (λ (y : Row N). Reads s (operand y.0)) st r)
  rule_of (row r m) (suc i) x st = rule_of m i x st

  name_of : {xs : List (Row N)} {rs : List Rule} → Matched operand xs rs → (i : ℕ) (r : Rule) → Stands rs i r → (x : N) × Stands xs i (x, r.1)
  name_of done i r st = absurd st
  name_of (row {x = x} q m) zero r st = (x, λ i. (x, (st i).1))
  name_of (row q m) (suc i) r st = name_of m i r st

-- What is given of a text at place `at`, whose forms are `right`, and `named` with any text after the name.
pub data Outcome {A : Type 0} (named right : List ℕ → Type 0) (at : ℕ) (text : List ℕ) : Result A Refusal → Type 0 where
  nameless : {p : ℕ} (q : ℕ) → p ≡ at + q → Misfit named text q → Outcome named right at text (Err (Name p))
  not_valid : named text → (right text → ⊥) → Outcome named right at text (Err Mode)
  judged : {r : Result A Refusal} → named text → Judged right at text r → Outcome named right at text r

no_shape : {v : List ℕ} → Shaped invalid v → ⊥
no_shape s = elim s [ ]

module _ {N A : Type 0} {operand : N → ℕ → List ℕ → Result A Refusal} {xs : List (Row N)} {rs : List Rule} (m : Matched operand xs rs) (plains : all_plain rs ≡ true) (law : Lawful xs) (at : ℕ) (text : List ℕ) where
  -- a name at the front of the text
  module _ (i : ℕ) (x : N) (n : List ℕ) (st : Stands xs i (x, n)) (b : begins n (map upper text) ≡ true) where
    word : List ℕ
    word = take (length n) text

    word_upper : map upper word ≡ n
    unfolding word
    word_upper =
        sym (take-map upper (length n) text) ∙ ap (take (length n)) (begins_front n (map upper text) b) ∙ take_at n (drop (length n) (map upper text)) (length n) refl

    spelled : Spelled n word
    spelled = subst (λ z. Spelled z word) word_upper (simp append-nil at (upper_spelled word []))

    inside : length n ≤ length text
    inside = omega (arith, ap length (begins_front n (map upper text) b), length-append n (drop (length n) (map upper text)), length-map text upper)

    module _ (s : Shape) (rule : Stands rs i (s, n)) where
      -- any text of the rules that begins so follows the same rule
      only_rule : (t : List ℕ) → Ruled rs t → Agree (length n) t text → (v : List ℕ) × (t ≡ word ++ v) × Shaped s v
      unfolding word
      only_rule t r a =
          let f = following plains r in
          let y = name_of m f.place f.rule f.stands in
          let front : take (length n) (map upper t) ≡ n = take-map upper (length n) t ∙ ap (map upper) a ∙ word_upper in
          let other : begins f.rule.1 (map upper t) ≡ true = subst (λ l. begins f.rule.1 l ≡ true) (sym (following_upper f)) (front_begins f.rule.1 (map upper f.rest)) in
          let place : f.place ≡ i = law.one (map upper t) f.place i (y.0, f.rule.1) (x, n) y.1 st other (take_begins n (map upper t) front) in
          let same : f.rule ≡ (s, n) = same_row rs i f.rule (s, n) (subst (λ k. Stands rs k f.rule) place f.stands) rule in
          let long : length f.word ≡ length n = sym (length-map f.word upper) ∙ ap length (f.name ∙ ap (λ (r : Rule). r.1) same) in
          let is : f.word ≡ word = sym (take_at f.word f.rest (length n) long) ∙ ap (take (length n)) (sym f.is) ∙ a in
          (f.rest, f.is ∙ ap (λ l. l ++ f.rest) is, subst (λ (r : Rule). Shaped r.0 f.rest) same f.shaped)

      has_name : Named rs text
      unfolding word
      has_name =
          subst (Named rs) (take-append-drop (length n) text)
          (follows_rule (any_rest rs) i anything n (to_any rs i (s, n) rule) word (drop (length n) text) spelled (form.whatever (drop (length n) text)))

      by_rule : Reads s (operand x) → Outcome (Named rs) (Ruled rs) at text (operand x (at + length n) (drop (length n) text))
      unfolding word
      by_rule (takes w sw judge) =
          let long : length word ≡ length n = length-take-le (length n) text inside in
          judged has_name
          (judged_after {L = Shaped s} word (drop (length n) text) text (take-append-drop (length n) text) long
          (record {
            some = λ _. (w, sw);
            into = λ v sv. follows_rule rs i s n rule word v spelled sv;
            out = λ t r a. only_rule t r (subst (λ l. Agree (length n) t l) (take-append-drop (length n) text) (agree_less (length n) (length word + 1) t (word ++ drop (length n) text) (omega arith) a));
          })
          (judge (at + length n) (drop (length n) text)))
      by_rule (never e is) =
          subst (Outcome (Named rs) (Ruled rs) at text) (sym (is (at + length n) (drop (length n) text)))
          (not_valid has_name (λ r. let o = only_rule text r refl in no_shape (subst (λ s. Shaped s o.0) e o.2)))

    found : Outcome (Named rs) (Ruled rs) at text (operand x (at + length n) (drop (length n) text))
    found = let r = rule_of m i (x, n) st in by_rule r.0 r.1 r.2

  -- no name: where the text ceases to go along with one
  lost : (p : ℕ) → named xs text ≡ Err p → Misfit (Named rs) text p
  lost p e =
      let h = law.refused text p e in
      let within : p ≤ length text = omega (arith, h.1.0, length-map text upper) in
      record {
        within = within;
        fits =
            λ _.
            let g = h.1.1 in
            let n = g.1.1 in
            let r = rule_of m g.0 g.1 g.2 in
            let rest = drop (length (take p (map upper text))) n in
            let is : map upper (take p text) ++ rest ≡ n = ap (λ l. l ++ rest) (sym (take-map upper p text)) ∙ sym (begins_front (take p (map upper text)) n g.3) in
            let spelt : Spelled n (take p text ++ rest) = subst (λ z. Spelled z (take p text ++ rest)) is (upper_spelled (take p text) rest) in (
              (take p text ++ rest) ++ [],
              follows_rule (any_rest rs) g.0 anything n (to_any rs g.0 (r.0, n) r.1) (take p text ++ rest) [] spelt (form.whatever []),
              ap (take p) (append_assoc (take p text) rest []) ∙ take_at (take p text) (rest ++ []) p (length-take-le p text within),
            );
        none =
            λ t nm a.
            let f = following (any_plain rs ∙ plains) nm in
            let n = f.rule.1 in
            let s = from_any rs f.place f.rule f.stands in
            let y = name_of m f.place (s.0, n) s.1 in
            let same : Agree (suc p) (map upper text) (n ++ map upper f.rest) = take-map upper (suc p) text ∙ ap (map upper) (sym a) ∙ sym (take-map upper (suc p) t) ∙ ap (take (suc p)) (following_upper f) in
            ⊎_elim
            (λ (l : p < length n).
            let front : take (suc p) (map upper text) ≡ take (suc p) n = same ∙ take-append-le (suc p) n (map upper f.rest) l in
            let more : p < length (map upper text) = omega (arith, ap length front, length-take (suc p) (map upper text), length-take (suc p) n) in
            let goes : begins (take (suc p) n) n ≡ true = subst (λ l. begins (take (suc p) n) l ≡ true) (take-append-drop (suc p) n) (front_begins (take (suc p) n) (drop (suc p) n)) in
            h.1.2 more (f.place, (y.0, n), y.1, rw front goes))
            (λ (l : length n ≤ p).
            let front : take (length n) (map upper text) ≡ n = agree_less (length n) (suc p) (map upper text) (n ++ map upper f.rest) (omega arith) same ∙ take_at n (map upper f.rest) (length n) refl in
            both_ways (begins n (map upper text)) (h.0 f.place (y.0, n) y.1) (take_begins n (map upper text) front))
            (cases_lt p (length n));
      }

  -- what a reader gives that goes by the name, with the place of what follows it counted from the end
  pub outcome : (reader : Result (N × List ℕ) ℕ → Result A Refusal) (whole : ℕ) → whole ≡ at + length text → ((y : N × List ℕ) → reader (Ok y) ≡ operand y.0 (whole - length y.1) y.1) → ((p : ℕ) → reader (Err p) ≡ Err (Name (at + p))) → Outcome (Named rs) (Ruled rs) at text (reader (named xs text))
  outcome reader whole e ok err = by (named xs text) refl
    where
      by : (r : Result (N × List ℕ) ℕ) → named xs text ≡ r → Outcome (Named rs) (Ruled rs) at text (reader r)
      by (Ok y) is =
          let f = law.found text y is in
          let n = f.1.1 in
          let place : whole - length (drop (length n) text) ≡ at + length n = omega (arith, length-drop (length n) text, inside f.0 f.1.0 n f.2 f.3) in
          let reads : reader (Ok y) ≡ operand f.1.0 (at + length n) (drop (length n) text) = ok y ∙ ap (λ (z : N × List ℕ). operand z.0 (whole - length z.1) z.1) f.4 ∙ ap (λ k. operand f.1.0 k (drop (length n) text)) place in
          subst (Outcome (Named rs) (Ruled rs) at text) (sym reads) (found f.0 f.1.0 n f.2 f.3)
      by (Err p) is = subst (Outcome (Named rs) (Ruled rs) at text) (sym (err p)) (nameless p refl (lost p is))

-- the same of a whole text
pub outcome_of : {N A : Type 0} {operand : N → ℕ → List ℕ → Result A Refusal} {xs : List (Row N)} {rs : List Rule} → Matched operand xs rs → all_plain rs ≡ true → Lawful xs → (text : List ℕ) (reader : Result (N × List ℕ) ℕ → Result A Refusal) → ((y : N × List ℕ) → reader (Ok y) ≡ operand y.0 (length text - length y.1) y.1) → ((p : ℕ) → reader (Err p) ≡ Err (Name p)) → Outcome (Named rs) (Ruled rs) 0 text (reader (named xs text))
outcome_of m plains law text reader ok err =
    outcome m plains law 0 text reader (length text) (sym (zero-add (length text))) ok (λ p. err p ∙ ap (λ k. Err (Name k)) (sym (zero-add p)))

-- what is made of the value does not matter
pub outcome_then : {A B : Type 0} {named right : List ℕ → Type 0} {at : ℕ} {text : List ℕ} {r : Result A Refusal} (f : A → B) → Outcome named right at text r → Outcome named right at text (then r (λ a. Ok (f a)))
outcome_then f (nameless q e m) = nameless q e m
outcome_then f (not_valid n w) = not_valid n w
outcome_then f (judged n j) = judged n (judged_then (λ a. Ok (f a)) j (λ a. value))

-- the same bytes u before the text
pub outcome_after : {A : Type 0} {named right named' right' : List ℕ → Type 0} (u bs : List ℕ) {r : Result A Refusal} → Follows named' named u bs → Follows right' right u bs → Outcome named right (length u) bs r → Outcome named' right' 0 (u ++ bs) r
outcome_after u bs f g (nameless q e m) = nameless (length u + q) (omega arith) (misfit_after u bs f q m)
outcome_after {right = right} u bs f g (not_valid n w) = not_valid (f.into bs n) (λ x. let o = g.out (u ++ bs) x refl in w (subst right (append_cancel_left u _ _ (sym o.1)) o.2))
outcome_after u bs f g (judged n j) = judged (f.into bs n) (judged_after u bs (u ++ bs) refl refl g (rw (zero-add (length u)) j))
