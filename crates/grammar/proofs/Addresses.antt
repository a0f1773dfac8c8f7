-- The places of refusals on port P, after the axis number. Assumes nothing.
use Rattle.std.proofs.Common.{◌≡◌, ℕ, zero, suc, ◌+◌, ◌-◌, ◌*◌, ◌<◌, ◌≤◌, Bool, true, false, cond, ◌&&◌, leb, ◌⊎◌, List, [], ◌∷◌, ◌++◌, length, get_or, take, drop, Some, None, Ok, Err, Option, Result, sym, refl, ap, subst, inl, inr, ⊎_elim, suc-add, arith, rules, length-append}
use lib.Seq.{drop-append_seam}
use Rattle.std.specs.Option.{option_map, ok_or}
use Rattle.std.proofs.lemmas.Option.{slice_get-get_or, slice_get_past}
use Rattle.std.proofs.lemmas.Bool.{and_parts, cases_lt, cond_both}
use Rattle.std.proofs.lemmas.Bool.Decides.{nat_tests}
use Rattle.drive.specs.declared.axis.Axis.{Axis}
use Rattle.drive.specs.declared.axis.Axis.TheVariants.{X}
use Rattle.drive.specs.Axes.{axes, in_order}
use Rattle.names.specs.declared.bench.BenchName.{BenchName}
use Rattle.names.specs.Tables.{named}
use Rattle.names.specs.Laws.{Apart, Lawful}
use Rattle.names.specs.Bench.{bench_names}
use Rattle.names.proofs.Lawful.{apart_is_lawful}
use Rattle.text.specs.Numbers.{digit}
use Rattle.text.specs.Typed.{Typed}
use Rattle.command.specs.declared.request.Command.{Command}
use Rattle.command.specs.declared.request.Refusal.{Refusal}
use Rattle.command.specs.declared.request.Refusal.TheVariants.{Length, Name}
use Rattle.command.specs.Fields.{then}
use Rattle.command.specs.Bench.{digit_at, numbered, addressed, by_digits, address, asked, after_name, to_address}
use Rattle.command.specs.Reading.{fits, read}
use Rattle.grammar.specs.Forms.{Digit, Digits, Rule, Ruled, here, there, Named, AxisNumber, Addressed, on_bench, RightBench}
use Rattle.grammar.specs.Forms as form
use Rattle.grammar.specs.Law.{Begun, Undigited, OnBench, OffBench, Meaning}
use Rattle.grammar.proofs.Fronts.{Agree, agree_less, Follows}
use Rattle.grammar.proofs.Scanning.{is_digit}
use Rattle.grammar.proofs.Shapes.{reads_bare, reads_then, reads_moving}
use Rattle.grammar.proofs.Rules.{Matched, done, row, Outcome, outcome, outcome_after, ruled_named, first_rule}
use Rattle.grammar.proofs.Meanings.{meaning, meant}

-- a name that begins with no digit
abbrev lettered : List ℕ → Bool
lettered [] = false
lettered (n ∷ ns) = leb 58 n

abbrev all_lettered : List Rule → Bool
all_lettered [] = true
all_lettered (r ∷ rs) = lettered r.1 && all_lettered rs

spelled_undigited : (n w v : List ℕ) → lettered n ≡ true → form.Spelled n w → Undigited (w ++ v)
spelled_undigited [] w v h sp = grind arith
spelled_undigited (n ∷ ns) [] v h sp = absurd sp
spelled_undigited (n ∷ ns) (b ∷ w) v h sp = grind (arith, nat_tests)

ruled_undigited : {rs : List Rule} {t : List ℕ} → all_lettered rs ≡ true → Ruled rs t → Undigited t
ruled_undigited h (here s n rs w v sp sh) = spelled_undigited n w v (and_parts (lettered n) (all_lettered rs) h).0 sp
ruled_undigited h (there r rs t x) = ruled_undigited (and_parts (lettered r.1) (all_lettered rs) h).1 x

axis_digits : (n : List ℕ) → AxisNumber n → Digits n
axis_digits n h = grind arith

-- a digit where none stands
not_there : (d : ℕ) (t v : List ℕ) → Digit d → Undigited v → Agree 1 (d ∷ t) v → ⊥
not_there d t [] h u a = cc
not_there d t (b ∷ v) h u a = grind arith

-- texts that go along past their leading digits have the same
same_digits : (n m v w : List ℕ) → Digits n → Digits m → Undigited v → Undigited w → Agree (length n + 1) (m ++ w) (n ++ v) → m ≡ n
same_digits [] [] v w hn hm uv uw a = refl
same_digits [] (d ∷ m) v w hn hm uv uw a = let k = not_there d (m ++ w) v in grind arith
same_digits (d ∷ n) [] v w hn hm uv uw a =
    absurd (not_there d (n ++ v) w hn.0 uw (sym (agree_less 1 (suc (length n) + 1) w (d ∷ (n ++ v)) (omega arith) a)))
same_digits (d ∷ n) (e ∷ m) v w hn hm uv uw a = let k = same_digits n m v w in grind (arith, suc-add)

module _ (L : List ℕ → Type 0) (some : Begun L []) (plain : (v : List ℕ) → L v → Undigited v) (n v : List ℕ) (an : AxisNumber n) (u : Undigited v) where
  out : {t : List ℕ} → Addressed L t → Agree (length n + 1) t (n ++ v) → (w : List ℕ) × (t ≡ n ++ w) × L w
  out (form.addressed m w am l) a = (w, ap (λ k. k ++ w) (same_digits n m v w (axis_digits n an) (axis_digits m am) u (plain w l) a), l)

  follows_number : Follows (Addressed L) L n v
  follows_number = record { some = λ _. some; into = λ w l. form.addressed n w an l; out = λ t x a. out x a }

-- The type of what an option holds, and so that of an axis with the number of its digits.
abbrev Inside : {A : Type 0} → Option A → Type 0
Inside {A} o = A

abbrev Address : Type 0
Address = Inside (address X [])

abbrev at_width : ℕ → Axis → Address
at_width w a = record { axis = a; width = w }

-- The axis that the leading digits of a text name, or none.
data Found (text : List ℕ) : Option Address → Type 0 where
  to : (n v : List ℕ) (a : Axis) → text ≡ n ++ v → AxisNumber n → Undigited v → Found text (Some (at_width (length n) a))
  nowhere : (Addressed Undigited text → ⊥) → Found text None

no_digit : (b : ℕ) → digit b ≡ false → Digit b → ⊥
no_digit b h d = grind (arith, nat_tests)

numbers : (m : ℕ) → ((a : Axis) × (numbered m ≡ Some a) × (1 ≤ m) × (m ≤ axes)) ⊎ ((numbered m ≡ None) × (1 ≤ m → m ≤ axes → ⊥))
unfolding axes
numbers zero = inr (refl, λ h _. omega arith)
numbers (suc i) =
    ⊎_elim
    (λ (l : i < length in_order). inl (get_or in_order i X, slice_get-get_or in_order i X l, omega arith, l))
    (λ (l : length in_order ≤ i). inr (slice_get_past in_order i l, λ _ h. omega arith))
    (cases_lt i (length in_order))

-- the digits n, which say the number m, and no digit after them
module _ (n v : List ℕ) (m : ℕ) (ds : Digits n) (u : Undigited v) (valid : 1 ≤ m → m ≤ axes → AxisNumber n) (only : AxisNumber n → (1 ≤ m) × (m ≤ axes)) where
  beyond : {t : List ℕ} → (1 ≤ m → m ≤ axes → ⊥) → t ≡ n ++ v → Addressed Undigited t → ⊥
  beyond bad e (form.addressed k w an uw) =
      let same : k ≡ n = same_digits n k v w ds (axis_digits k an) u uw (ap (take (length n + 1)) e) in let r = only (subst AxisNumber same an) in bad r.0 r.1

  found_number : Found (n ++ v) (addressed (length n) m)
  found_number =
      let given : Option Axis → Type 0 = λ o. Found (n ++ v) (option_map (at_width (length n)) o) in
      ⊎_elim (λ c. subst given (sym c.1) (to n v c.0 refl (valid c.2 c.3) u)) (λ c. subst given (sym c.0) (nowhere (beyond c.1 refl))) (numbers m)

-- more digits than an axis number has
too_many : {t : List ℕ} (b c d : ℕ) (r : List ℕ) → Digit b → Digit c → Digit d → t ≡ b ∷ c ∷ d ∷ r → Addressed Undigited t → ⊥
too_many b c d r hb hc hd e (form.addressed [] w an u) = subst Undigited e u hb
too_many b c d r hb hc hd e (form.addressed (x ∷ []) w an u) = subst Undigited (ap (drop 1) e) u hc
too_many b c d r hb hc hd e (form.addressed (x ∷ y ∷ []) w an u) = subst Undigited (ap (drop 2) e) u hd
too_many b c d r hb hc hd e (form.addressed (x ∷ y ∷ z ∷ n) w an u) = absurd an

module _ (last : Axis) (b : ℕ) (hb : Digit b) where
  found_one : (text : List ℕ) → Undigited text → Found (b ∷ text) (addressed 1 (b - 48))
  found_one text u = found_number (b ∷ []) text (b - 48) (hb, tt) u (λ low high. (hb, low, high)) (λ an. (an.1, an.2))

  module _ (c : ℕ) (hc : Digit c) where
    found_two : (text : List ℕ) → Undigited text → Found (b ∷ c ∷ text) (addressed 2 ((b - 48) * 10 + (c - 48)))
    found_two text u = found_number (b ∷ c ∷ []) text ((b - 48) * 10 + (c - 48)) (hb, (hc, tt)) u (λ low high. (hb, hc, low, high)) (λ an. (an.2, an.3))

    third : (text : List ℕ) → Found (b ∷ c ∷ text) (by_digits last (Some (b - 48)) (Some (c - 48)) (digit_at text 0))
    third [] = found_two [] tt
    third (d ∷ text) =
        cond_both (digit d) (Some (d - 48)) None (λ o. Found (b ∷ c ∷ d ∷ text) (by_digits last (Some (b - 48)) (Some (c - 48)) o))
        (λ h. nowhere (too_many b c d text hb hc (is_digit d h) refl))
        (λ h. found_two (d ∷ text) (no_digit d h))

  second : (text : List ℕ) → Found (b ∷ text) (by_digits last (Some (b - 48)) (digit_at text 0) (digit_at text 1))
  second [] = found_one [] tt
  second (c ∷ text) =
      cond_both (digit c) (Some (c - 48)) None (λ o. Found (b ∷ c ∷ text) (by_digits last (Some (b - 48)) o (digit_at text 0)))
      (λ h. third c (is_digit c h) text)
      (λ h. found_one (c ∷ text) (no_digit c h))

found : (last : Axis) (text : List ℕ) → Found text (address last text)
found last [] = to [] [] last refl tt tt
found last (b ∷ text) =
    cond_both (digit b) (Some (b - 48)) None (λ o. Found (b ∷ text) (by_digits last o (digit_at text 0) (digit_at text 1)))
    (λ h. second last b (is_digit b h) text)
    (λ h. to [] (b ∷ text) last refl tt (no_digit b h))

named_too : {t : List ℕ} → RightBench t → Addressed (Named on_bench) t
named_too (form.addressed n v an r) = form.addressed n v an (ruled_named r)

undigited_too : {t : List ℕ} → RightBench t → Addressed Undigited t
undigited_too (form.addressed n v an r) = form.addressed n v an (ruled_undigited refl r)

unless_length : {A : Type 0} {r : Result A Refusal} (e : Refusal) (long : Bool) → (cond long r (Err Length) ≡ Err Length → ⊥) → r ≡ Err e → cond long r (Err Length) ≡ Err e
unless_length e true h is = is
unless_length e false h is = absurd (h refl)

refused : {text : List ℕ} {o : Option Address} → Found text o → (Addressed Undigited text → ⊥) → then (ok_or o (Name 0)) (to_address text) ≡ Err (Name 0)
refused (to n v a e an u) bad = absurd (bad (subst (Addressed Undigited) (sym e) (form.addressed n v an u)))
refused (nowhere h) bad = refl

module _ (law : Typed) (apart : Apart bench_names) where
  lawful : Lawful bench_names
  unfolding bench_names
  lawful = apart_is_lawful bench_names (omega arith) apart

  abbrev operand : Axis → BenchName → ℕ → List ℕ → Result Command Refusal
  operand a n at bs = then (asked n a at bs) (λ r. Ok (record { request = r; last = a }))

  matched : (a : Axis) → Matched (operand a) bench_names on_bench
  unfolding bench_names
  matched a = search (rules, done, row, reads_then, reads_bare, reads_moving law) depth 60

  some : Begun (Ruled on_bench) []
  some = first_rule form.absent

  module _ (n v : List ℕ) (a : Axis) (an : AxisNumber n) (u : Undigited v) where
    at_axis : Outcome (Addressed (Named on_bench)) RightBench 0 (n ++ v) (to_address (n ++ v) (at_width (length n) a))
    at_axis =
        subst (λ l. Outcome (Addressed (Named on_bench)) RightBench 0 (n ++ v) (after_name (n ++ v) (at_width (length n) a) (named bench_names l))) (sym (drop-append_seam n v))
        (outcome_after n v
        (follows_number (Named on_bench) (some.0, ruled_named some.1) (λ w x. ruled_undigited refl x) n v an u)
        (follows_number (Ruled on_bench) some (λ w x. ruled_undigited refl x) n v an u)
        (outcome (matched a) refl lawful (length n) v (after_name (n ++ v) (at_width (length n) a)) (length (n ++ v)) (length-append n v) (λ y. refl) (λ p. refl)))

  taken : {text : List ℕ} {o : Option Address} → Found text o → Addressed Undigited text → Meaning (Addressed (Named on_bench)) RightBench text (then (ok_or o (Name 0)) (to_address text))
  taken (to n v a e an u) given =
      subst (λ t. Meaning (Addressed (Named on_bench)) RightBench t (to_address t (at_width (length n) a))) (sym e)
      (meaning (some.0, form.addressed [] some.0 tt some.1) (λ t r. named_too r) (at_axis n v a an u))
  taken (nowhere bad) given = absurd (bad given)

  pub bench_law : OnBench
  unfolding read
  bench_law s last ts text given = meant (fits text) (taken (found last text) given)

pub bench_axis : OffBench
unfolding read
bench_axis s last ts text bad = (λ r. bad (undigited_too r), λ long. unless_length (Name 0) (fits text) long (refused (found last text) bad))
