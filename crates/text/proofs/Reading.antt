-- Numbers as they are typed and written are read. Assumes nothing.
use Rattle.std.proofs.Common.{◌≡◌, ℕ, suc, ◌+◌, ◌-◌, ◌*◌, ◌^◌, ◌<◌, ◌≤◌, Bool, true, false, cond, eqb, ltb, leb, List, [], ◌∷◌, ◌++◌, length, drop, ℤ, pos, negsuc, Some, None, Ok, Option, Result, sym, refl, ap, ◌∙◌, append-nil, add-zero, arith, length-append, rules}
use Rattle.std.specs.Str.{all_ascii_digits}
use Rattle.std.proofs.lemmas.Fmt.{digits_decimal, digits_value-decimal, length-decimal-le, decimal_nonempty}
use Rattle.std.proofs.lemmas.List.{drop_at}
use Rattle.std.proofs.lemmas.Str.Parse.{IsNumeralModel, numerals_by_fold, tells_all_ascii_digits}
use Rattle.std.proofs.lemmas.Bool.{or_parts, lt-leb, lt-ltb, eq-eqb, ne_eqb}
use Rattle.std.proofs.lemmas.Bool.Decides.{nat_tests}
use Rattle.text.specs.declared.number.Number.{Number}
use Rattle.text.specs.declared.number.Scan.{Scan}
use Rattle.text.specs.Numbers.{digit, signs, negative, signed, start, longer, pointed, step, scanned, finished, reads}
use Rattle.text.specs.Typed.{Sign, none, plus, minus, mark, below, amount, fraction, Stops, Typed, RoundTrip}
use Rattle.text.specs.Writing.{digits, decimal}

module _ (point : Bool) (s : Scan) (b : ℕ) (bs : List ℕ) where
  by_step : (o : Option Scan) → step point s b ≡ o → scanned point s (b ∷ bs) ≡ elim o [ None ↦ s | Some t ↦ scanned point t bs ]
  by_step o e = ap (λ o. elim o [ None ↦ s | Some t ↦ scanned point t bs ]) e

cond_same : {X : Type 0} (b : Bool) (x : X) → cond b x x ≡ x
cond_same true x = refl
cond_same false x = refl

-- a number with digits after it
abbrev with_digits : Scan → List ℕ → Scan
with_digits s ds = record { end = s.end + length ds; digits = s.digits + length ds; value = amount s.value ds; whole = s.whole }

over_digits : (point : Bool) (s : Scan) (ds rest : List ℕ) → all_ascii_digits ds ≡ true → s.digits + length ds ≤ 10 → scanned point s (ds ++ rest) ≡ scanned point (with_digits s ds) rest
over_digits point s [] rest all few = λ i. scanned point (record { end = sym (add-zero s.end) i; digits = sym (add-zero s.digits) i; value = s.value; whole = s.whole }) rest
over_digits point s (d ∷ ds) rest all few =
    let is : digit d ≡ true = grind (arith, nat_tests) in
    let others : all_ascii_digits ds ≡ true = grind (arith, nat_tests) in
    let room : leb 10 s.digits ≡ false = grind (arith, nat_tests) in
    let taken : step point s d ≡ Some (longer s d) = rw (room, is) in
    let at : s.end + 1 + length ds ≡ s.end + suc (length ds) = omega arith in
    let more : s.digits + 1 + length ds ≡ s.digits + suc (length ds) = omega arith in
    by_step point s d (ds ++ rest) (Some (longer s d)) taken ∙ over_digits point (longer s d) ds rest others (omega arith) ∙ (λ i. scanned point (record { end = at i; digits = more i; value = amount (s.value * 10 + (d - 48)) ds; whole = s.whole }) rest)

stops : (point : Bool) (s : Scan) (rest : List ℕ) → Stops rest → scanned point s rest ≡ s
stops point s [] h = refl
stops point s (b ∷ bs) h =
    let no_digit : digit b ≡ false = (or_parts (digit b) (eqb b 46) h).0 in
    let no-point : eqb b 46 ≡ false = (or_parts (digit b) (eqb b 46) h).1 in
    by_step point s b bs None (rw (no_digit, no-point) (cond_same (leb 10 s.digits) None))

over_point : (s : Scan) (rest : List ℕ) → s.whole ≡ 0 → 0 < s.digits → s.digits < 10 → scanned true s (46 ∷ rest) ≡ scanned true (pointed s) rest
over_point s rest e some few =
    let room : leb 10 s.digits ≡ false = lt-leb 10 s.digits few in
    let first : eqb s.whole 0 ≡ true = eq-eqb s.whole 0 e in
    let between : ltb 0 s.digits ≡ true = lt-ltb 0 s.digits some in
    by_step true s 46 rest (Some (pointed s)) (rw (room, first, between))

amount-append : (v : ℕ) (ds fs : List ℕ) → amount (amount v ds) fs ≡ amount v (ds ++ fs)
amount-append v [] fs = refl
amount-append v (d ∷ ds) fs = amount-append (v * 10 + (d - 48)) ds fs

-- the digits of a number whose sign has been read
module _ (minus : Bool) (at : ℕ) (ds rest : List ℕ) (all : all_ascii_digits ds ≡ true) (some : 0 < length ds) (ends : Stops rest) where
  whole : (point : Bool) → length ds ≤ 10 → finished minus (scanned point (start at) (ds ++ rest)) ≡ Ok (record { value = signed minus (amount 0 (ds ++ [])); places = 0; end = at + length (ds ++ []) })
  whole point few =
      let s = with_digits (start at) ds in
      let there : eqb (0 + length ds) 0 ≡ false = ne_eqb (0 + length ds) 0 (λ e. omega arith) in
      ap (finished minus) (over_digits point (start at) ds rest all (omega arith) ∙ stops point s rest ends)
      ∙ rw (there, append-nil)

  decimals : (f : ℕ) (fs : List ℕ) → all_ascii_digits (f ∷ fs) ≡ true → length ds + length (f ∷ fs) ≤ 10 → finished minus (scanned true (start at) (ds ++ (fraction (f ∷ fs) ++ rest))) ≡ Ok (record { value = signed minus (amount 0 (ds ++ (f ∷ fs))); places = length (f ∷ fs); end = at + length (ds ++ fraction (f ∷ fs)) })
  decimals f fs more few =
      let s = with_digits (start at) ds in
      let t = with_digits (pointed s) (f ∷ fs) in
      let there : eqb t.digits t.whole ≡ false = ne_eqb _ _ (λ e. omega arith) in
      let pt : eqb t.whole 0 ≡ false = ne_eqb _ _ (λ e. omega arith) in
      let far : t.end ≡ at + length (ds ++ fraction (f ∷ fs)) = simp length-append (omega arith) in
      let many : t.digits - t.whole ≡ length (f ∷ fs) = omega arith in
      ap (finished minus)
      (over_digits true (start at) ds (fraction (f ∷ fs) ++ rest) all (omega arith) ∙ over_point s ((f ∷ fs) ++ rest) refl (omega arith) (omega arith)
      ∙ over_digits true (pointed s) (f ∷ fs) rest more (omega arith)
      ∙ stops true t rest ends)
      ∙ rw (there, pt) (λ i. Ok (record { value = signed minus (amount-append 0 ds (f ∷ fs) i); places = many i; end = far i }))

  after_sign : (point : Bool) (fs : List ℕ) → all_ascii_digits fs ≡ true → length ds + length fs ≤ 10 → (0 < length fs → point ≡ true) → finished minus (scanned point (start at) (ds ++ (fraction fs ++ rest))) ≡ Ok (record { value = signed minus (amount 0 (ds ++ fs)); places = length fs; end = at + length (ds ++ fraction fs) })
  after_sign point [] more few on = whole point (omega arith)
  after_sign point (f ∷ fs) more few on = ap (λ p. finished minus (scanned p (start at) (ds ++ (fraction (f ∷ fs) ++ rest)))) (on (omega arith)) ∙ decimals f fs more few

no_sign : (ds rest : List ℕ) → all_ascii_digits ds ≡ true → 0 < length ds → (signs (ds ++ rest) ≡ 0) × (negative (ds ++ rest) ≡ false)
no_sign [] rest all some = absurd (omega arith)
no_sign (d ∷ ds) rest all some = let is : digit d ≡ true = grind (arith, nat_tests) in (grind (arith, nat_tests), grind (arith, nat_tests))

abbrev number : ℤ → ℕ → ℕ → Result Number ℕ
number v p n = Ok (record { value = v; places = p; end = n })

pub typed : Typed
unfolding reads
typed point none ds fs rest all more some few on ends =
    let bs = ds ++ (fraction fs ++ rest) in
    let first = no_sign ds (fraction fs ++ rest) all some in
    (λ i. finished (first.1 i) (scanned point (start (first.0 i)) (drop (first.0 i) bs))) ∙ after_sign false 0 ds rest all some ends point fs more few on ∙ ap (number _ (length fs)) (omega arith)
typed point plus ds fs rest all more some few on ends = after_sign false 1 ds rest all some ends point fs more few on ∙ ap (number _ (length fs)) (omega arith)
typed point minus ds fs rest all more some few on ends = after_sign true 1 ds rest all some ends point fs more few on ∙ ap (number _ (length fs)) (omega arith)

own : IsNumeralModel (λ ds. all_ascii_digits ds ≡ true) (amount 0)
own = numerals_by_fold _ tells_all_ascii_digits amount (search rules)

-- the digits that are written of a number
module _ (n : ℕ) (small : n < 10 ^ 10) (point : Bool) (sign : Sign) (rest : List ℕ) (ends : Stops rest) where
  written : reads point (mark sign ++ (digits n ++ rest)) ≡ Ok (record { value = signed (below sign) n; places = 0; end = length (mark sign ++ digits n) })
  written =
      let fits : n < 2 ^ 64 = omega arith in
      let few = length-decimal-le 10 n (omega arith) small fits in
      let plain = append-nil (digits n) in
      typed point sign (digits n) [] rest (digits_decimal own n fits) refl (decimal_nonempty n fits) (omega arith) (λ h. absurd (omega arith)) ends
      ∙ (λ i. Ok (record { value = signed (below sign) ((ap (amount 0) plain ∙ digits_value-decimal own n fits) i); places = 0; end = length (mark sign ++ plain i) }))

pub round_trip : RoundTrip
round_trip point (pos n) before rest small ends = ap (reads point) (drop_at before (digits n ++ rest) _ refl) ∙ written n small point none rest ends
round_trip point (negsuc n) before rest small ends = ap (reads point) (drop_at before (decimal (negsuc n) ++ rest) _ refl) ∙ written (suc n) small point minus rest ends
