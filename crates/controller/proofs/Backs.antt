-- What is answered about positions reads back as the positions.
use Rattle.std.proofs.Common.{◌≡◌, ℕ, ◌+◌, ◌^◌, ◌<◌, Bool, true, false, ◌||◌, eqb, leb, List, [], ◌∷◌, ◌++◌, map, length, drop, ℤ, nat_abs, is_ok, Err, Result, sym, refl, ap, ◌∙◌, subst, append_assoc, arith}
use Rattle.std.proofs.Math.Seq.{drop-append-add}
use Rattle.text.specs.Numbers.{digit, reads}
use Rattle.text.specs.Writing.{decimal}
use Rattle.text.proofs.Reading.{round_trip}
use Rattle.drive.specs.declared.axis.Axis.{Axis}
use Rattle.drive.specs.Axes.{axes, index}
use Rattle.drive.specs.Drive.{Ops}
use Rattle.drive.specs.Laws.{Keeps}
use Rattle.command.specs.declared.request.Port.{Port}
use Rattle.model.specs.declared.row.Row.{Row}
use Rattle.model.specs.declared.refusal.Refusal.{Refusal}
use Rattle.model.specs.declared.refusal.Refusal.TheVariants.{Sheet, Answer}
use Rattle.model.specs.Controller.{Controller, Live, live, command, line, chosen_axes, reading, commanded, unless_short, call}
use Rattle.controller.specs.Backs.{ReadsAs, ReadBack}
use Rattle.controller.specs.Replies.{Did, block_after}
use Rattle.controller.proofs.Shorts.{position_small}

module _ (f : Axis → ℤ) (small : (a : Axis) → nat_abs (f a) < 10 ^ 10) where
  -- a number, a byte that ends it, and then what reads as the others
  reads_field : (a : Axis) (others : List Axis) (e : ℕ) (l rest : List ℕ) → (digit e || eqb e 46) ≡ false → ReadsAs f others (l ++ rest) → ReadsAs f (a ∷ others) ((decimal (f a) ++ (e ∷ l)) ++ rest)
  reads_field a others e l rest ends more =
      let same = append_assoc (decimal (f a)) (e ∷ l) rest in
      let after : l ++ rest ≡ drop (length (decimal (f a)) + 1) ((decimal (f a) ++ (e ∷ l)) ++ rest) =
      sym (ap (λ bs. drop (length (decimal (f a)) + 1) bs) same ∙ drop-append-add (decimal (f a)) (e ∷ (l ++ rest)) 1) in
      let P : List ℕ → Type 0 = λ bs. ReadsAs f others bs in (
        length (decimal (f a)),
        λ point. ap (reads point) same ∙ round_trip point (f a) [] (e ∷ (l ++ rest)) (small a) ends,
        subst P after more,
      )

  -- a line of numbers, whatever follows it
  reads_line : (xs : List Axis) (rest : List ℕ) → ReadsAs f xs (line (map f xs) ++ rest)
  reads_line [] rest = tt
  reads_line (a ∷ []) rest = reads_field a [] 10 [] rest refl tt
  reads_line (a ∷ b ∷ xs) rest = reads_field a (b ∷ xs) 44 (line (map f (b ∷ xs))) rest refl (reads_line (b ∷ xs) rest)

-- what was given back is no refusal
taken_only : {r : Result ℕ Refusal} (e : Refusal) → r ≡ Err e → is_ok r ≡ true → ⊥
taken_only e is ok = let f : false ≡ true = sym (ap is_ok is) ∙ ok in let z : ◌≡◌ {A = ℕ} 0 1 = cc in omega arith

module _ {S : Type 0} (o : Ops S) (keeps : Keeps o) (l : Live S) (port : Port) (text : List ℕ) {c : Controller S} {r : Result ℕ Refusal} {sheet sheet' : List Row} {block block' : List ℕ} where
  by_sizes : (full wide : Bool) → Did (unless_short full Sheet l (unless_short wide Answer l (commanded o l port text (reading l port text)))) c r sheet sheet' block block' → ReadBack o l port text r block'
  by_sizes false wide d s last is ok = absurd (taken_only Sheet d.says ok)
  by_sizes true false d s last is ok = absurd (taken_only Answer d.says ok)
  by_sizes true true d s last is ok =
      let f : Axis → ℤ = λ a. o.position l.machine.drive (index a) in
      let answer = d.answer ∙ ap (λ q. block_after (commanded o l port text q).outcome block) is in
      let P : List ℕ → Type 0 = λ bs. ReadsAs f (chosen_axes s) bs in
      subst P (sym answer) (reads_line f (position_small o l.machine keeps) (chosen_axes s) _)

  pub read_back : Did (call o (live l) (command port text sheet block)) c r sheet sheet' block block' → ReadBack o l port text r block'
  unfolding call
  read_back d = by_sizes (eqb (length sheet) axes) (leb 192 (length block)) d
