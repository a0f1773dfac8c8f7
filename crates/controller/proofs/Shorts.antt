-- What is answered and what is recorded is short enough.
use Rattle.std.proofs.Common.{◌≡◌, ℕ, ◌+◌, ◌*◌, ◌^◌, ◌<◌, ◌≤◌, List, [], ◌∷◌, map, length, ℤ, pos, nat_abs, Err, sym, ap, ◌∙◌, subst, ⊎_elim, arith, length-append}
use Rattle.std.proofs.lemmas.List.{length-take, take_all}
use Rattle.std.proofs.lemmas.Int.{ints}
use Rattle.std.proofs.lemmas.Bool.{cases_lt}
use Rattle.std.proofs.lemmas.Bool.Decides.{nat_tests}
use Rattle.text.proofs.Storing.{length-number}
use Rattle.drive.specs.declared.axis.Axis.{Axis}
use Rattle.drive.specs.Axes.{index, in_order}
use Rattle.drive.specs.Drive.{Ops}
use Rattle.drive.specs.Range.{InRange}
use Rattle.drive.specs.Laws.{Keeps}
use Rattle.drive.proofs.Indices.{index_small}
use Rattle.queue.specs.Views.{View, free}
use Rattle.command.specs.declared.request.Port.{Port}
use Rattle.command.specs.declared.request.Port.TheVariants.{M}
use Rattle.command.specs.declared.request.Selection.{Selection}
use Rattle.command.specs.declared.request.Selection.TheVariants.{One, All}
use Rattle.command.specs.declared.request.Refusal.{Refusal}
use Rattle.command.specs.declared.request.Refusal.TheVariants.{Length, Name, Mode, Form, Range}
use Rattle.command.specs.declared.request.Settings.{Settings}
use Rattle.command.specs.Requests.{recorded}
use Rattle.command.specs.Reading.{read}
use Rattle.model.specs.Machine.{Machine, at}
use Rattle.model.specs.Controller.{line, chosen_axes, noted}
use Rattle.answers.specs.Records.{kept}

line_short : (f : Axis → ℤ) → ((a : Axis) → nat_abs (f a) < 10 ^ 10) → (xs : List Axis) → length (line (map f xs)) ≤ 12 * length xs
line_short f small [] = omega arith
line_short f small (a ∷ xs) =
    let more = line_short f small xs in let one = length-number (f a) (small a) in simp length-append (omega arith)

recorded_within : (r : Refusal) (text : List ℕ) → length (recorded r text) ≤ length text
recorded_within Length text = omega arith
recorded_within (Name p) text = omega (arith, length-take (p + 1) text)
recorded_within Mode text = omega arith
recorded_within (Form p) text = omega (arith, length-take (p + 1) text)
recorded_within (Range p) text = omega arith

-- a refused text fits the first-error record
pub recorded_short : (port : Port) (s : Selection) (last : Axis) (ts : List Settings) (text : List ℕ) (r : Refusal) → Err r ≡ read port s last ts text → length (recorded r text) ≤ 160
unfolding read
recorded_short port s last ts text r e =
    ⊎_elim
    (λ (h : length text < 161). omega (arith, recorded_within r text))
    (λ h.
    let long : read port s last ts text ≡ Err Length = grind (arith, nat_tests) in
    let is : r ≡ Length = cc in
    let P : Refusal → Type 0 = λ x. length (recorded x text) ≤ 160 in
    subst P (sym is) (omega arith))
    (cases_lt (length text) 161)

in_range : {z : ℤ} → InRange z → nat_abs z < 10 ^ 10
in_range {z} h = omega (arith, ints)

-- what is asked of the selected axes
pub figures_short : (f : Axis → ℤ) → ((a : Axis) → nat_abs (f a) < 10 ^ 10) → (s : Selection) → length (line (map f (chosen_axes s))) ≤ 192
figures_short f small (One a) = omega (arith, line_short f small (a ∷ []))
figures_short f small All = omega (arith, line_short f small in_order)

module _ {S : Type 0} (o : Ops S) (m : Machine S) where
  pub position_small : Keeps o → (a : Axis) → nat_abs (o.position m.drive (index a)) < 10 ^ 10
  position_small keeps a = in_range (keeps.sound m.drive (index a) (index_small a)).position

  free_small : (q : View) → nat_abs (pos (free q)) < 10 ^ 10
  free_small q = omega arith

  pub places_small : (a : Axis) → nat_abs (pos (free (at (index a) m).queue)) < 10 ^ 10
  places_small a = free_small (at (index a) m).queue

-- a short text is kept whole
pub noted_short : (port : Port) (errors text : List ℕ) → port ≡ M → length text ≤ 160 → kept errors text ≡ noted port errors text
noted_short port [] text is h = take_all 160 text h ∙ ap (λ p. noted p [] text) (sym is)
noted_short port (b ∷ bs) text is h = ap (λ p. noted p (b ∷ bs) text) (sym is)
