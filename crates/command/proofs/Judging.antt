-- One turn of the judging of a list's fields. Assumes nothing.
use Rattle.std.proofs.Common.{◌≡◌, ℕ, ◌+◌, ◌<◌, ◌≤◌, List, length, get_or, take, drop, set, ℤ, None, Ok, Err, Option, Result, sym, ap, ◌∙◌, arith}
use Rattle.std.proofs.lemmas.List.{append-nil, at_drop_more, at_drop_all, length-set, take_all, take_more_set}
use Rattle.text.specs.Decimals.{Fixed}
use Rattle.drive.specs.declared.axis.Axis.TheVariants.{X}
use Rattle.drive.specs.Axes.{in_order, axes, index}
use Rattle.drive.proofs.Indices.{index_of}
use Rattle.command.specs.declared.request.Refusal.{Refusal}
use Rattle.command.specs.declared.request.Settings.{Settings}
use Rattle.command.specs.Requests.{Operands}
use Rattle.command.specs.Fields.{Fields, then, before}
use Rattle.command.specs.Operands.{units_of, operand, operands}
use Rattle.command.proofs.Fronts.{front, front_more}

-- The operands os are those of the fields fs as far as axis i.
pub record Judged (ts : List Settings) (fs : Fields) (i : ℕ) (os : Operands) : Type 0 where
  pub full : length os ≡ axes
  pub whole : front (take i os) (operands ts i (drop i fs)) ≡ operands ts 0 fs

module _ {ts : List Settings} {fs : Fields} {i : ℕ} {os : Operands} (g : Judged ts fs i os) where
  pub finished : length fs ≤ i → axes ≤ i → Ok os ≡ operands ts 0 fs
  finished h k =
      let all : os ≡ take i os = sym (take_all i os (omega (arith, g.full))) in
      ap (λ l. Ok l) (all ∙ sym (append-nil _)) ∙ sym (at_drop_all (λ l. front (take i os) (operands ts i l)) fs i h) ∙ g.whole

  -- the turn of the axis of index k
  module _ (h : i < length fs) (below : i < axes) {k : ℕ} (here : k ≡ index (get_or in_order i X)) {u : Option Fixed} (own : u ≡ units_of ts (index (get_or in_order i X))) where
    is_turn : k ≡ i
    is_turn = here ∙ index_of i X below

    -- what the fields give, by the operand that is judged next
    abbrev given : Result (Option ℤ) Refusal → Result Operands Refusal
    given r = front (take i os) (then r (λ o. before o (operands ts (i + 1) (drop (i + 1) fs))))

    turn : given (operand u (get_or fs k None)) ≡ operands ts 0 fs
    turn =
        rw (own, ← here, is_turn) (sym (at_drop_more (λ l. front (take i os) (operands ts i l)) fs i None h) ∙ g.whole)

    pub refused : (e : Refusal) → Err e ≡ operand u (get_or fs k None) → Err e ≡ operands ts 0 fs
    refused e is = ap given is ∙ turn

    pub taken : (o : Option ℤ) → Ok o ≡ operand u (get_or fs k None) → Judged ts fs (i + 1) (set os k o)
    taken o is =
        let inside : i < length os = omega (arith, g.full) in
        record {
          full = simp length-set g.full;
          whole = rw (is_turn, take_more_set) (sym (front_more (take i os) o _) ∙ ap given is ∙ turn);
        }
