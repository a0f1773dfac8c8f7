-- The conditions of placing, tried one after the other, each over one axis after the other.
use Rattle.std.proofs.Common.{◌≡◌, ℕ, ◌+◌, ◌<◌, ◌≤◌, Bool, true, false, cond, List, length, get_or, drop, Some, None, Option, sym, ap, ◌∙◌, ap₂}
use Rattle.std.proofs.lemmas.List.{at_drop_more, at_drop_all}
use Rattle.drive.specs.declared.axis.Axis.{Axis}
use Rattle.queue.specs.declared.entry.Batch.{Batch}
use Rattle.model.specs.Machine.{Machine, Post, at}
use Rattle.model.specs.Controller.{Condition, fails_for, fails_at, barred}

module _ {S : Type 0} (m : Machine S) (batches : ℕ → Option Batch) where
  module _ (c : Condition) (axs : List Axis) (i : ℕ) (d : Axis) (h : i < length axs) where
    abbrev here : Axis
    here = get_or axs i d

    pub axis_fails : true ≡ fails_at m batches c here → barred m batches c (drop i axs) ≡ Some (c.refusal here)
    unfolding barred
    axis_fails is = at_drop_more (barred m batches c) axs i d h ∙ ap (λ b. cond b (Some (c.refusal here)) (barred m batches c (drop (i + 1) axs))) (sym is)

    pub axis_passes : false ≡ fails_at m batches c here → barred m batches c (drop (i + 1) axs) ≡ barred m batches c (drop i axs)
    unfolding barred
    axis_passes is = ap (λ b. cond b (Some (c.refusal here)) (barred m batches c (drop (i + 1) axs))) is ∙ sym (at_drop_more (barred m batches c) axs i d h)

  -- What the condition says of an axis on which a batch is placed, or none.
  module _ (c : Condition) (k : ℕ) where
    pub placed_fails : (v : Bool) (b : Batch) (p : Post) → Some b ≡ batches k → p ≡ at k m → v ≡ c.fails p b → v ≡ fails_for c (at k m) (batches k)
    placed_fails v b p placed here is = is ∙ ap₂ (fails_for c) here placed

    pub unplaced_passes : None ≡ batches k → false ≡ fails_for c (at k m) (batches k)
    unplaced_passes is = ap (fails_for c (at k m)) is

  pub axes_pass : (c : Condition) (axs : List Axis) (i : ℕ) → length axs ≤ i → barred m batches c (drop i axs) ≡ None
  unfolding barred
  axes_pass c axs i h = at_drop_all (barred m batches c) axs i h
