use Rattle.std.proofs.Common.{◌++◌, vec_items, ap, ◌∙◌, ⊎_elim, inl, inr, arith}
use Rattle.listing.specs.Shows.{course_line}
use Rattle.listing.proofs.Rows.{all_told, axes_are}
use Rattle.listing.proofs.show.print_axes.Goals as goal

pub returns : goal.returns
returns c =
    let left = c.loop-axis.axis-iterator in
    let ends = ⊎_elim (λ a. inl a.1.0) (λ b. inr b.1.0) c.in-None.ensures.steps in
    all_told course_line (vec_items c.loop-axis.out) (vec_items c.args.out.now) left.a.rest.now left.b.rest.now c.args.courses.now ends c.loop-axis.invariant
    ∙ ap (λ l. vec_items c.args.out.now ++ l) (axes_are c.args.courses.now (omega arith))
