use Rattle.std.proofs.Common.{◌++◌, vec_items, ap, ◌∙◌, ⊎_elim, inl, inr}
use Rattle.listing.specs.Printing.{row_line}
use Rattle.listing.proofs.Rows.{all_told, rows_are}
use Rattle.listing.proofs.output.print_rows.Goals as goal

pub returns : goal.returns
returns c =
    let left = c.loop-axis.axis-iterator in
    let ends = ⊎_elim (λ a. inl a.1.0) (λ b. inr b.1.0) c.in-None.ensures.steps in
    all_told row_line (vec_items c.loop-axis.out) (vec_items c.args.out.now) left.a.rest.now left.b.rest.now c.args.sheet.now ends c.loop-axis.invariant
    ∙ ap (λ l. vec_items c.args.out.now ++ l) (rows_are c.args.sheet.now)
