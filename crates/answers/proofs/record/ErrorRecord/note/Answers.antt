use Rattle.std.proofs.Common.{sym, ap, ◌∙◌}
use Rattle.answers.specs.Records.{kept}
use Rattle.answers.proofs.Puts.{kept_new}
use Rattle.answers.proofs.record.ErrorRecord.note.Goals as goal

pub returns-then-is_empty-clause-keeps : goal.returns-then-is_empty-clause-keeps
returns-then-is_empty-clause-keeps c =
    let grown = rw c.unwrap.ensures at c.try_extend_from_slice.ensures.ok in
    grown ∙ kept_new _ c.args.text.now _ (sym c.is_empty.ensures ∙ c.if-is_empty.true) c.min.ensures ∙ ap (λ l. kept l c.args.text.now) c.self.view_is
