use Rattle.std.proofs.Common.{◌≡◌, [], ◌∷◌, ◌++◌, length, set, sym, ap, ◌∙◌, zero-add}
use Rattle.text.specs.Writing.{over}
use Rattle.text.proofs.Storing.{put-push}
use Rattle.answers.proofs.record.ErrorRecord.write.Goals as goal

pub returns-clause-block : goal.returns-clause-block
returns-clause-block c =
    let bs = c.as_slice-bytes.result.now in
    let block = c.args.block.now in
    let held : bs ≡ c.args.self.now = c.as_slice-bytes.ensures.value ∙ c.self.view_is in
    c.store.ensures
    ∙ ap (λ l. set l (length bs) 10) c.write_bytes.ensures
    ∙ ap (λ k. set (over bs block) k 10) (sym (zero-add (length bs)))
    ∙ put-push 0 bs 10 block
    ∙ ap (λ l. over (l ++ (10 ∷ [])) block) held
