use Rattle.std.proofs.Common.{◌∙◌}
use Rattle.text.specs.Numbers.{finished, reads}
use Rattle.text.proofs.number.read_number.Goals as goal

pub returns-clause-value : goal.returns-clause-value
unfolding reads
returns-clause-value c = c.number.ensures.value ∙ (λ i. finished (c.is_negative.ensures i) (c.scan_number.ensures.value i))
