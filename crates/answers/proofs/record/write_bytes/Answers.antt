use Rattle.std.proofs.Common.{refl, ap, ◌∙◌, arith}
use Rattle.std.proofs.lemmas.List.{take_all}
use Rattle.text.specs.Writing.{over}
use Rattle.answers.proofs.Puts.{copy_more}
use Rattle.answers.proofs.record.write_bytes.Goals as goal

pub loop-i-init : goal.loop-i-init
loop-i-init c = refl

pub loop-i-preserved : goal.loop-i-preserved
loop-i-preserved c = c.store.ensures ∙ copy_more c.args.bytes.now c.args.block.now _ c.loop-i.i c.loop-i-test.true c.loop-i.invariant

pub returns : goal.returns
returns c = c.loop-i.invariant ∙ ap (λ l. over l c.args.block.now) (take_all c.loop-i.i c.args.bytes.now (omega arith))
