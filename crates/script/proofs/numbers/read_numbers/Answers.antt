use Rattle.std.proofs.Common.{eqb, rules}
use Rattle.std.proofs.lemmas.Iterator.Splits.{YieldsList-from_slice_split}
use Rattle.script.proofs.Reading.{begun, none_read, one_read, all_read}
use Rattle.script.proofs.numbers.read_numbers.Goals as goal

pub loop-word-init : goal.loop-word-init
loop-word-init c =
    let text = c.args.text.now in
    begun _ text _ c.new-numbers.ensures.items (YieldsList-from_slice_split _ (λ b. eqb b 32) text (search rules) (search rules) (search rules) (λ x b q k. (search rules, search rules))).runs

pub returns-in_default : goal.returns-in_default
returns-in_default c =
    none_read _ _ {t = c.next.new.self} c.loop-word.invariant c.in-Some.word c.in-Some.ensures.steps c.in_default.ensures

pub loop-word-preserved : goal.loop-word-preserved
loop-word-preserved c =
    one_read _ _ {t = c.next.new.self} c.loop-word.invariant c.in-Some.word c.in-Some.ensures.steps c.in-Some-number_of.number c.in-Some-number_of.ensures (search rules)

pub returns : goal.returns
returns c = all_read _ _ {t = c.next.new.self} c.loop-word.invariant c.in-None.ensures.steps
