use Rattle.std.proofs.Common.{vec_items}
use Rattle.script.proofs.Reading.{Left}
use Rattle.script.proofs.numbers.read_numbers.Given as goal

abbrev pub invariant-loop-word : goal.invariant-loop-word
invariant-loop-word l = Left goal.iterator-loop-word.next_gives l.text l.word-iterator (vec_items l.numbers)
