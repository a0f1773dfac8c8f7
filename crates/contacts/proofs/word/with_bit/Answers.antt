use Rattle.std.proofs.Common.{rules}
use Rattle.contacts.proofs.WordLaws.{bit_written}
use Rattle.contacts.proofs.Masks.{made_by_or, cleared_by_and}
use Rattle.contacts.proofs.word.with_bit.Goals as goal

pub returns-then-level : goal.returns-then-level
returns-then-level c = search (rules, made_by_or 16, bit_written)

pub returns-else-level : goal.returns-else-level
returns-else-level c = search (rules, cleared_by_and 16, bit_written)
