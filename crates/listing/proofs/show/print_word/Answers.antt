use Rattle.std.proofs.Common.{rules}
use Rattle.listing.proofs.Digits.{hex_word}
use Rattle.listing.proofs.show.print_word.Goals as goal

pub returns : goal.returns
returns c = search (rules, hex_word)
