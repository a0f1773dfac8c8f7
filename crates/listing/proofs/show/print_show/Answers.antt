use Rattle.listing.specs.Shows.{word_line}
use Rattle.listing.proofs.Adding.{adds_more}
use Rattle.listing.proofs.show.print_show.Goals as goal

pub returns : goal.returns
returns c =
    adds_more c.print_axes.result c.args.out.now c.print_word.new.out c.print_axes.new.out (word_line c.args.word) _ c.in_ok-print_word.ensures c.print_axes.ensures
