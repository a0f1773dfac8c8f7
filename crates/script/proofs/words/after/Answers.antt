use Rattle.std.proofs.lemmas.Slice.Eq.{strip_prefix_is}
use Rattle.script.proofs.Fronts.{stripped}
use Rattle.script.proofs.words.after.Goals as goal
use Rattle.std.proofs.lemmas.Bool.Decides.{Decides-eqb}

pub returns : goal.returns
returns c =
    let line = c.args.line.now in
    let front = c.args.front.now in
    stripped line front c.strip_prefix.result (strip_prefix_is Decides-eqb line front c.strip_prefix.result c.strip_prefix.ensures.cases)
