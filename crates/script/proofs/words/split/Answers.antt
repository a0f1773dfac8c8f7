use Rattle.std.proofs.Common.{◌<◌, length, sym, arith}
use Rattle.std.proofs.lemmas.List.{take_rest, length-drop}
use Rattle.std.proofs.lemmas.List.Quantifiers.{position-Some}
use Rattle.script.proofs.Splitting.{space, parted_at, parted_whole}
use Rattle.script.proofs.words.split.Goals as goal

pub returns-in-Some : goal.returns-in-Some
returns-in-Some c =
    let text = c.args.text.now in
    let i = c.in-Some.i in
    let within : i < length text = (position-Some space text i 0 (sym c.in-Some.ensures)).0 in
    rw take_rest record { value = parted_at text i c.in-Some.ensures; shorter = simp length-drop (omega arith) }

pub returns-in-None : goal.returns-in-None
returns-in-None c = record { value = parted_whole c.args.text.now c.in-None.ensures; shorter = tt }
