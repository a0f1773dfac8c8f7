use Rattle.std.proofs.Common.{◌∙◌, rules}
use Rattle.std.proofs.lemmas.Int.{to_z-of_z}
use Rattle.drive.proofs.Filling.{from_fn_each}
use Rattle.motors.proofs.Lifts.{same_bank}
use Rattle.drives.specs.Counting.{counting_start}
use Rattle.drives.proofs.counting.Counting.new.Goals as goal

pub returns : goal.returns
returns c =
    same_bank _ _ (c.new.ensures ∙ from_fn_each _ _ (counting_start c.args.rates.now c.args.starts.now) (λ i y q h k. search (rules, to_z-of_z)) _ c.from_fn.ensures.items)
