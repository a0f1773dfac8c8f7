-- From what each axis's turn does to its axis, and that it spares the others.
use Rattle.model.proofs.Steps.{alone, decided}
use Rattle.model.proofs.steps_take_each_axis_alone.Goals as goal

pub returns : goal.returns
returns g c = record {
  alone = alone g.D.Drive.ops g.met.D.Drive.keeps;
  decided = decided g.D.Drive.ops g.E.Drive.ops g.met.D.Drive.keeps g.met.E.Drive.keeps;
}
