-- Every run keeps the account: what each call does to an axis, over the calls.
use Rattle.model.proofs.Calls.{new_accounted}
use Rattle.model.proofs.runs_keep_the_account.Goals as goal

pub returns : goal.returns
returns g c = λ s ks x inside. new_accounted g.D.Drive.ops g.met.D.Drive.keeps x inside s ks
