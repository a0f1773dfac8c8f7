use Rattle.names.proofs.Lawful.{apart_is_lawful}
use Rattle.names.proofs.apart_is_lawful.Goals as goal

pub returns : goal.returns
returns g c = apart_is_lawful
