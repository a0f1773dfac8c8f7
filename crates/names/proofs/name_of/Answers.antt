use Rattle.std.proofs.Common.{arith}
use Rattle.names.proofs.Rests.{lead_within}
use Rattle.names.proofs.name_of.Goals as goal

pub returns-clause-rest : goal.returns-clause-rest
returns-clause-rest g c = grind (arith, lead_within g.N.Name.table c.args.text.now)
