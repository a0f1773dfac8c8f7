use Rattle.std.proofs.Common.{None, rules}
use Rattle.controller.specs.Setups.{FactorBounded}
use Rattle.parts.proofs.Bounds.{each_put}
use Rattle.controller.proofs.setup.Setup.set_units.Goals as goal

pub invariant_of-self : goal.invariant_of-self
invariant_of-self c = each_put FactorBounded (record { units = None }) _ c.index.result _ c.self.invariant (search rules)

pub returns-clause-bounded : goal.returns-clause-bounded
returns-clause-bounded c = each_put FactorBounded (record { units = None }) _ c.index.result _ c.self.invariant (search rules)
