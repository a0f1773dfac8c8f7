use Rattle.std.proofs.Common.{rules}
use Rattle.queue.proofs.Waits.{Tied-past}
use Rattle.queue.proofs.axis.AxisQueue.take.Goals as goal

pub invariant_of-self : goal.invariant_of-self
invariant_of-self c =
    let q = c.self.inside in
    Tied-past q.commands _ q.arguments _ q.plan q.count _ c.in_ok-head.head (search rules) (search rules) c.self.view_is (search rules) c.self.invariant

pub invariant_of-self-else-takes : goal.invariant_of-self-else-takes
invariant_of-self-else-takes c =
    let q = c.self.inside in
    Tied-past q.commands _ q.arguments _ q.plan q.count _ c.in_ok-head.head (search rules) (search rules) c.self.view_is (search rules) c.self.invariant

pub returns-then-takes-clause-sound : goal.returns-then-takes-clause-sound
returns-then-takes-clause-sound c =
    let q = c.self.inside in
    let left = Tied-past q.commands _ q.arguments _ q.plan q.count _ c.in_ok-head.head (search rules) (search rules) c.self.view_is (search rules) c.self.invariant in
    (c.head.ensures.sound, left.sound)
