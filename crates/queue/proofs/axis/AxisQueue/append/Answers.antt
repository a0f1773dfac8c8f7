use Rattle.std.proofs.Common.{◌≡◌, [], ◌∷◌, ◌++◌, rules}
use Rattle.queue.proofs.Waits.{added_plain, added_more}
use Rattle.queue.proofs.axis.AxisQueue.append.Goals as goal

pub invariant_of-self : goal.invariant_of-self
invariant_of-self c =
    let q = c.self.inside in
    let more = added_more q.commands q.arguments q.plan q.count c.args.entry (search rules) c.self.invariant (rw c.self.view_is c.requires) in
    let arguments : c.push_back-then-takes_argument.new.self ≡ q.arguments ++ c.args.entry.operand ∷ [] = search rules in
    rw (arguments, c.push_back.ensures) more.1

pub returns-then-takes_argument : goal.returns-then-takes_argument
returns-then-takes_argument c =
    let q = c.self.inside in
    let more = added_more q.commands q.arguments q.plan q.count c.args.entry (search rules) c.self.invariant (rw c.self.view_is c.requires) in
    let arguments : c.push_back-then-takes_argument.new.self ≡ q.arguments ++ c.args.entry.operand ∷ [] = search rules in
    rw (arguments, c.push_back.ensures, ← c.self.view_is) (record { does = more.0; sound = more.1.sound })

pub invariant_of-self-else-takes_argument : goal.invariant_of-self-else-takes_argument
invariant_of-self-else-takes_argument c =
    let q = c.self.inside in
    let plain = added_plain q.commands q.arguments q.plan q.count c.args.entry (search rules) c.self.invariant (rw c.self.view_is c.requires) in
    rw c.push_back.ensures plain.1

pub returns-else-takes_argument : goal.returns-else-takes_argument
returns-else-takes_argument c =
    let q = c.self.inside in
    let plain = added_plain q.commands q.arguments q.plan q.count c.args.entry (search rules) c.self.invariant (rw c.self.view_is c.requires) in
    rw (c.push_back.ensures, ← c.self.view_is) (record { does = plain.0; sound = plain.1.sound })
