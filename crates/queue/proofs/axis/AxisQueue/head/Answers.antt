use Rattle.std.proofs.Common.{◌≡◌, sym, ◌∙◌, arith}
use Rattle.std.proofs.lemmas.Option.{unwrap_or-slice_get}
use Rattle.queue.proofs.Waits.{argument, head_none, head_some}
use Rattle.queue.proofs.axis.AxisQueue.head.Goals as goal

pub returns-in_err-code-clause-says : goal.returns-in_err-code-clause-says
returns-in_err-code-clause-says c =
    let q = c.self.inside in
    rw (c.from_residual.ensures, ← c.self.view_is) (head_none q.commands q.arguments q.plan q.count (sym c.front.ensures ∙ c.in_err-code.was))

pub returns : goal.returns
returns c =
    let q = c.self.inside in
    let code = c.in_ok-code.code in
    let operand : c.if-takes_argument.operand ≡ argument code q.arguments = grind (arith, unwrap_or-slice_get) in
    let head = head_some q.commands q.arguments q.plan q.count code (sym c.front.ensures ∙ c.in_ok-code.was) c.self.invariant in
    rw (c.if-takes_argument.operand-is, operand, c.len.ensures.is, ← c.self.view_is) (record { says = head.0; ranged = head.1; sound = c.self.invariant.sound })
