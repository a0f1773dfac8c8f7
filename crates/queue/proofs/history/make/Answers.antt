use Rattle.std.proofs.Common.{arith}
use Rattle.queue.proofs.Loops.{kept_more, kept_all}
use Rattle.queue.proofs.history.make.Goals as goal

pub loop-step-preserved : goal.loop-step-preserved
loop-step-preserved c = (
  kept_more c.args.queue.now c.args.steps.now c.loop-step.queue c.made.new.queue c.loop-step.steps c.loop-step.step-index _ c.made.result
      (omega arith) c.made.ensures.says c.made.ensures.does c.loop-step.invariant.0,
  λ was. c.made.ensures.sound,
)

pub returns : goal.returns
returns c =
    let all = kept_all c.args.queue.now c.args.steps.now c.loop-step.queue c.loop-step.steps c.loop-step.step-index (omega arith) c.loop-step.invariant.0 in
    record { says = all.0; does = all.1; sound = c.loop-step.invariant.1 }
