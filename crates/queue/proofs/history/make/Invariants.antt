use Rattle.queue.specs.Sound.{Sound}
use Rattle.queue.proofs.Loops.{Kept}
use Rattle.queue.proofs.history.make.Given as goal

abbrev pub invariant-loop-step : goal.invariant-loop-step
invariant-loop-step l =
    Kept l.initial.queue l.initial.steps l.queue l.steps l.step-index × (Sound l.initial.queue → Sound l.queue)
