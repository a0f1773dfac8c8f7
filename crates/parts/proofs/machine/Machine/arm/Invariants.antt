use Rattle.std.proofs.Common.{◌≡◌, ◌++◌, map, take, drop}
use Rattle.model.specs.Controller.{armed}
use Rattle.parts.specs.Bounds.{AllSound}
use Rattle.parts.proofs.machine.Machine.arm.Given as goal

abbrev pub invariant-loop-post : goal.invariant-loop-post
invariant-loop-post g l =
    (l.post-items ≡ map (armed l.word) (take l.post-index l.initial.post-items) ++ drop l.post-index l.initial.post-items)
    × AllSound l.post-items
