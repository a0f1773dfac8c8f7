use Rattle.std.proofs.Common.{set, sym, ap, ◌∙◌, arith}
use Rattle.std.proofs.lemmas.List.Edits.{map_over_more}
use Rattle.model.specs.Controller.{armed}
use Rattle.model.specs.Machine.{blank}
use Rattle.queue.specs.Sound.{Sound}
use Rattle.parts.proofs.Bounds.{each_put}
use Rattle.parts.proofs.machine.Machine.arm.Goals as goal

pub loop-post-preserved : goal.loop-post-preserved
loop-post-preserved g c = (
  ap (set c.loop-post.post-items c.loop-post.post-index) (c.arm.ensures.does ∙ ap (armed c.args.word) (sym c.post-item.is))
      ∙ map_over_more (armed c.args.word) c.args.self.now.posts _ _ c.post-item.result (omega arith) c.loop-post.invariant.0 c.post-item.is,
  each_put (λ p. Sound p.queue) blank _ c.loop-post.post-index _ c.loop-post.invariant.1 c.arm.ensures.sound.1,
)
