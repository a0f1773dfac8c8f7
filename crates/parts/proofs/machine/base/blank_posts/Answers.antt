use Rattle.std.proofs.Common.{rules}
use Rattle.parts.proofs.Loops.{each_same}
use Rattle.parts.proofs.machine.base.blank_posts.Goals as goal

pub returns : goal.returns
returns c = each_same _ _ _ _ c.from_fn.ensures.items (λ k p q x call. search rules)
