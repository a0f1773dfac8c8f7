use Rattle.std.proofs.Common.{◌≡◌, refl}
use denote.Enum.Declared.{tag_of}
use Rattle.parts.specs.contracts.rows.Kind.{the_type}
use Rattle.parts.specs.declared.rows.Kind.{Kind}
use Rattle.parts.specs.declared.rows.Kind.TheVariants.{Nothing, Accepted, Executed, InMotion, Awaiting, DriveDown, Killed, ByCommand, BySample, ByReach}
use Rattle.parts.specs.Kinds.{number}
use Rattle.parts.proofs.rows.Kind.number.Goals as goal

tags : (k : Kind) → tag_of the_type k ≡ number k
tags Nothing = refl
tags Accepted = refl
tags Executed = refl
tags InMotion = refl
tags Awaiting = refl
tags DriveDown = refl
tags Killed = refl
tags ByCommand = refl
tags BySample = refl
tags ByReach = refl

pub returns : goal.returns
returns c = tags c.args.self
