use Rattle.std.proofs.Common.{◌≡◌, ℕ, List, ◌++◌, arith}
use Rattle.std.specs.Option.{option_or}
use Rattle.names.specs.Places.{lead}
use Rattle.names.specs.Mount.{selections, entries, clearings, questions, mount_names}
use Rattle.names.proofs.ByPlace.{lead_append}
use Rattle.names.proofs.mount.MountNameName.leading.Goals as goal

in_parts : (t : List ℕ) → lead mount_names t ≡ option_or (lead selections t) (option_or (lead entries t) (option_or (lead clearings t) (lead questions t)))
unfolding mount_names
in_parts t =
    rw (lead_append t selections (entries ++ clearings ++ questions), lead_append t entries (clearings ++ questions), lead_append t clearings questions)

pub returns : goal.returns
returns c = grind (arith, in_parts)
