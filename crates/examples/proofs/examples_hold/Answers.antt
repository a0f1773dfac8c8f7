-- Both sides compute to the same, for all examples at once.
use Rattle.std.proofs.Common.{refl}
use Rattle.std.specs.Fmt.{digits}
use Rattle.text.specs.Numbers.{reads}
use Rattle.names.specs.Tables.{named}
use Rattle.names.specs.Mount.{mount_names}
use Rattle.names.specs.Bench.{bench_names}
use Rattle.names.specs.Setting.{setting_names}
use Rattle.contacts.specs.Kills.{hit, hit_below}
use Rattle.drive.specs.Axes.{axes, each as each_axis}
use Rattle.command.specs.Fields.{fields}
use Rattle.command.specs.Reading.{read, read_setting}
use Rattle.model.specs.Machine.{each, placing}
use Rattle.model.specs.Controller.{barred, barring, call, new}
use Rattle.examples.proofs.examples_hold.Goals as goal

pub returns : goal.returns
unfolding axes each_axis each placing barred barring call new read read_setting named mount_names bench_names setting_names reads digits fields hit hit_below
returns c = refl
