-- What is told of each refusal.
use Rattle.std.specs.Prelude.{ℕ}
use Rattle.drive.specs.declared.axis.Axis.{Axis}
use Rattle.drive.specs.Axes.{number}
use Rattle.command.specs.declared.request.Notice.{Notice}
use Rattle.command.specs.Requests.{notice}
use Rattle.model.specs.declared.refusal.Refusal.{Refusal}
use Rattle.model.specs.declared.refusal.Refusal.TheVariants.{Sheet, Answer, Readings, Text, Killed, Places, Count}

abbrev bare : ℕ → Notice
bare n = record { number = n; place = 0; axis = 0 }

abbrev blamed : ℕ → Axis → Notice
blamed n a = record { number = n; place = 0; axis = number a }

abbrev pub noticed : Refusal → Notice
noticed Sheet = bare 1
noticed Answer = bare 2
noticed Readings = bare 3
noticed (Text r) = notice r
noticed (Killed a) = blamed 9 a
noticed (Places a) = blamed 10 a
noticed (Count a) = blamed 11 a
