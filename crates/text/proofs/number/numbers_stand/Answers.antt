use Rattle.text.proofs.Reading.{typed, round_trip}
use Rattle.text.proofs.number.numbers_stand.Goals as goal

pub returns : goal.returns
returns c = record { typed = typed; back = round_trip }
