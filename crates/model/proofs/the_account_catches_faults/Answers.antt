-- One clause of the account fails for each fault.
use Rattle.model.proofs.Faults.{all_caught, right}
use Rattle.model.proofs.the_account_catches_faults.Goals as goal

pub returns : goal.returns
returns c = record { caught = all_caught; right = right }
