use Rattle.std.proofs.Common.{rules}
use Rattle.std.proofs.lemmas.Bool.Decides.{Decides-at}
use Rattle.contacts.specs.Kills.{hit}
use Rattle.contacts.proofs.KillLaws.{hit_exactly}
use Rattle.contacts.proofs.Masks.{hit_by_mask}
use Rattle.contacts.proofs.kill.KillInputs.is_hit.Goals as goal

pub returns : goal.returns
unfolding hit
returns c = record {
  value = search (rules, hit_by_mask 16);
  exactly = Decides-at _ _ (search (rules, hit_by_mask 16)) (hit_exactly c.args.self c.args.word);
}
