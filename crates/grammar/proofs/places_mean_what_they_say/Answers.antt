use Rattle.grammar.proofs.Ports.{mount_law, set_law}
use Rattle.grammar.proofs.Addresses.{bench_law, bench_axis}
use Rattle.grammar.proofs.Showing.{shown}
use Rattle.grammar.proofs.places_mean_what_they_say.Goals as goal

pub returns : goal.returns
returns c =
    let typed = c.numbers_stand.ensures.typed in
    let mount = mount_law typed c.table_stands.ensures.apart in
    let bench = bench_law typed c.table_stands-2.ensures.apart in
    let set = set_law typed c.table_stands-3.ensures.apart in
    record { mount = mount; bench = bench; axis = bench_axis; set = set; examples = shown mount bench set }
