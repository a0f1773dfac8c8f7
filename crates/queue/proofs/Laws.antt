-- What a user of the definitions may cite.
use Rattle.std.proofs.Common.{◌≡◌, false, List, [], ◌∷◌, ◌++◌, Ok, Err, refl, arith}
use Rattle.queue.specs.declared.entry.Entry.{Entry}
use Rattle.queue.specs.declared.entry.Batch.{Batch}
use Rattle.queue.specs.declared.axis.Refusal.{Refusal}
use Rattle.queue.specs.Entries.{listed, Aim, effect, effects}
use Rattle.queue.specs.Views.{View, lacks_places, lacks_count, verdict, extended, placed}

-- What lacks nothing is placed, and what is refused changes nothing.
pub verdict_ok : (v : View) (b : Batch) → lacks_places v b ≡ false → lacks_count v b ≡ false → verdict v b ≡ Ok tt
verdict_ok v b places count = grind arith

pub placed_ok : (v : View) (b : Batch) → verdict v b ≡ Ok tt → placed v b ≡ extended v (listed b)
placed_ok v b ok = rw ok

pub placed_refused : (v : View) (b : Batch) (r : Refusal) → verdict v b ≡ Err r → placed v b ≡ v
placed_refused v b r err = rw err

pub effects-append : (g : Aim) (es fs : List Entry) → effects g (es ++ fs) ≡ effects (effects g es) fs
effects-append g [] fs = refl
effects-append g (e ∷ es) fs = effects-append (effect g e) es fs
