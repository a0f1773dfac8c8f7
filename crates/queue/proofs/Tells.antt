-- The account of the sample histories.
use Rattle.std.proofs.Common.{[], ◌∷◌, map, length, get_or, refl, ap, arith}
use Rattle.std.proofs.lemmas.List.{length-map}
use Rattle.queue.specs.declared.history.Step.TheVariants.{Clear}
use Rattle.queue.specs.Samples.{places_two, takes_go, Telling}
use Rattle.queue.proofs.Stretches.{account}

pub telling : Telling
telling =
    record {
      right = account (places_two ∷ takes_go 1 ∷ Clear 1 ∷ places_two ∷ takes_go 3 ∷ []);
      taken_twice = λ a.
          let l = a.last [] (places_two ∷ takes_go 1 ∷ takes_go 1 ∷ []) refl tt (refl, (refl, (refl, tt))) in
          omega (arith, ap (λ hs. get_or (map (λ h. h.serial) hs) 1 0) l.1);
      misnumbered = λ a.
          let l = a.last [] (places_two ∷ takes_go 2 ∷ []) refl tt (refl, (refl, tt)) in
          omega (arith, ap (λ hs. get_or (map (λ h. h.serial) hs) 0 0) l.1);
      miscounted = λ a.
          let l = a.cleared [] (places_two ∷ takes_go 1 ∷ []) [] 2 refl tt (refl, (refl, tt)) in
          omega (arith, ap length l.1, l.2);
      lost = λ a.
          let l = a.last [] (places_two ∷ []) refl tt (refl, tt) in
          omega (arith, ap length l.1, ap length l.2, length-map l.0 (λ h. h.entry));
    }
