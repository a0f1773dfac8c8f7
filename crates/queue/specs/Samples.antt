-- Histories that the account tells apart: one that calls on a new queue can give, and four that they cannot.
use Rattle.std.specs.Prelude.{ℕ, [], ◌∷◌, pos, Some, Ok}
use Rattle.queue.specs.declared.entry.Code.TheVariants.{Go}
use Rattle.queue.specs.declared.entry.Entry.{Entry}
use Rattle.queue.specs.declared.entry.Batch.TheVariants.{Two}
use Rattle.queue.specs.declared.history.Step.{Step}
use Rattle.queue.specs.declared.history.Step.TheVariants.{Place, Take, Clear}
use Rattle.queue.specs.Account.{Account}

abbrev pub go : Entry
go = record { code = Go; operand = pos 0 }

abbrev pub places_two : Step
places_two = Place (Two go go) (Ok tt)

abbrev pub takes_go : ℕ → Step
takes_go n = Take (Some (record { entry = go; serial = n }))

pub record Telling : Type 0 where
  pub right : Account (places_two ∷ takes_go 1 ∷ Clear 1 ∷ places_two ∷ takes_go 3 ∷ []) (go ∷ [])
  pub taken_twice : Account (places_two ∷ takes_go 1 ∷ takes_go 1 ∷ []) [] → ⊥
  pub misnumbered : Account (places_two ∷ takes_go 2 ∷ []) (go ∷ []) → ⊥
  pub miscounted : Account (places_two ∷ takes_go 1 ∷ Clear 2 ∷ []) [] → ⊥
  pub lost : Account (places_two ∷ []) (go ∷ []) → ⊥
