-- What always holds of an axis's queue.
use Rattle.std.specs.Prelude.{◌≡◌, ℕ, ◌≤◌, true, List, map, length, ℤ, Option}
use Rattle.queue.specs.declared.entry.Code.{Code}
use Rattle.queue.specs.Entries.{settled, taking, argument_count, ranged}
use Rattle.queue.specs.Views.{View, seen, command_places, argument_places, most_entries}

-- Of what its user sees.
pub record Sound (v : View) : Type 0 where
  pub few_entries : length v.entries ≤ command_places
  pub few_arguments : argument_count v.entries ≤ argument_places
  -- the waiting operands are counts
  pub in_place : ranged v.entries ≡ true
  -- and 0 where a code takes no argument
  pub settled_operands : map (λ e. (settled e).operand) v.entries ≡ map (λ e. e.operand) v.entries
  -- what waits was taken in since arming
  pub waiting_counted : length v.entries ≤ v.count
  pub count_bounded : v.count ≤ most_entries

-- Of its two rings, its plan and its count.
pub record Tied (codes : List Code) (arguments : List ℤ) (p : Option ℤ) (n : ℕ) : Type 0 where
  -- there is one argument for each waiting code that takes one
  pub one_each : length arguments ≡ taking codes
  pub sound : Sound (seen codes arguments p n)
