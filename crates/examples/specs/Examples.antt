-- The worked examples, and that they hold.
use Rattle.std.specs.Prelude.{◌≡◌, ℕ, List, [], ◌∷◌, ◌++◌, map, replicate, ℤ, pos, neg_ℤ, Some, None, codes, Option}
use Rattle.text.specs.Decimals.{Fixed}
use Rattle.drive.specs.declared.axis.Axis.{Axis}
use Rattle.drive.specs.declared.axis.Axis.TheVariants.{X, Y, Z}
use Rattle.queue.specs.declared.entry.Code.TheVariants.{Ma, Mr, Go}
use Rattle.queue.specs.declared.entry.Entry.{Entry}
use Rattle.command.specs.declared.request.Port.TheVariants.{M, P}
use Rattle.command.specs.declared.request.Selection.TheVariants.{One, All}
use Rattle.command.specs.declared.request.Refusal.TheVariants.{Name, Form, Range}
use Rattle.model.specs.declared.refusal.Refusal.{Refusal}
use Rattle.model.specs.declared.refusal.Refusal.TheVariants.{Text, Places}
use Rattle.model.specs.Rows.{nothing, accepted}
use Rattle.model.specs.Controller.{Call, set_call, arm, command, Outcome, refused, done, told, no_rows}
use Rattle.examples.specs.Played.{Line, Example, beside, played, written}

-- ---- a text on a port, with a sheet of eight rows and an answer block of 192 bytes

abbrev port_M : List ℕ → Call
port_M text = command M text no_rows (replicate 192 0)

abbrev port_P : List ℕ → Call
port_P text = command P text no_rows (replicate 192 0)

-- ---- a call and what it gives; where it is not refused, the error record is empty

abbrev gives : Call → Outcome → Line
gives k t = record { call = k; outcome = t; notice = None; errors = [] }

-- Set or Arm is taken.
abbrev taken : Call → Line
taken k = gives k done

-- All rows are of kind 0, and there is no answer.
abbrev selects : Call → Line
selects k = gives k (told no_rows [])

-- The row of the axis has kind 1 and this count, all others are of kind 0, and there is no answer.
abbrev places : Call → Axis → ℕ → Line
places k a n = gives k (told (beside nothing a (accepted n)) [])

-- All rows are of kind 0, and a line feed ends the answer.
abbrev answers : Call → List ℕ → Line
answers k bytes = gives k (told no_rows (bytes ++ (10 ∷ [])))

-- The refusal, its number, place and axis, and the error record after it.
abbrev refuses : Call → Refusal → ℕ → ℕ → ℕ → List ℕ → Line
refuses k r number place axis errors =
    record { call = k; outcome = refused r; notice = Some (record { number = number; place = place; axis = axis }); errors = errors }

-- ---- what waits on the eight axes

abbrev MA : ℤ → Entry
MA z = record { code = Ma; operand = z }

abbrev MR : ℤ → Entry
MR z = record { code = Mr; operand = z }

abbrev GO : Entry
GO = record { code = Go; operand = pos 0 }

-- The other queues are empty.
abbrev holds : Axis → List Entry → List (List Entry)
holds a es = beside [] a es

abbrev all_empty : List (List Entry)
all_empty = holds X []

-- ---- the examples

abbrev pub a_byte_that_begins_no_name : Example
a_byte_that_begins_no_name = record {
  lines =
      taken (arm 0)
      ∷ refuses (port_M (codes "##")) (Text (Name 1)) 5 1 0 (codes "##")
      ∷ answers (port_M (codes "#ER")) (codes "##")
      ∷ [];
  end = record { queues = all_empty; errors = []; selection = One X; last = X; units = None };
}

abbrev pub a_name_that_breaks_off : Example
a_name_that_breaks_off = record {
  lines = taken (arm 0) ∷ refuses (port_M (codes "M")) (Text (Name 1)) 5 1 0 (codes "M") ∷ [];
  end = record { queues = all_empty; errors = codes "M"; selection = One X; last = X; units = None };
}

abbrev pub a_list_that_passes_an_axis_over : Example
a_list_that_passes_an_axis_over = record {
  lines = taken (arm 0) ∷ selects (port_M (codes "AA")) ∷ places (port_M (codes "MR,100")) Y 1 ∷ [];
  end = record { queues = holds Y (MR (pos 100) ∷ []); errors = []; selection = All; last = X; units = None };
}

abbrev pub the_greatest_number : Example
the_greatest_number = record {
  lines = taken (arm 0) ∷ places (port_M (codes "MR2147483646")) X 1 ∷ [];
  end = record { queues = holds X (MR (pos 2147483646) ∷ []); errors = []; selection = One X; last = X; units = None };
}

abbrev pub one_more_than_the_greatest_number : Example
one_more_than_the_greatest_number = record {
  lines = taken (arm 0) ∷ refuses (port_M (codes "MR2147483647")) (Text (Range 2)) 8 2 0 (codes "MR2147483647") ∷ [];
  end = record { queues = all_empty; errors = codes "MR2147483647"; selection = One X; last = X; units = None };
}

abbrev pub a_point_with_units_off : Example
a_point_with_units_off = record {
  lines = taken (arm 0) ∷ refuses (port_M (codes "MR1.5")) (Text (Form 3)) 7 3 0 (codes "MR1.") ∷ [];
  end = record { queues = all_empty; errors = codes "MR1."; selection = One X; last = X; units = None };
}

-- What UU2.5 sets: the digits without their point, and one of them after it.
abbrev two_and_a_half : Option Fixed
two_and_a_half = Some (record { value = pos 25; places = 1 })

-- 1.1 × 2.5 = 2.75
abbrev pub rounding_to_the_nearest : Example
rounding_to_the_nearest = record {
  lines = taken (set_call (codes "UU2.5")) ∷ taken (arm 0) ∷ places (port_M (codes "MR1.1")) X 1 ∷ [];
  end = record { queues = holds X (MR (pos 3) ∷ []); errors = []; selection = One X; last = X; units = two_and_a_half };
}

-- −0.2 × 2.5 = −0.5
abbrev pub a_half_below_zero_goes_away_from_zero : Example
a_half_below_zero_goes_away_from_zero = record {
  lines = taken (set_call (codes "UU2.5")) ∷ taken (arm 0) ∷ places (port_M (codes "MR-0.2")) X 1 ∷ [];
  end = record { queues = holds X (MR (neg_ℤ (pos 1)) ∷ []); errors = []; selection = One X; last = X; units = two_and_a_half };
}

abbrev pub a_bench_command_with_no_number : Example
a_bench_command_with_no_number = record {
  lines = taken (arm 0) ∷ places (port_P (codes "3PR")) Z 2 ∷ [];
  end = record { queues = holds Z (MR (pos 0) ∷ GO ∷ []); errors = []; selection = One X; last = Z; units = None };
}

abbrev pub a_bench_axis_that_is_not_there : Example
a_bench_axis_that_is_not_there = record {
  lines = taken (arm 0) ∷ refuses (port_P (codes "9PR5")) (Text (Name 0)) 5 0 0 [] ∷ [];
  end = record { queues = all_empty; errors = []; selection = One X; last = X; units = None };
}

abbrev pub more_counts_than_the_bench_takes : Example
more_counts_than_the_bench_takes = record {
  lines = taken (arm 0) ∷ refuses (port_P (codes "1PR1000000001")) (Text (Range 3)) 8 3 0 [] ∷ [];
  end = record { queues = all_empty; errors = []; selection = One X; last = X; units = None };
}

abbrev pub a_ninth_field : Example
a_ninth_field = record {
  lines =
      taken (arm 0)
      ∷ selects (port_M (codes "AA"))
      ∷ refuses (port_M (codes "MA1,2,3,4,5,6,7,8,9")) (Text (Form 17)) 7 17 0 (codes "MA1,2,3,4,5,6,7,8,")
      ∷ [];
  end = record { queues = all_empty; errors = codes "MA1,2,3,4,5,6,7,8,"; selection = All; last = X; units = None };
}

abbrev pub argument_places_run_out_before_command_places : Example
argument_places_run_out_before_command_places = record {
  lines =
      taken (arm 0)
      ∷ replicate 64 (places (port_M (codes "MA1")) X 1)
      ++ (refuses (port_M (codes "MA1")) (Places X) 10 0 1 []
      ∷ answers (port_M (codes "RQC")) (codes "64")
      ∷ places (port_M (codes "GO")) X 1
      ∷ []);
  end = record { queues = holds X (replicate 64 (MA (pos 1)) ++ (GO ∷ [])); errors = []; selection = One X; last = X; units = None };
}

abbrev pub examples : List Example
examples =
    a_byte_that_begins_no_name
    ∷ a_name_that_breaks_off
    ∷ a_list_that_passes_an_axis_over
    ∷ the_greatest_number
    ∷ one_more_than_the_greatest_number
    ∷ a_point_with_units_off
    ∷ rounding_to_the_nearest
    ∷ a_half_below_zero_goes_away_from_zero
    ∷ a_bench_command_with_no_number
    ∷ a_bench_axis_that_is_not_there
    ∷ more_counts_than_the_bench_takes
    ∷ a_ninth_field
    ∷ argument_places_run_out_before_command_places
    ∷ []

-- On the calls of each, the defined controller gives what is written.
abbrev pub ExamplesHold : Type 0
ExamplesHold = map played examples ≡ map written examples
