-- What always holds of the axes' queues.
use Rattle.std.specs.Prelude.{ℕ, List, slice_index_or}
use Rattle.std.specs.Coded.{Coded-set, coded_bool, coded_list, coded_ℤ, le_prop}
use Rattle.queue.specs.Sound.{Sound}
use Rattle.queue.specs.Views.{View}
use Rattle.model.specs.Machine.{Post, blank}

-- The queue of each axis is sound.
abbrev pub AllSound : List Post → Type 0
AllSound posts = (k : ℕ) → Sound (slice_index_or posts k blank).queue

Sound-prop : (v : View) → IsProp (Sound v)
Sound-prop v s t = λ i. record {
  few_entries = le_prop s.few_entries t.few_entries i;
  few_arguments = le_prop s.few_arguments t.few_arguments i;
  in_place = Coded-set coded_bool _ _ s.in_place t.in_place i;
  settled_operands = Coded-set (coded_list coded_ℤ) _ _ s.settled_operands t.settled_operands i;
  waiting_counted = le_prop s.waiting_counted t.waiting_counted i;
  count_bounded = le_prop s.count_bounded t.count_bounded i;
}

pub AllSound-prop : (posts : List Post) → IsProp (AllSound posts)
AllSound-prop posts s t = λ i k. Sound-prop (slice_index_or posts k blank).queue (s k) (t k) i
