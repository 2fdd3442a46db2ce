-- The worked memories, by computation.
use Rattle.std.proofs.Common.{[], ◌∷◌, refl, lit≤}
use Rattle.vs_net.specs.Network.{write_all, is_written, flatten}
use Rattle.vs_net.specs.Queue.{change, changes, is_held}
use Rattle.vs_design.specs.Accepted.{IsAcceptedDesign}
use Rattle.vs_design.specs.ExampleParts.{clk, clk_signal}
use Rattle.vs_design.specs.ExampleMemories.{MemoriesComputed, store}

store_is_accepted : IsAcceptedDesign store clk
store_is_accepted = record {
  lawful = record { scopes = refl; numbered = refl; bits_numbered = refl; declared = refl; memories = refl; formed = refl; initials = refl; behind = refl; functions = refl; clocked_words = refl; few_bits = lit≤ tt; few_processes = lit≤ tt };
  fit = refl;
  fit_initials = refl;
  small = lit≤ tt;
  unmixed = refl;
  sensitive = refl;
  no_function_latch = refl;
  initial_form = refl;
  no_latch = refl;
  one_driver = refl;
  no_clash = refl;
  clocks = clk_signal ∷ [];
  clocks_found = refl;
  clock_unread = refl;
  one_clock = refl;
  reset_forms = refl;
  no_cycle = refl;
  no_race = refl;
  awake = refl;
}

pub memories_computed : MemoriesComputed
unfolding is_written write_all flatten is_held change changes
memories_computed = record {
  memory_length = refl;
  place_two = refl;
  place_unknown = refl;
  place_after = refl;
  place_negative = refl;
  place_least = refl;
  place_before = refl;
  word_width = refl;
  word_sign = refl;
  word_value = refl;
  out_of_range = refl;
  constant_reads = refl;
  none_read = refl;
  variable_reads = refl;
  constant_writes = refl;
  variable_writes = refl;
  written = refl;
  written_nowhere = refl;
  written_twice = refl;
  star_waits = refl;
  list_misses = refl;
  surely_there = refl;
  bit_by_bit = refl;
  maybe_outside = refl;
  surely_unknown = refl;
  constant_sets = refl;
  read_weight = refl;
  write_weight = refl;
  constant_weight = refl;
  unwritten_size = refl;
  no_name = refl;
  no_word = refl;
  no_event = refl;
  no_comb = refl;
  a_word = refl;
  most_words = refl;
  too_many_words = refl;
  store_size = refl;
  store_accepted = store_is_accepted;
  store_ends = refl;
  store_word = refl;
  nowhere_ends = refl;
  nowhere_word = refl;
}
