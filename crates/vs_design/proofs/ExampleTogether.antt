-- The worked designs in which memories, functions and blocking assignments meet, by computation.
use Rattle.std.proofs.Common.{[], ◌∷◌, refl, lit≤}
use Rattle.vs_net.specs.Network.{write_all, is_written, flatten}
use Rattle.vs_net.specs.Queue.{change, changes, is_held}
use Rattle.vs_design.specs.Accepted.{IsAcceptedDesign}
use Rattle.vs_design.specs.ExampleParts.{clk, clk_signal}
use Rattle.vs_design.specs.ExampleTogether.{TogetherComputed, stored}

stored_is_accepted : IsAcceptedDesign stored clk
unfolding write_all is_written flatten
stored_is_accepted = record {
  lawful = record { scopes = refl; numbered = refl; bits_numbered = refl; declared = refl; memories = refl; formed = refl; initials = refl; behind = refl; functions = refl; clocked_words = refl; few_bits = lit≤ tt; few_processes = lit≤ tt };
  fit = refl;
  fit_initials = refl;
  small = lit≤ tt;
  unmixed = refl;
  sensitive = refl;
  no_function_latch = refl;
  initial_form = refl;
  no_latch = refl;
  one_driver = refl;
  no_clash = refl;
  clocks = clk_signal ∷ [];
  clocks_found = refl;
  clock_unread = refl;
  one_clock = refl;
  reset_forms = refl;
  no_cycle = refl;
  no_race = refl;
  awake = refl;
}

pub together_computed : TogetherComputed
unfolding is_written write_all flatten is_held change changes
together_computed = record {
  of_word = refl;
  of_no_word = refl;
  at_called = refl;
  at_called_twice = refl;
  word_read = refl;
  words_read = refl;
  called_address = refl;
  block_reads = refl;
  call_weight = refl;
  known_sets = refl;
  unsure_sets = refl;
  no_own_memory = refl;
  no_outer_memory = refl;
  formed_function = refl;
  formed_call = refl;
  formed_address = refl;
  stepped_size = refl;
  stepped_free = refl;
  stepped_passes = record { widths = refl; blocks = refl; drivers = refl; clocks = refl; no_cycle = refl; races = refl; zero = refl };
  stepped_ends = refl;
  stepped_word = refl;
  raced_bits = refl;
  raced_races = refl;
  stored_size = refl;
  stored_accepted = stored_is_accepted;
  stored_ends = refl;
  stored_word = refl;
}
