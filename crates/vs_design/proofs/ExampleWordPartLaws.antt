-- The worked parts of words, by computation.
use Rattle.std.proofs.Common.{[], ◌∷◌, refl, lit≤}
use Rattle.vs_net.specs.Network.{write_all, is_written, flatten}
use Rattle.vs_net.specs.Queue.{change, changes, is_held}
use Rattle.vs_design.specs.Accepted.{IsAcceptedDesign}
use Rattle.vs_design.specs.ExampleParts.{clk, clk_signal}
use Rattle.vs_design.specs.ExampleWordParts.{WordPartsComputed, lowest}

lowest_is_accepted : IsAcceptedDesign lowest clk
lowest_is_accepted = record {
  lawful = record { scopes = refl; numbered = refl; bits_numbered = refl; declared = refl; memories = refl; formed = refl; initials = refl; behind = refl; functions = refl; clocked_words = refl; few_bits = lit≤ tt; few_processes = lit≤ tt };
  fit = refl;
  fit_initials = refl;
  small = lit≤ tt;
  unmixed = refl;
  sensitive = refl;
  no_function_latch = refl;
  initial_form = refl;
  no_latch = refl;
  one_driver = refl;
  no_clash = refl;
  clocks = clk_signal ∷ [];
  clocks_found = refl;
  clock_unread = refl;
  one_clock = refl;
  reset_forms = refl;
  no_cycle = refl;
  no_race = refl;
  awake = refl;
}

pub word_parts_computed : WordPartsComputed
unfolding is_written write_all flatten is_held change changes
word_parts_computed = record {
  place_upper = refl;
  place_behind = refl;
  place_across = refl;
  place_nowhere = refl;
  part_width = refl;
  part_sign = refl;
  part_lower = refl;
  part_upper = refl;
  part_outside = refl;
  part_nowhere = refl;
  constant_reads = refl;
  index_reads = refl;
  address_reads = refl;
  constant_writes = refl;
  index_writes = refl;
  address_writes = refl;
  written = refl;
  written_inside = refl;
  written_nowhere = refl;
  assigned = refl;
  unassigned = refl;
  part_sets = refl;
  sure_sets = refl;
  maybe_outside = refl;
  address_weight = refl;
  index_weight = refl;
  both_weight = refl;
  constant_weight = refl;
  write_weight = refl;
  a_part = refl;
  no_memory = refl;
  other_range = refl;
  no_comb = refl;
  lowest_size = refl;
  lowest_accepted = lowest_is_accepted;
  lowest_ends = refl;
  lowest_word = refl;
}
