-- The worked full cases, by computation.
use Rattle.std.proofs.Common.{[], ◌∷◌, refl, lit≤}
use Rattle.vs_net.specs.Network.{write_all, is_written, flatten}
use Rattle.vs_net.specs.Queue.{change, changes, is_held}
use Rattle.vs_design.specs.Clocks.{spare_clock}
use Rattle.vs_design.specs.Accepted.{IsAcceptedDesign}
use Rattle.vs_design.specs.ExampleSelects.{SelectsComputed, select, through, copied}

select_is_accepted : IsAcceptedDesign select []
unfolding write_all flatten
select_is_accepted = record {
  lawful = record { scopes = refl; numbered = refl; bits_numbered = refl; declared = refl; memories = refl; formed = refl; initials = refl; behind = refl; functions = refl; clocked_words = refl; few_bits = lit≤ tt; few_processes = lit≤ tt };
  fit = refl;
  fit_initials = refl;
  small = lit≤ tt;
  unmixed = refl;
  sensitive = refl;
  no_function_latch = refl;
  initial_form = refl;
  no_latch = refl;
  one_driver = refl;
  no_clash = refl;
  clocks = spare_clock select ∷ [];
  clocks_found = refl;
  clock_unread = refl;
  one_clock = refl;
  reset_forms = refl;
  no_cycle = refl;
  no_race = refl;
  awake = refl;
}

through_is_accepted : IsAcceptedDesign through []
unfolding write_all flatten
through_is_accepted = record {
  lawful = record { scopes = refl; numbered = refl; bits_numbered = refl; declared = refl; memories = refl; formed = refl; initials = refl; behind = refl; functions = refl; clocked_words = refl; few_bits = lit≤ tt; few_processes = lit≤ tt };
  fit = refl;
  fit_initials = refl;
  small = lit≤ tt;
  unmixed = refl;
  sensitive = refl;
  no_function_latch = refl;
  initial_form = refl;
  no_latch = refl;
  one_driver = refl;
  no_clash = refl;
  clocks = spare_clock through ∷ [];
  clocks_found = refl;
  clock_unread = refl;
  one_clock = refl;
  reset_forms = refl;
  no_cycle = refl;
  no_race = refl;
  awake = refl;
}

copied_is_accepted : IsAcceptedDesign copied []
unfolding write_all flatten
copied_is_accepted = record {
  lawful = record { scopes = refl; numbered = refl; bits_numbered = refl; declared = refl; memories = refl; formed = refl; initials = refl; behind = refl; functions = refl; clocked_words = refl; few_bits = lit≤ tt; few_processes = lit≤ tt };
  fit = refl;
  fit_initials = refl;
  small = lit≤ tt;
  unmixed = refl;
  sensitive = refl;
  no_function_latch = refl;
  initial_form = refl;
  no_latch = refl;
  one_driver = refl;
  no_clash = refl;
  clocks = spare_clock copied ∷ [];
  clocks_found = refl;
  clock_unread = refl;
  one_clock = refl;
  reset_forms = refl;
  no_cycle = refl;
  no_race = refl;
  awake = refl;
}

pub selects_computed : SelectsComputed
unfolding write_all is_written flatten change changes is_held
selects_computed = record {
  priority = refl;
  priority_splits = refl;
  but_zero = refl;
  crossed = refl;
  exact_unknown = refl;
  casez_unknown = refl;
  casez_free = refl;
  casex_free = refl;
  long_matches = refl;
  long_differs = refl;
  select_size = refl;
  select_as_it_stands = refl;
  select_lenient = refl;
  select_accepted = select_is_accepted;
  select_is = refl;
  select_selectors = refl;
  select_early = refl;
  select_late = refl;
  select_ends = refl;
  inverted_refused = refl;
  one_arm_refused = refl;
  joined_open = refl;
  through_accepted = through_is_accepted;
  through_ends = refl;
  half_open_refused = refl;
  copied_root = refl;
  copied_is = refl;
  copied_bits = refl;
  copied_accepted = copied_is_accepted;
  clocked_passes = refl;
  clocked_refused = refl;
}
