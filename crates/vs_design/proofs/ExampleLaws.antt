-- The worked designs, by computation.
use Rattle.std.proofs.Common.{[], ◌∷◌, refl, lit≤}
use Rattle.vs_net.specs.Network.{write_all, is_written, flatten}
use Rattle.vs_net.specs.Queue.{change, changes, is_held}
use Rattle.vs_design.specs.Clocks.{spare_clock}
use Rattle.vs_design.specs.Accepted.{IsAcceptedDesign}
use Rattle.vs_design.specs.Cycles.{IsCycle, Feeds}
use Rattle.vs_design.specs.ExampleParts.{clk, clk_signal}
use Rattle.vs_design.specs.ExampleCalls.{CallsComputed, greatest}
use Rattle.vs_design.specs.ExampleDesigns.{DesignsComputed, and_gate, free_gate, counter, if_and_choice, three_registers, woken, set_once, chain, quiet, sleeper, never_run, resettable, reset_through_port, port, adder, clocked_instance, clock_alias, reset_alias, c0, e1, two_clocks, c_and_e, dead_clock_left, sum}
use Rattle.vs_design.specs.ExampleRefusals.{RefusalsComputed, loop}

and_gate_is_accepted : IsAcceptedDesign and_gate clk
and_gate_is_accepted = record {
  lawful = record { scopes = refl; numbered = refl; bits_numbered = refl; declared = refl; memories = refl; formed = refl; initials = refl; behind = refl; functions = refl; clocked_words = refl; few_bits = lit≤ tt; few_processes = lit≤ tt };
  fit = refl;
  fit_initials = refl;
  small = lit≤ tt;
  unmixed = refl;
  sensitive = refl;
  no_function_latch = refl;
  initial_form = refl;
  no_latch = refl;
  one_driver = refl;
  no_clash = refl;
  clocks = clk_signal ∷ [];
  clocks_found = refl;
  clock_unread = refl;
  one_clock = refl;
  reset_forms = refl;
  no_cycle = refl;
  no_race = refl;
  awake = refl;
}

free_gate_is_accepted : IsAcceptedDesign free_gate []
free_gate_is_accepted = record {
  lawful = record { scopes = refl; numbered = refl; bits_numbered = refl; declared = refl; memories = refl; formed = refl; initials = refl; behind = refl; functions = refl; clocked_words = refl; few_bits = lit≤ tt; few_processes = lit≤ tt };
  fit = refl;
  fit_initials = refl;
  small = lit≤ tt;
  unmixed = refl;
  sensitive = refl;
  no_function_latch = refl;
  initial_form = refl;
  no_latch = refl;
  one_driver = refl;
  no_clash = refl;
  clocks = spare_clock free_gate ∷ [];
  clocks_found = refl;
  clock_unread = refl;
  one_clock = refl;
  reset_forms = refl;
  no_cycle = refl;
  no_race = refl;
  awake = refl;
}

dead_clock_is_accepted : IsAcceptedDesign dead_clock_left []
dead_clock_is_accepted = record {
  lawful = record { scopes = refl; numbered = refl; bits_numbered = refl; declared = refl; memories = refl; formed = refl; initials = refl; behind = refl; functions = refl; clocked_words = refl; few_bits = lit≤ tt; few_processes = lit≤ tt };
  fit = refl;
  fit_initials = refl;
  small = lit≤ tt;
  unmixed = refl;
  sensitive = refl;
  no_function_latch = refl;
  initial_form = refl;
  no_latch = refl;
  one_driver = refl;
  no_clash = refl;
  clocks = spare_clock dead_clock_left ∷ [];
  clocks_found = refl;
  clock_unread = refl;
  one_clock = refl;
  reset_forms = refl;
  no_cycle = refl;
  no_race = refl;
  awake = refl;
}

free_and_is_accepted : IsAcceptedDesign and_gate []
free_and_is_accepted = record {
  lawful = record { scopes = refl; numbered = refl; bits_numbered = refl; declared = refl; memories = refl; formed = refl; initials = refl; behind = refl; functions = refl; clocked_words = refl; few_bits = lit≤ tt; few_processes = lit≤ tt };
  fit = refl;
  fit_initials = refl;
  small = lit≤ tt;
  unmixed = refl;
  sensitive = refl;
  no_function_latch = refl;
  initial_form = refl;
  no_latch = refl;
  one_driver = refl;
  no_clash = refl;
  clocks = spare_clock and_gate ∷ [];
  clocks_found = refl;
  clock_unread = refl;
  one_clock = refl;
  reset_forms = refl;
  no_cycle = refl;
  no_race = refl;
  awake = refl;
}

counter_is_accepted : IsAcceptedDesign counter clk
counter_is_accepted = record {
  lawful = record { scopes = refl; numbered = refl; bits_numbered = refl; declared = refl; memories = refl; formed = refl; initials = refl; behind = refl; functions = refl; clocked_words = refl; few_bits = lit≤ tt; few_processes = lit≤ tt };
  fit = refl;
  fit_initials = refl;
  small = lit≤ tt;
  unmixed = refl;
  sensitive = refl;
  no_function_latch = refl;
  initial_form = refl;
  no_latch = refl;
  one_driver = refl;
  no_clash = refl;
  clocks = clk_signal ∷ [];
  clocks_found = refl;
  clock_unread = refl;
  one_clock = refl;
  reset_forms = refl;
  no_cycle = refl;
  no_race = refl;
  awake = refl;
}

if_and_choice_is_accepted : IsAcceptedDesign if_and_choice clk
unfolding write_all flatten
if_and_choice_is_accepted = record {
  lawful = record { scopes = refl; numbered = refl; bits_numbered = refl; declared = refl; memories = refl; formed = refl; initials = refl; behind = refl; functions = refl; clocked_words = refl; few_bits = lit≤ tt; few_processes = lit≤ tt };
  fit = refl;
  fit_initials = refl;
  small = lit≤ tt;
  unmixed = refl;
  sensitive = refl;
  no_function_latch = refl;
  initial_form = refl;
  no_latch = refl;
  one_driver = refl;
  no_clash = refl;
  clocks = clk_signal ∷ [];
  clocks_found = refl;
  clock_unread = refl;
  one_clock = refl;
  reset_forms = refl;
  no_cycle = refl;
  no_race = refl;
  awake = refl;
}

three_registers_is_accepted : IsAcceptedDesign three_registers clk
three_registers_is_accepted = record {
  lawful = record { scopes = refl; numbered = refl; bits_numbered = refl; declared = refl; memories = refl; formed = refl; initials = refl; behind = refl; functions = refl; clocked_words = refl; few_bits = lit≤ tt; few_processes = lit≤ tt };
  fit = refl;
  fit_initials = refl;
  small = lit≤ tt;
  unmixed = refl;
  sensitive = refl;
  no_function_latch = refl;
  initial_form = refl;
  no_latch = refl;
  one_driver = refl;
  no_clash = refl;
  clocks = clk_signal ∷ [];
  clocks_found = refl;
  clock_unread = refl;
  one_clock = refl;
  reset_forms = refl;
  no_cycle = refl;
  no_race = refl;
  awake = refl;
}

woken_is_accepted : IsAcceptedDesign woken clk
unfolding write_all flatten
woken_is_accepted = record {
  lawful = record { scopes = refl; numbered = refl; bits_numbered = refl; declared = refl; memories = refl; formed = refl; initials = refl; behind = refl; functions = refl; clocked_words = refl; few_bits = lit≤ tt; few_processes = lit≤ tt };
  fit = refl;
  fit_initials = refl;
  small = lit≤ tt;
  unmixed = refl;
  sensitive = refl;
  no_function_latch = refl;
  initial_form = refl;
  no_latch = refl;
  one_driver = refl;
  no_clash = refl;
  clocks = clk_signal ∷ [];
  clocks_found = refl;
  clock_unread = refl;
  one_clock = refl;
  reset_forms = refl;
  no_cycle = refl;
  no_race = refl;
  awake = refl;
}

set_once_is_accepted : IsAcceptedDesign set_once clk
set_once_is_accepted = record {
  lawful = record { scopes = refl; numbered = refl; bits_numbered = refl; declared = refl; memories = refl; formed = refl; initials = refl; behind = refl; functions = refl; clocked_words = refl; few_bits = lit≤ tt; few_processes = lit≤ tt };
  fit = refl;
  fit_initials = refl;
  small = lit≤ tt;
  unmixed = refl;
  sensitive = refl;
  no_function_latch = refl;
  initial_form = refl;
  no_latch = refl;
  one_driver = refl;
  no_clash = refl;
  clocks = clk_signal ∷ [];
  clocks_found = refl;
  clock_unread = refl;
  one_clock = refl;
  reset_forms = refl;
  no_cycle = refl;
  no_race = refl;
  awake = refl;
}

chain_is_accepted : IsAcceptedDesign chain clk
chain_is_accepted = record {
  lawful = record { scopes = refl; numbered = refl; bits_numbered = refl; declared = refl; memories = refl; formed = refl; initials = refl; behind = refl; functions = refl; clocked_words = refl; few_bits = lit≤ tt; few_processes = lit≤ tt };
  fit = refl;
  fit_initials = refl;
  small = lit≤ tt;
  unmixed = refl;
  sensitive = refl;
  no_function_latch = refl;
  initial_form = refl;
  no_latch = refl;
  one_driver = refl;
  no_clash = refl;
  clocks = clk_signal ∷ [];
  clocks_found = refl;
  clock_unread = refl;
  one_clock = refl;
  reset_forms = refl;
  no_cycle = refl;
  no_race = refl;
  awake = refl;
}

sleeper_is_accepted : IsAcceptedDesign sleeper clk
sleeper_is_accepted = record {
  lawful = record { scopes = refl; numbered = refl; bits_numbered = refl; declared = refl; memories = refl; formed = refl; initials = refl; behind = refl; functions = refl; clocked_words = refl; few_bits = lit≤ tt; few_processes = lit≤ tt };
  fit = refl;
  fit_initials = refl;
  small = lit≤ tt;
  unmixed = refl;
  sensitive = refl;
  no_function_latch = refl;
  initial_form = refl;
  no_latch = refl;
  one_driver = refl;
  no_clash = refl;
  clocks = clk_signal ∷ [];
  clocks_found = refl;
  clock_unread = refl;
  one_clock = refl;
  reset_forms = refl;
  no_cycle = refl;
  no_race = refl;
  awake = refl;
}

never_run_is_accepted : IsAcceptedDesign never_run clk
never_run_is_accepted = record {
  lawful = record { scopes = refl; numbered = refl; bits_numbered = refl; declared = refl; memories = refl; formed = refl; initials = refl; behind = refl; functions = refl; clocked_words = refl; few_bits = lit≤ tt; few_processes = lit≤ tt };
  fit = refl;
  fit_initials = refl;
  small = lit≤ tt;
  unmixed = refl;
  sensitive = refl;
  no_function_latch = refl;
  initial_form = refl;
  no_latch = refl;
  one_driver = refl;
  no_clash = refl;
  clocks = clk_signal ∷ [];
  clocks_found = refl;
  clock_unread = refl;
  one_clock = refl;
  reset_forms = refl;
  no_cycle = refl;
  no_race = refl;
  awake = refl;
}

resettable_is_accepted : IsAcceptedDesign resettable clk
resettable_is_accepted = record {
  lawful = record { scopes = refl; numbered = refl; bits_numbered = refl; declared = refl; memories = refl; formed = refl; initials = refl; behind = refl; functions = refl; clocked_words = refl; few_bits = lit≤ tt; few_processes = lit≤ tt };
  fit = refl;
  fit_initials = refl;
  small = lit≤ tt;
  unmixed = refl;
  sensitive = refl;
  no_function_latch = refl;
  initial_form = refl;
  no_latch = refl;
  one_driver = refl;
  no_clash = refl;
  clocks = clk_signal ∷ [];
  clocks_found = refl;
  clock_unread = refl;
  one_clock = refl;
  reset_forms = refl;
  no_cycle = refl;
  no_race = refl;
  awake = refl;
}

reset_through_port_is_accepted : IsAcceptedDesign reset_through_port clk
reset_through_port_is_accepted = record {
  lawful = record { scopes = refl; numbered = refl; bits_numbered = refl; declared = refl; memories = refl; formed = refl; initials = refl; behind = refl; functions = refl; clocked_words = refl; few_bits = lit≤ tt; few_processes = lit≤ tt };
  fit = refl;
  fit_initials = refl;
  small = lit≤ tt;
  unmixed = refl;
  sensitive = refl;
  no_function_latch = refl;
  initial_form = refl;
  no_latch = refl;
  one_driver = refl;
  no_clash = refl;
  clocks = clk_signal ∷ [];
  clocks_found = refl;
  clock_unread = refl;
  one_clock = refl;
  reset_forms = refl;
  no_cycle = refl;
  no_race = refl;
  awake = refl;
}

quiet_is_accepted : IsAcceptedDesign quiet clk
unfolding write_all flatten
quiet_is_accepted = record {
  lawful = record { scopes = refl; numbered = refl; bits_numbered = refl; declared = refl; memories = refl; formed = refl; initials = refl; behind = refl; functions = refl; clocked_words = refl; few_bits = lit≤ tt; few_processes = lit≤ tt };
  fit = refl;
  fit_initials = refl;
  small = lit≤ tt;
  unmixed = refl;
  sensitive = refl;
  no_function_latch = refl;
  initial_form = refl;
  no_latch = refl;
  one_driver = refl;
  no_clash = refl;
  clocks = clk_signal ∷ [];
  clocks_found = refl;
  clock_unread = refl;
  one_clock = refl;
  reset_forms = refl;
  no_cycle = refl;
  no_race = refl;
  awake = refl;
}

port_is_accepted : IsAcceptedDesign port clk
port_is_accepted = record {
  lawful = record { scopes = refl; numbered = refl; bits_numbered = refl; declared = refl; memories = refl; formed = refl; initials = refl; behind = refl; functions = refl; clocked_words = refl; few_bits = lit≤ tt; few_processes = lit≤ tt };
  fit = refl;
  fit_initials = refl;
  small = lit≤ tt;
  unmixed = refl;
  sensitive = refl;
  no_function_latch = refl;
  initial_form = refl;
  no_latch = refl;
  one_driver = refl;
  no_clash = refl;
  clocks = clk_signal ∷ [];
  clocks_found = refl;
  clock_unread = refl;
  one_clock = refl;
  reset_forms = refl;
  no_cycle = refl;
  no_race = refl;
  awake = refl;
}

adder_is_accepted : IsAcceptedDesign adder clk
adder_is_accepted = record {
  lawful = record { scopes = refl; numbered = refl; bits_numbered = refl; declared = refl; memories = refl; formed = refl; initials = refl; behind = refl; functions = refl; clocked_words = refl; few_bits = lit≤ tt; few_processes = lit≤ tt };
  fit = refl;
  fit_initials = refl;
  small = lit≤ tt;
  unmixed = refl;
  sensitive = refl;
  no_function_latch = refl;
  initial_form = refl;
  no_latch = refl;
  one_driver = refl;
  no_clash = refl;
  clocks = clk_signal ∷ [];
  clocks_found = refl;
  clock_unread = refl;
  one_clock = refl;
  reset_forms = refl;
  no_cycle = refl;
  no_race = refl;
  awake = refl;
}

clocked_instance_is_accepted : IsAcceptedDesign clocked_instance clk
clocked_instance_is_accepted = record {
  lawful = record { scopes = refl; numbered = refl; bits_numbered = refl; declared = refl; memories = refl; formed = refl; initials = refl; behind = refl; functions = refl; clocked_words = refl; few_bits = lit≤ tt; few_processes = lit≤ tt };
  fit = refl;
  fit_initials = refl;
  small = lit≤ tt;
  unmixed = refl;
  sensitive = refl;
  no_function_latch = refl;
  initial_form = refl;
  no_latch = refl;
  one_driver = refl;
  no_clash = refl;
  clocks = clk_signal ∷ [];
  clocks_found = refl;
  clock_unread = refl;
  one_clock = refl;
  reset_forms = refl;
  no_cycle = refl;
  no_race = refl;
  awake = refl;
}

clock_alias_is_accepted : IsAcceptedDesign clock_alias clk
clock_alias_is_accepted = record {
  lawful = record { scopes = refl; numbered = refl; bits_numbered = refl; declared = refl; memories = refl; formed = refl; initials = refl; behind = refl; functions = refl; clocked_words = refl; few_bits = lit≤ tt; few_processes = lit≤ tt };
  fit = refl;
  fit_initials = refl;
  small = lit≤ tt;
  unmixed = refl;
  sensitive = refl;
  no_function_latch = refl;
  initial_form = refl;
  no_latch = refl;
  one_driver = refl;
  no_clash = refl;
  clocks = clk_signal ∷ [];
  clocks_found = refl;
  clock_unread = refl;
  one_clock = refl;
  reset_forms = refl;
  no_cycle = refl;
  no_race = refl;
  awake = refl;
}

two_clocks_is_accepted : IsAcceptedDesign two_clocks c_and_e
two_clocks_is_accepted = record {
  lawful = record { scopes = refl; numbered = refl; bits_numbered = refl; declared = refl; memories = refl; formed = refl; initials = refl; behind = refl; functions = refl; clocked_words = refl; few_bits = lit≤ tt; few_processes = lit≤ tt };
  fit = refl;
  fit_initials = refl;
  small = lit≤ tt;
  unmixed = refl;
  sensitive = refl;
  no_function_latch = refl;
  initial_form = refl;
  no_latch = refl;
  one_driver = refl;
  no_clash = refl;
  clocks = c0 ∷ e1 ∷ [];
  clocks_found = refl;
  clock_unread = refl;
  one_clock = refl;
  reset_forms = refl;
  no_cycle = refl;
  no_race = refl;
  awake = refl;
}

reset_alias_is_accepted : IsAcceptedDesign reset_alias clk
reset_alias_is_accepted = record {
  lawful = record { scopes = refl; numbered = refl; bits_numbered = refl; declared = refl; memories = refl; formed = refl; initials = refl; behind = refl; functions = refl; clocked_words = refl; few_bits = lit≤ tt; few_processes = lit≤ tt };
  fit = refl;
  fit_initials = refl;
  small = lit≤ tt;
  unmixed = refl;
  sensitive = refl;
  no_function_latch = refl;
  initial_form = refl;
  no_latch = refl;
  one_driver = refl;
  no_clash = refl;
  clocks = clk_signal ∷ [];
  clocks_found = refl;
  clock_unread = refl;
  one_clock = refl;
  reset_forms = refl;
  no_cycle = refl;
  no_race = refl;
  awake = refl;
}

sum_is_accepted : IsAcceptedDesign sum clk
sum_is_accepted = record {
  lawful = record { scopes = refl; numbered = refl; bits_numbered = refl; declared = refl; memories = refl; formed = refl; initials = refl; behind = refl; functions = refl; clocked_words = refl; few_bits = lit≤ tt; few_processes = lit≤ tt };
  fit = refl;
  fit_initials = refl;
  small = lit≤ tt;
  unmixed = refl;
  sensitive = refl;
  no_function_latch = refl;
  initial_form = refl;
  no_latch = refl;
  one_driver = refl;
  no_clash = refl;
  clocks = clk_signal ∷ [];
  clocks_found = refl;
  clock_unread = refl;
  one_clock = refl;
  reset_forms = refl;
  no_cycle = refl;
  no_race = refl;
  awake = refl;
}

loop_is_cycle : IsCycle loop (0 ∷ 1 ∷ [])
loop_is_cycle = ((feeds_01, feeds_10), (refl, (refl, tt)), (lit≤ tt, tt))
  where
    feeds_01 : Feeds loop 0 1
    feeds_01 = record { from = _; to = _; from_is = refl; to_is = refl; from_settles = refl; to_settles = refl; fed = refl }

    feeds_10 : Feeds loop 1 0
    feeds_10 = record { from = _; to = _; from_is = refl; to_is = refl; from_settles = refl; to_settles = refl; fed = refl }

pub designs_computed : DesignsComputed
unfolding change changes is_held write_all is_written flatten
designs_computed = record {
  dead_clock_size = refl;
  dead_clock_nets = refl;
  dead_clock_without = refl;
  dead_clock_accepted = dead_clock_is_accepted;
  dead_clock_ends = refl;
  dead_instance_nets = refl;
  dead_instance_blocks = refl;
  half_dead_nets = refl;
  half_dead_blocks = refl;
  reset_through_port_accepted = reset_through_port_is_accepted;
  reset_through_port_late = refl;
  reset_through_port_ends = refl;
  sleeper_size = refl;
  sleeper_accepted = sleeper_is_accepted;
  sleeper_asleep = refl;
  sleeper_woken = refl;
  never_run_size = refl;
  never_run_accepted = never_run_is_accepted;
  never_run_ends = refl;
  resettable_size = refl;
  resettable_accepted = resettable_is_accepted;
  resettable_ends = refl;
  and_gate_size = refl;
  and_gate_accepted = and_gate_is_accepted;
  and_gate_ends = refl;
  free_gate_size = refl;
  free_gate_accepted = free_gate_is_accepted;
  free_gate_ends = refl;
  and_gate_free = free_and_is_accepted;
  counter_size = refl;
  counter_accepted = counter_is_accepted;
  counter_ends = refl;
  if_and_choice_size = refl;
  if_and_choice_accepted = if_and_choice_is_accepted;
  if_and_choice_ends = refl;
  three_registers_size = refl;
  three_registers_accepted = three_registers_is_accepted;
  three_registers_ends = refl;
  woken_size = refl;
  woken_accepted = woken_is_accepted;
  woken_ends = refl;
  set_once_size = refl;
  set_once_accepted = set_once_is_accepted;
  set_once_ends = refl;
  chain_size = refl;
  chain_accepted = chain_is_accepted;
  chain_ends = refl;
  quiet_size = refl;
  quiet_accepted = quiet_is_accepted;
  quiet_ends = refl;
  port_size = refl;
  port_accepted = port_is_accepted;
  port_ends = refl;
  chain_order = refl;
  adder_size = refl;
  adder_reads = refl;
  adder_writes = refl;
  adder_accepted = adder_is_accepted;
  adder_ends = refl;
  product_size = refl;
  clocked_instance_size = refl;
  clocked_instance_accepted = clocked_instance_is_accepted;
  clocked_instance_nets = refl;
  clocked_instance_ends = refl;
  clock_alias_size = refl;
  clock_alias_accepted = clock_alias_is_accepted;
  clock_alias_nets = refl;
  clock_alias_ends = refl;
  two_clocks_size = refl;
  two_clocks_accepted = two_clocks_is_accepted;
  two_clocks_nets = refl;
  two_clocks_ends = refl;
  reset_alias_size = refl;
  reset_alias_accepted = reset_alias_is_accepted;
  reset_alias_nets = refl;
  reset_alias_root = refl;
  reset_alias_ends = refl;
  sum_size = refl;
  sum_accepted = sum_is_accepted;
  sum_ends = refl;
  quiet_register = refl;
  quiet_block = refl;
  woken_input = refl;
  woken_net = refl;
  product_ends = refl;
}

pub refusals_computed : RefusalsComputed
unfolding write_all flatten
refusals_computed = record {
  too_large_refused = refl;
  unformed_refused = refl;
  compared_passes = refl;
  turned_passes = refl;
  compared_refused = refl;
  signed_refused = refl;
  own_reset_refused = refl;
  on_net_refused = refl;
  stirred_refused = refl;
  loop_refused = refl;
  loop_is_one = loop_is_cycle;
  gated_refused = refl;
  alias_read_refused = refl;
  joined_alias_refused = refl;
  other_clock_refused = refl;
  no_clock_refused = refl;
  clock_value_refused = refl;
  clock_value_passes = refl;
  unnamed_clock_refused = refl;
  no_second_clock_refused = refl;
  clock_twice_refused = refl;
  free_counter_refused = refl;
  too_wide_refused = refl;
  divided_refused = refl;
  wide_division_refused = refl;
  by_process_refused = refl;
  driven_twice_refused = refl;
  twice_in_one_refused = refl;
  latch_refused = refl;
  unlisted_refused = refl;
  mixed_first_refused = refl;
  list_second_refused = refl;
  lesser_block_refused = refl;
  first_in_text_refused = refl;
  and_gate_passes = record { widths = refl; blocks = refl; drivers = refl; clocks = refl; no_cycle = refl; races = refl; zero = refl };
}

greatest_is_accepted : IsAcceptedDesign greatest clk
greatest_is_accepted = record {
  lawful = record { scopes = refl; numbered = refl; bits_numbered = refl; declared = refl; memories = refl; formed = refl; initials = refl; behind = refl; functions = refl; clocked_words = refl; few_bits = lit≤ tt; few_processes = lit≤ tt };
  fit = refl;
  fit_initials = refl;
  small = lit≤ tt;
  unmixed = refl;
  sensitive = refl;
  no_function_latch = refl;
  initial_form = refl;
  no_latch = refl;
  one_driver = refl;
  no_clash = refl;
  clocks = clk_signal ∷ [];
  clocks_found = refl;
  clock_unread = refl;
  one_clock = refl;
  reset_forms = refl;
  no_cycle = refl;
  no_race = refl;
  awake = refl;
}

pub calls_computed : CallsComputed
unfolding change changes is_held write_all is_written flatten
calls_computed = record {
  max_weighs = refl;
  greatest_size = refl;
  greatest_accepted = greatest_is_accepted;
  greatest_ends = refl;
  max_of_unknown = refl;
  max_reads = refl;
  argument_cut = refl;
  argument_kept = refl;
  coded_first = refl;
  coded_second = refl;
  coded_default = refl;
  coded_of_unknown = refl;
  called_in_argument = refl;
  argument_extended = refl;
  result_extended = refl;
  result_in_unsigned = refl;
  argument_unsigned = refl;
  passed_weighs = refl;
  passed_reads = refl;
  passed_value = refl;
  result_unassigned = refl;
  never_constant = refl;
  never_fixed = refl;
  call_sets = refl;
  call_of_zeros = refl;
  uncalled_latch_refused = refl;
  divided_by_call_refused = refl;
  undivided_passes = refl;
}
