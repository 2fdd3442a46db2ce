use Rattle.vs_elaborated.proofs.WorkedRefusals.{not_constants, unknown_constants, wrong_modules, unknown_names, repeated_names, bad_ranges, wrong_connections, wrong_kinds, other_kinds, loop_variables, function_rules, first_faults, limited}
use Rattle.vs_elaborated.proofs.laws.refusal_examples.Goals as goal

pub returns : goal.returns
returns c = record { not_constants = not_constants; unknown_constants = unknown_constants; wrong_modules = wrong_modules; unknown_names = unknown_names; repeated_names = repeated_names; bad_ranges = bad_ranges; wrong_connections = wrong_connections; wrong_kinds = wrong_kinds; other_kinds = other_kinds; loop_variables = loop_variables; function_rules = function_rules; first_faults = first_faults; limited = limited }
