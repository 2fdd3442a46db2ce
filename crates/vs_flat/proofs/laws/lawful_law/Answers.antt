use Rattle.vs_flat.proofs.Given.{within_limits, each_formed, each_statement_formed, assign_target, statement_target, function_result, local_bits}
use Rattle.vs_flat.proofs.laws.lawful_law.Goals as goal

pub returns : goal.returns
returns c = record { design = λ a w. w.design; limits = within_limits; expressions = each_formed; statements = each_statement_formed; assign_targets = assign_target; statement_targets = statement_target; results = function_result; local_bits = local_bits }
