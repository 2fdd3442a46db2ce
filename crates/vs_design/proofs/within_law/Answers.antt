use Rattle.vs_design.proofs.Within.{formed_is_within, target_is_within, statement_is_within, function_is_within}
use Rattle.vs_design.proofs.within_law.Goals as goal

pub returns : goal.returns
returns c = record { expressions = formed_is_within; targets = target_is_within; statements = statement_is_within; functions = function_is_within }
