use Rattle.vs_design.proofs.TreeFacts.{value_length, assigned_length, constant_value}
use Rattle.vs_design.proofs.value_law.Goals as goal

pub returns : goal.returns
returns c = record { length = value_length; assigned = assigned_length; constant = constant_value }
