-- The faults of an expression that is a target, without the target.
use Rattle.std.specs.Prelude.{false, List, [], ◌++◌}
use Rattle.vs_grammar.specs.Trees as tree
use Rattle.vs_const.specs.declared.faults.Fault.{Fault}
use Rattle.vs_const.specs.Meanings.{Find}
use Rattle.vs_elaborated.specs.Targets.{selected_target}

abbrev mutual
  pub found_faults : tree.Expr → Find → List Fault
  found_faults (tree.Named name select) find = (selected_target select name find false).faults
  found_faults (tree.Concatenation place parts) find = found_parts parts find
  found_faults (tree.Brackets place e) find = found_faults e find
  found_faults _ find = []

  pub found_parts : tree.Exprs → Find → List Fault
  found_parts tree.NoExpr find = []
  found_parts (tree.AndExpr e rest) find = found_faults e find ++ found_parts rest find
