-- Expressions that are connected to an output, as targets (IEEE 1364-2005, 12.3.9.2).
use Rattle.std.specs.Prelude.{◌≡◌, ℕ, false, List, map, Some, unwrap_or}
use Rattle.vs_design.specs.Expressions.{Signal, Expression, At, Name}
use Rattle.vs_design.specs.Designs.{OutputPort, Process, Continuous, Design}
use Rattle.vs_ast.specs.declared.expressions.Expr.{Expr}
use Rattle.vs_ast.specs.Views.{expr}
use Rattle.vs_grammar.specs.Trees as tree
use Rattle.vs_grammar.specs.Trees.{target_place}
use Rattle.vs_const.specs.Meanings.{Find}
use Rattle.vs_elaborated.specs.Targets.{typed_target, as_target, as_targets}
use Rattle.vs_build.specs.Writable.{target_expression, IsWritable, AreWritable}

-- the target that an expression is, where it is one
abbrev pub output_of : tree.Expr → tree.Target
output_of e = unwrap_or (as_target e) (tree.Targeted 0 tree.NoTarget)

abbrev pub outputs_of : tree.Exprs → tree.Targets
outputs_of tree.NoExpr = tree.NoTarget
outputs_of (tree.AndExpr e rest) = tree.AndTarget (output_of e) (outputs_of rest)

abbrev pub output_expression : tree.Expr → Find → Expression
output_expression e find = target_expression (output_of e) find false

abbrev pub output_expressions : Find → List Expr → List Expression
output_expressions find es = map (λ (e : Expr). output_expression (expr e) find) es

-- it is a target, without a fault
pub record IsOutput (d : Design) (find : Find) (e : tree.Expr) : Type 0 where
  pub is : as_target e ≡ Some (output_of e)
  pub fine : IsWritable d find false (output_of e)

pub record AreOutputs (d : Design) (find : Find) (parts : tree.Exprs) : Type 0 where
  pub is : as_targets parts ≡ Some (outputs_of parts)
  pub fine : AreWritable d find false (outputs_of parts)

-- the assign of an output port: from the inner signal to the outer net
abbrev pub output_process : ℕ → Signal → tree.Target → Find → Process
output_process place inner t find = Continuous place OutputPort (target_place t) (typed_target t find false).target (At place (Name inner))
