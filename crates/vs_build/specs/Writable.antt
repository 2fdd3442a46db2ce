-- Targets that can be built, as expressions of a flat design (IEEE 1364-2005, table 6-1).
use Rattle.std.specs.Prelude.{◌≡◌, ◌≤◌, ℕ, Bool, false, not, List, [], ◌++◌, map}
use Rattle.vs_design.specs.Expressions.{Signal, Expression, Join, Repeat, At}
use Rattle.vs_design.specs.Statements.{Whole}
use Rattle.vs_design.specs.Designs.{Written, InputPort, Process, Continuous, Design}
use Rattle.vs_ast.specs.declared.statements.Target.{Target}
use Rattle.vs_ast.specs.Views.{target}
use Rattle.vs_grammar.specs.Trees as tree
use Rattle.vs_grammar.specs.Trees.{target_place}
use Rattle.vs_grammar.specs.Shapes.{IsTarget, ArePartsOfTarget, IsAssign}
use Rattle.vs_grammar.specs.Depths.{target_depth, targets_depth, assign_depth}
use Rattle.vs_const.specs.Meanings.{Find}
use Rattle.vs_const.specs.Sound.{AreSound}
use Rattle.vs_elaborated.specs.Numbers.{AreNumbered}
use Rattle.vs_const.specs.Typed.{begins_at}
use Rattle.vs_const.specs.Expressions.{typed}
use Rattle.vs_flat.specs.Trees.{no_expression}
use Rattle.vs_elaborated.specs.Targets.{typed_target, typed_targets}
use Rattle.vs_build.specs.Buildable.{selected_by}

-- one part, or the first of several
abbrev pub and_expression : tree.Targets → Expression → Expression → Expression
and_expression tree.NoTarget e others = e
and_expression (tree.AndTarget t rest) e others = Join e others

-- the expression that stands for a target
abbrev mutual
  pub target_expression : tree.Target → Find → Bool → Expression
  target_expression (tree.NamedTarget name select) find procedural = begins_at name.place (selected_by select name find false (not procedural)).expression
  target_expression (tree.Targeted place parts) find procedural = At place (Repeat 1 (targets_expression parts find procedural))

  pub targets_expression : tree.Targets → Find → Bool → Expression
  targets_expression tree.NoTarget find procedural = no_expression
  targets_expression (tree.AndTarget t rest) find procedural = and_expression rest (target_expression t find procedural) (targets_expression rest find procedural)

-- a target without a fault
pub record IsWritable (d : Design) (find : Find) (procedural : Bool) (t : tree.Target) : Type 0 where
  pub shaped : IsTarget t
  pub sound : AreSound d false find
  pub numbered : AreNumbered d find
  pub clean : (typed_target t find procedural).faults ≡ []
  pub shallow : target_depth t ≤ 253

-- the parts of one
pub record AreWritable (d : Design) (find : Find) (procedural : Bool) (ts : tree.Targets) : Type 0 where
  pub shaped : ArePartsOfTarget ts
  pub sound : AreSound d false find
  pub numbered : AreNumbered d find
  pub clean : (typed_targets ts find procedural).faults ≡ []
  pub shallow : targets_depth ts ≤ 253

-- what the parts stand for
abbrev pub target_expressions : Find → Bool → List Target → List Expression
target_expressions find procedural ts = map (λ (t : Target). target_expression (target t) find procedural) ts

-- an assign without a fault
pub record IsAssignable (d : Design) (find : Find) (a : tree.Assign) : Type 0 where
  pub shaped : IsAssign a
  pub sound : AreSound d false find
  pub numbered : AreNumbered d find
  pub clean : (typed_target a.target find false).faults ++ (typed a.e find false).faults ≡ []
  pub shallow : assign_depth a ≤ 253

-- `wire name = e` is an assign too (6.1.1)
abbrev pub wire_assign : tree.Name → tree.Expr → tree.Assign
wire_assign name e = record { target = tree.NamedTarget name tree.Whole; e = e }

-- the assign of a design that it is (6.1)
abbrev pub assign_process : ℕ → tree.Assign → Find → Process
assign_process place a find = Continuous place Written (target_place a.target) (typed_target a.target find false).target (typed a.e find false).expression

-- the assign of an input port: from the outer expression to the inner net (12.3.9.2)
abbrev pub input_process : ℕ → Signal → tree.Expr → Find → Process
input_process place inner e find = Continuous place InputPort place (Whole inner) (typed e find false).expression
