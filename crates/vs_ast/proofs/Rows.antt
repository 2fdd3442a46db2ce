-- The rows of a tree as lists.
use Rattle.std.proofs.Common.{◌≡◌, refl, ap, map}
use Rattle.vs_grammar.specs.Trees as tree
use Rattle.vs_ast.specs.declared.expressions.Expr.{Row_of-Expr, end_of-Expr, more_of-Expr, items-the_row-Expr}
use Rattle.vs_ast.specs.declared.statements.Target.{Row_of-Target, end_of-Target, more_of-Target, items-the_row-Target}
use Rattle.vs_ast.specs.declared.statements.Statement.{Row_of-Statement, end_of-Statement, more_of-Statement, items-the_row-Statement, Row_of-CaseArm, end_of-CaseArm, more_of-CaseArm, items-the_row-CaseArm}
use Rattle.vs_ast.specs.declared.items.Item.{Row_of-GenerateArm, end_of-GenerateArm, more_of-GenerateArm, items-the_row-GenerateArm}
use Rattle.vs_ast.specs.declared.items.GenerateBlock.{Row_of-Item, end_of-Item, more_of-Item, items-the_row-Item}
use Rattle.vs_ast.specs.Views.{expr, exprs, expr_row, target, targets, target_row, statement, statements, statement_row, arms, arm_row, item, items, item_row, block, generate_arms, generate_arm_row}

pub expr_rows : {m : _} (k : Row_of-Expr m) → expr_row k ≡ exprs (items-the_row-Expr m k)
expr_rows end_of-Expr = refl
expr_rows (more_of-Expr e rest) = ap (λ z. tree.AndExpr (expr e) z) (expr_rows rest)

pub target_rows : {m : _} (k : Row_of-Target m) → target_row k ≡ targets (items-the_row-Target m k)
target_rows end_of-Target = refl
target_rows (more_of-Target x rest) = ap (λ z. tree.AndTarget (target x) z) (target_rows rest)

pub statement_rows : {m : _} (k : Row_of-Statement m) → statement_row k ≡ statements (items-the_row-Statement m k)
statement_rows end_of-Statement = refl
statement_rows (more_of-Statement s rest) = ap (λ z. tree.AndStatement (statement s) z) (statement_rows rest)

pub arm_rows : {m : _} (k : Row_of-CaseArm m) → arm_row k ≡ arms (items-the_row-CaseArm m k)
arm_rows end_of-CaseArm = refl
arm_rows (more_of-CaseArm labels s rest) = ap (λ z. tree.AndArm (map expr labels.items) (statement s) z) (arm_rows rest)

pub item_rows : {m : _} (k : Row_of-Item m) → item_row k ≡ items (items-the_row-Item m k)
item_rows end_of-Item = refl
item_rows (more_of-Item i rest) = ap (λ z. tree.AndItem (item i) z) (item_rows rest)

pub generate_arm_rows : {m : _} (k : Row_of-GenerateArm m) → generate_arm_row k ≡ generate_arms (items-the_row-GenerateArm m k)
generate_arm_rows end_of-GenerateArm = refl
generate_arm_rows (more_of-GenerateArm labels b rest) = ap (λ z. tree.AndGenerateArm (map expr labels.items) (block b) z) (generate_arm_rows rest)
