use Rattle.vs_ast.specs.Views as view
use Rattle.vs_statements.proofs.Places.{answer_exit, refused_memory, refused_var, refused_former, refused_latter, read_var, read_former, read_latter, one_true, one_false}
use Rattle.vs_parser.proofs.FunctionHeads.{input_declared, variables_declared}
use Rattle.vs_parser.proofs.Headers.{map_pushed}
use Rattle.vs_statements.proofs.Pairs.{ok_at, err_at}
use Rattle.vs_parser.proofs.functions.declaration.Goals as goal

pub returns-in_err-before : goal.returns-in_err-before
returns-in_err-before c = answer_exit _ _ c.from_residual.result c.in_err-before.field-0.0 c.from_residual.ensures.1 (refused_var (refused_former (one_true _ c.stands.result c.stands.ensures c.if-stands.true) (err_at _ _ c.in_err-before.ensures c.input_declaration-next.ensures)))

pub returns-in_err-variables : goal.returns-in_err-variables
returns-in_err-variables c = answer_exit _ _ c.from_residual-in_err-variables.result c.in_err-variables.field-0.0 c.from_residual-in_err-variables.ensures.1 (refused_memory (err_at _ _ c.in_err-variables.ensures c.longer-inputs.ensures))

pub returns-in_ok-variables : goal.returns-in_ok-variables
returns-in_ok-variables c = let l = rw c.in_ok-before.ensures.0 at (ok_at _ _ c.in_ok-variables.ensures.1 c.longer-inputs.ensures) in rw (c.in_ok-variables.ensures.0, c.in_ok-before.ensures.0) (input_declared (read_var (read_former (one_true _ c.stands.result c.stands.ensures c.if-stands.true) (ok_at _ _ c.in_ok-before.ensures.1 c.input_declaration-next.ensures).read)) (ok_at _ _ c.in_ok-before.ensures.1 c.input_declaration-next.ensures).made (map_pushed view.variables _ _ _ l))

pub returns-in_err-before-2 : goal.returns-in_err-before-2
returns-in_err-before-2 c = answer_exit _ _ c.from_residual-in_err-before-2.result c.in_err-before-2.field-0.0 c.from_residual-in_err-before-2.ensures.1 (refused_var (refused_latter (one_false _ c.stands.result c.stands.ensures c.if-stands.false) (err_at _ _ c.in_err-before-2.ensures c.variables-next.ensures)))

pub returns-in_err-inputs : goal.returns-in_err-inputs
returns-in_err-inputs c = answer_exit _ _ c.from_residual-in_err-inputs.result c.in_err-inputs.field-0.0 c.from_residual-in_err-inputs.ensures.1 (refused_memory (err_at _ _ c.in_err-inputs.ensures c.longer-variables.ensures))

pub returns-in_ok-inputs : goal.returns-in_ok-inputs
returns-in_ok-inputs c = let l = rw c.in_ok-before-2.ensures.0 at (ok_at _ _ c.in_ok-inputs.ensures.1 c.longer-variables.ensures) in rw (c.in_ok-inputs.ensures.0, c.in_ok-before-2.ensures.0) (variables_declared (read_var (read_latter (one_false _ c.stands.result c.stands.ensures c.if-stands.false) (ok_at _ _ c.in_ok-before-2.ensures.1 c.variables-next.ensures).read)) (ok_at _ _ c.in_ok-before-2.ensures.1 c.variables-next.ensures).made (map_pushed view.variables _ _ _ l))
