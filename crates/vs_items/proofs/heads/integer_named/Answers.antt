use Rattle.std.proofs.Common.{true, sym}
use Rattle.vs_ast.specs.Views as view
use Rattle.vs_elaborated.specs.Statements.{find_local}
use Rattle.vs_scope.specs.Frames.{view_env}
use Rattle.vs_items.proofs.HeadSteps.{named_local, local_heads}
use Rattle.vs_items.proofs.heads.integer_named.Goals as goal

pub returns-then-is_local : goal.returns-then-is_local
returns-then-is_local c = λ locals a.
    let n = view.name c.args.name.now in
    sym (local_heads (find_local locals n.bytes) n (view_env c.args.here.now) (named_local c.args.layers.now locals n.bytes c.as_slice.result.now c.is_local.result true a c.as_slice.ensures c.is_local.ensures c.if-is_local.true))
