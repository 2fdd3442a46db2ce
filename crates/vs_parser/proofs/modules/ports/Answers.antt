use Rattle.std.proofs.Common.{ap, ◌∙◌}
use Rattle.vs_grammar.specs.Trees as tree
use Rattle.vs_statements.proofs.Places.{answer_exit, refused_var, refused_former, refused_latter, read_var, read_former, read_latter, parsed, one_true, one_false}
use Rattle.vs_parser.proofs.modules.ports.Goals as goal

pub returns-in_err-names : goal.returns-in_err-names
returns-in_err-names c = answer_exit _ _ c.from_residual.result c.in_err-names.field-0.0 c.from_residual.ensures.1 (refused_var (refused_former (one_true _ c.stands.result c.stands.ensures c.if-stands.true) c.in_err-names.ensures))

pub returns-in_ok-names : goal.returns-in_ok-names
returns-in_ok-names c = parsed (read_var (read_former (one_true _ c.stands.result c.stands.ensures c.if-stands.true) c.in_ok-names.ensures.read)) (ap tree.PlainPorts c.in_ok-names.ensures.made)

pub returns-in_err-first : goal.returns-in_err-first
returns-in_err-first c = answer_exit _ _ c.from_residual-in_err-first.result c.in_err-first.field-0.0 c.from_residual-in_err-first.ensures.1 (refused_var (refused_latter (one_false _ c.stands.result c.stands.ensures c.if-stands.false) c.in_err-first.ensures))

pub returns-in_err-list : goal.returns-in_err-list
returns-in_err-list c = answer_exit _ _ c.from_residual-in_err-list.result c.in_err-list.field-0.0 c.from_residual-in_err-list.ensures.1 (refused_var (refused_latter (one_false _ c.stands.result c.stands.ensures c.if-stands.false) (c.in_ok-first.ensures.refused _ c.in_err-list.ensures)))

pub returns-in_ok-list : goal.returns-in_ok-list
returns-in_ok-list c =
    let q = c.in_ok-first.ensures.read c.in_ok-list.ensures.tree c.in_ok-list.list.to c.in_ok-list.ensures.read in
    parsed (read_var (read_latter (one_false _ c.stands.result c.stands.ensures c.if-stands.false) q.read)) (ap tree.DeclaredPorts (q.made ∙ c.in_ok-list.ensures.made))
