use Rattle.std.proofs.Common.{sym, ◌∙◌, ap}
use Rattle.vs_grammar.specs.Trees as tree
use Rattle.vs_grammar.specs.Meaning as meaning
use Rattle.vs_statements.specs.Reading.{bytes_in}
use Rattle.vs_statements.proofs.Places.{answer_exit, refused_var, refused_former, refused_latter, read_var, read_former, read_latter, parsed, one_true, one_false}
use Rattle.vs_parser.proofs.Pieces.{is_ordered}
use Rattle.vs_parser.proofs.instances.connections.Goals as goal

pub returns-in_err-named : goal.returns-in_err-named
returns-in_err-named c = answer_exit _ _ c.from_residual.result c.in_err-named.field-0.0 c.from_residual.ensures.1 (refused_var (refused_former (one_true _ c.stands.result c.stands.ensures c.if-stands.true) c.in_err-named.ensures))

pub returns-in_ok-named : goal.returns-in_ok-named
returns-in_ok-named c = parsed (read_var (read_former (one_true _ c.stands.result c.stands.ensures c.if-stands.true) c.in_ok-named.ensures.read)) (ap tree.ByName c.in_ok-named.ensures.made)

pub returns-in_err-list : goal.returns-in_err-list
returns-in_err-list c = answer_exit _ _ c.from_residual-in_err-list.result c.in_err-list.field-0.0 c.from_residual-in_err-list.ensures.1 (refused_var (refused_latter (one_false _ c.stands.result c.stands.ensures c.if-stands.false) c.in_err-list.ensures))

pub returns-in_ok-list : goal.returns-in_ok-list
returns-in_ok-list c = parsed (read_var (read_latter (one_false _ c.stands.result c.stands.ensures c.if-stands.false) c.in_ok-list.ensures.read)) (ap (meaning.by_order (bytes_in c.args.input.now)) c.in_ok-list.ensures.made ∙ is_ordered (bytes_in c.args.input.now) _ ∙ sym c.by_order.ensures)
