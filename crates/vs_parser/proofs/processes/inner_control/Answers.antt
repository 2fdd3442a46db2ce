use Rattle.std.proofs.Common.{refl, ap}
use Rattle.vs_grammar.specs.Trees as tree
use Rattle.vs_statements.proofs.Places.{answer_exit, refused_missing, refused_former, refused_latter, read_tok, read_former, read_latter, parsed, one_true, one_false}
use Rattle.vs_parser.proofs.processes.inner_control.Goals as goal

pub returns-in_err-star : goal.returns-in_err-star
returns-in_err-star c = answer_exit _ _ c.from_residual.result c.in_err-star.field-0.0 c.from_residual.ensures.1 (refused_former (one_true _ c.stands.result c.stands.ensures c.if-stands.true) (refused_missing c.in_err-star.ensures))

pub returns-in_ok-star : goal.returns-in_ok-star
returns-in_ok-star c = parsed (read_former (one_true _ c.stands.result c.stands.ensures c.if-stands.true) (read_tok c.args.depth.limit c.in_ok-star.ensures)) refl

pub returns-in_err-list : goal.returns-in_err-list
returns-in_err-list c = answer_exit _ _ c.from_residual-in_err-list.result c.in_err-list.field-0.0 c.from_residual-in_err-list.ensures.1 (refused_latter (one_false _ c.stands.result c.stands.ensures c.if-stands.false) c.in_err-list.ensures)

pub returns-in_ok-list : goal.returns-in_ok-list
returns-in_ok-list c = parsed (read_latter (one_false _ c.stands.result c.stands.ensures c.if-stands.false) c.in_ok-list.ensures.read) (ap tree.Listed c.in_ok-list.ensures.made)
