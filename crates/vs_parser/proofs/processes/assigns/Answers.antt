use Rattle.std.proofs.Common.{ap}
use Rattle.vs_grammar.specs.Trees as tree
use Rattle.vs_statements.proofs.Places.{answer_exit, refused_seq, refused_then, refused_missing, read_tok, read_seq, parsed}
use Rattle.vs_statements.proofs.Pairs.{ok_at, err_at}
use Rattle.vs_parser.proofs.processes.assigns.Goals as goal

pub returns-in_err-word : goal.returns-in_err-word
returns-in_err-word c = answer_exit _ _ c.from_residual.result c.in_err-word.field-0.0 c.from_residual.ensures.1 (refused_seq (refused_missing c.in_err-word.ensures))

pub returns-in_err-list : goal.returns-in_err-list
returns-in_err-list c = answer_exit _ _ c.from_residual-in_err-list.result c.in_err-list.field-0.0 c.from_residual-in_err-list.ensures.1 (refused_then (read_tok c.args.depth.limit c.in_ok-word.ensures) (refused_seq c.in_err-list.ensures))

pub returns-in_err-list-2 : goal.returns-in_err-list-2
returns-in_err-list-2 c = answer_exit _ _ c.from_residual-in_err-list-2.result c.in_err-list-2.field-0.0 c.from_residual-in_err-list-2.ensures.1 (refused_then (read_tok c.args.depth.limit c.in_ok-word.ensures) (refused_then c.in_ok-list.ensures.read (refused_missing (err_at _ _ c.in_err-list-2.ensures c.take-end.ensures))))

pub returns : goal.returns
returns c = rw c.in_ok-list-2.ensures.0 (parsed (read_seq (read_tok c.args.depth.limit c.in_ok-word.ensures) (read_seq c.in_ok-list.ensures.read (read_tok c.args.depth.limit (ok_at _ _ c.in_ok-list-2.ensures.1 c.take-end.ensures)))) (ap (λ z. tree.AssignsItem c.args.at z) c.in_ok-list.ensures.made))
