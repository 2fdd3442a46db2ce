use Rattle.std.proofs.Common.{ap}
use Rattle.vs_grammar.specs.Trees as tree
use Rattle.vs_statements.proofs.Places.{answer_exit, refused_seq, refused_then, refused_missing, read_tok, read_seq, parsed}
use Rattle.vs_parser.proofs.processes.initial.Goals as goal

pub returns-in_err-word : goal.returns-in_err-word
returns-in_err-word c = answer_exit _ _ c.from_residual.result c.in_err-word.field-0.0 c.from_residual.ensures.1 (refused_seq (refused_missing c.in_err-word.ensures))

pub returns-in_err-statement : goal.returns-in_err-statement
returns-in_err-statement c = answer_exit _ _ c.from_residual-in_err-statement.result c.in_err-statement.field-0.0 c.from_residual-in_err-statement.ensures.1 (refused_then (read_tok c.args.depth.limit c.in_ok-word.ensures) c.in_err-statement.ensures)

pub returns : goal.returns
returns c = parsed (read_seq (read_tok c.args.depth.limit c.in_ok-word.ensures) c.in_ok-statement.ensures.read) (ap (λ s. tree.InitialItem (record { place = c.args.at; statement = s })) c.in_ok-statement.ensures.made)
