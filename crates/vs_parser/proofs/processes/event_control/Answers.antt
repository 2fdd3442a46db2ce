use Rattle.std.proofs.Common.{◌∙◌}
use Rattle.vs_statements.specs.Reading.{bytes_in, terminal_at}
use Rattle.vs_statements.proofs.Places.{answer_exit, refused_var, refused_seq, refused_then, refused_missing, read_tok, read_var, read_seq, parsed}
use Rattle.vs_grammar.specs.Grammars.Tree.{leaf}
use Rattle.vs_parser.proofs.Pieces.{control_made}
use Rattle.vs_parser.proofs.processes.event_control.Goals as goal

pub returns-in_err-sign : goal.returns-in_err-sign
returns-in_err-sign c = answer_exit _ _ c.from_residual.result c.in_err-sign.field-0.0 c.from_residual.ensures.1 (refused_var (refused_seq (refused_missing c.in_err-sign.ensures)))

pub returns-in_err-control : goal.returns-in_err-control
returns-in_err-control c = answer_exit _ _ c.from_residual-in_err-control.result c.in_err-control.field-0.0 c.from_residual-in_err-control.ensures.1 (refused_var (refused_then (read_tok c.args.depth.limit c.in_ok-sign.ensures) c.in_err-control.ensures))

pub returns : goal.returns
returns c = parsed (read_var (read_seq (read_tok c.args.depth.limit c.in_ok-sign.ensures) c.in_ok-control.ensures.read)) (control_made (bytes_in c.args.input.now) (leaf (terminal_at c.args.input.now.tokens.now c.args.at)) c.in_ok-control.ensures.tree ∙ c.in_ok-control.ensures.made)
