use Rattle.vs_statements.proofs.Places.{answer_exit, refused_seq, refused_then, refused_missing, read_tok, read_seq, parsed}
use Rattle.vs_parser.proofs.functions.inputs_behind.Goals as goal

pub returns-in_err-semicolon : goal.returns-in_err-semicolon
returns-in_err-semicolon c = answer_exit _ _ c.from_residual.result c.in_err-semicolon.field-0.0 c.from_residual.ensures.1 (refused_seq (refused_missing c.in_err-semicolon.ensures))

pub returns-in_err-found : goal.returns-in_err-found
returns-in_err-found c = answer_exit _ _ c.from_residual-in_err-found.result c.in_err-found.field-0.0 c.from_residual-in_err-found.ensures.1 (refused_then (read_tok c.args.depth.limit c.in_ok-semicolon.ensures) c.in_err-found.ensures)

pub returns : goal.returns
returns c = parsed (read_seq (read_tok c.args.depth.limit c.in_ok-semicolon.ensures) c.in_ok-found.ensures.read) c.in_ok-found.ensures.made
