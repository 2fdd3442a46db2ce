use Rattle.std.proofs.Common.{refl}
use Rattle.vs_statements.specs.Parts as part
use Rattle.vs_statements.proofs.Places.{answer_exit, refused_seq, refused_then, refused_missing, read_tok, read_seq, parsed, ap2}
use Rattle.vs_statements.proofs.Pairs.{ok_at, err_at}
use Rattle.vs_statements.proofs.Firsts.{stopped_first}
use Rattle.vs_statements.proofs.Tables.{read_chosen}
use Rattle.vs_statements.proofs.statements.right_side.Goals as goal

pub returns-in_default : goal.returns-in_default
returns-in_default c = refused_seq (stopped_first 1 part.assignment_kinds c.in_default.ensures refl)

pub returns-in_err-source : goal.returns-in_err-source
returns-in_err-source c = answer_exit _ _ c.from_residual.result c.in_err-source.field-0.0 c.from_residual.ensures.1 (refused_then (read_chosen c.args.depth.limit c.in-Some.ensures) (refused_seq c.in_err-source.ensures))

pub returns-in_err-source-2 : goal.returns-in_err-source-2
returns-in_err-source-2 c = answer_exit _ _ c.from_residual-in_err-source-2.result c.in_err-source-2.field-0.0 c.from_residual-in_err-source-2.ensures.1 (refused_then (read_chosen c.args.depth.limit c.in-Some.ensures) (refused_then c.in_ok-source.ensures.read (refused_missing (err_at _ _ c.in_err-source-2.ensures c.take-end.ensures))))

pub returns : goal.returns
returns c = rw c.in_ok-source-2.ensures.0 (parsed (read_seq (read_chosen c.args.depth.limit c.in-Some.ensures) (read_seq c.in_ok-source.ensures.read (read_tok c.args.depth.limit (ok_at _ _ c.in_ok-source-2.ensures.1 c.take-end.ensures)))) (ap2 (λ x y. (x, y)) c.in-Some.ensures.made c.in_ok-source.ensures.made))
