use Rattle.vs_statements.specs.Reading.{bytes_in}
use Rattle.vs_statements.proofs.Places.{answer_exit, refused_seq, refused_then, read_seq, parsed}
use Rattle.vs_statements.proofs.Pairs.{ok_at, err_at}
use Rattle.vs_statements.proofs.Arms.{assignment_made}
use Rattle.vs_statements.proofs.statements.assignment.Goals as goal

pub returns-in_err-target : goal.returns-in_err-target
returns-in_err-target c = answer_exit _ _ c.from_residual.result c.in_err-target.field-0.0 c.from_residual.ensures.1 (refused_seq c.in_err-target.ensures)

pub returns-in_err-target-2 : goal.returns-in_err-target-2
returns-in_err-target-2 c = answer_exit _ _ c.from_residual-in_err-target-2.result c.in_err-target-2.field-0.0 c.from_residual-in_err-target-2.ensures.1 (refused_then c.in_ok-target.ensures.read (err_at _ _ c.in_err-target-2.ensures c.right_side-right.ensures))

pub returns : goal.returns
returns c = let w = ok_at _ _ c.in_ok-target-2.ensures.1 c.right_side-right.ensures in rw c.in_ok-target-2.ensures.0 (parsed (read_seq c.in_ok-target.ensures.read w.read) (assignment_made (bytes_in c.args.input.now) c.in_ok-target.ensures.tree w.tree c.in_ok-target.ensures.made w.made))
