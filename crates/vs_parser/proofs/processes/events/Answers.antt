use Rattle.vs_statements.specs.declared.error.ParseError.TheVariants.{Memory}
use Rattle.vs_statements.specs.Reading.{bytes_in}
use Rattle.vs_statements.specs.Reading.Refused.{out_of_memory}
use Rattle.vs_statements.proofs.Places.{answer_exit, refused_memory, refused_seq, refused_then, read_seq, parsed}
use Rattle.vs_statements.proofs.Lists.{pushed_first}
use Rattle.vs_parser.proofs.Pieces.{events_made}
use Rattle.vs_statements.proofs.Pairs.{ok_at, err_at}
use Rattle.vs_parser.proofs.processes.events.Goals as goal

pub returns-in_err-first : goal.returns-in_err-first
returns-in_err-first c = answer_exit _ _ c.from_residual.result c.in_err-first.field-0.0 c.from_residual.ensures.1 (refused_seq c.in_err-first.ensures)

pub returns-in_err-begun : goal.returns-in_err-begun
returns-in_err-begun c = answer_exit _ _ c.from_residual-in_err-begun.result c.in_err-begun.field-0.0 c.from_residual-in_err-begun.ensures.1 (refused_memory c.in_err-begun.ensures)

pub returns : goal.returns
returns c = parsed (read_seq c.in_ok-first.ensures.read c.in_ok-list.ensures.read) (events_made (bytes_in c.args.input.now) c.in_ok-first.ensures.tree c.in_ok-list.ensures.tree c.in_ok-first.first.value _ c.in_ok-list.list.value.items c.in_ok-first.ensures.made c.in_ok-begun.ensures c.in_ok-list.ensures.made)

pub returns-in_err-list : goal.returns-in_err-list
returns-in_err-list c = answer_exit _ _ c.from_residual-in_err-list.result c.in_err-list.field-0.0 c.from_residual-in_err-list.ensures.1 (refused_then c.in_ok-first.ensures.read c.in_err-list.ensures)
