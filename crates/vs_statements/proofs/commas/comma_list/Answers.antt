use Rattle.std.proofs.Common.{refl}
use Rattle.vs_statements.proofs.Places.{answer_exit, refused_memory, refused_seq, refused_then, refused_more, one_true, one_false}
use Rattle.vs_statements.proofs.Pairs.{ok_at, err_at}
use Rattle.vs_statements.proofs.Lists.{shorter, listed_start, listed_more, listed_done}
use Rattle.vs_statements.proofs.commas.comma_list.Goals as goal

pub returns-in_err-first : goal.returns-in_err-first
returns-in_err-first g c = answer_exit _ _ c.from_residual.result c.in_err-first.field-0.0 c.from_residual.ensures.1 (refused_seq (c.requires.reads c.args.at _ c.ranges.at.fits c.in_err-first.ensures))

pub returns-in_err-list : goal.returns-in_err-list
returns-in_err-list g c = answer_exit _ _ c.from_residual-in_err-list.result c.in_err-list.field-0.0 c.from_residual-in_err-list.ensures.1 (refused_memory c.in_err-list.ensures)

pub loop-depth-init : goal.loop-depth-init
loop-depth-init g c = let a = c.requires.reads c.args.at _ c.ranges.at.fits c.in_ok-first.ensures in listed_start c.in_ok-first.first.value _ c.args.depth.limit a.read a.made c.in_ok-list.ensures

pub returns-in_err-before : goal.returns-in_err-before
returns-in_err-before g c = answer_exit _ _ c.from_residual-in_err-before.result c.in_err-before.field-0.0 c.from_residual-in_err-before.ensures.1 (refused_then c.loop-depth.invariant.read (refused_more c.loop-depth.invariant.grown (one_true _ c.stands.result c.stands.ensures c.loop-depth-test.true) (err_at _ _ c.in_err-before.ensures c.behind_comma-next.ensures)))

pub returns-in_err-list-2 : goal.returns-in_err-list-2
returns-in_err-list-2 g c = answer_exit _ _ c.from_residual-in_err-list-2.result c.in_err-list-2.field-0.0 c.from_residual-in_err-list-2.ensures.1 (refused_memory c.in_err-list-2.ensures)

pub loop-depth-smaller : goal.loop-depth-smaller
loop-depth-smaller g c = shorter (ok_at _ _ c.in_ok-before.ensures.1 c.behind_comma-next.ensures).read refl

pub loop-depth-preserved : goal.loop-depth-preserved
loop-depth-preserved g c = listed_more c.in_ok-before.next.value _ c.loop-depth.invariant (one_true _ c.stands.result c.stands.ensures c.loop-depth-test.true) (ok_at _ _ c.in_ok-before.ensures.1 c.behind_comma-next.ensures).read (ok_at _ _ c.in_ok-before.ensures.1 c.behind_comma-next.ensures).made (rw c.in_ok-before.ensures.0 at c.in_ok-list-2.ensures)

pub returns : goal.returns
returns g c = listed_done c.loop-depth.invariant (one_false _ c.stands.result c.stands.ensures c.loop-depth-test.false)
