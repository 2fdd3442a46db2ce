use Rattle.std.proofs.Common.{refl, ap, map, arith}
use Rattle.vs_ast.specs.Views as view
use Rattle.vs_statements.specs.declared.error.ParseError.TheVariants.{Memory}
use Rattle.vs_statements.specs.Reading.Refused.{out_of_memory}
use Rattle.vs_statements.proofs.Places.{answer_exit, refused_memory, refused_seq, refused_then, refused_missing, read_tok, one_true, one_false}
use Rattle.vs_statements.proofs.Lists.{shorter}
use Rattle.vs_parser.specs.Parts.{is_variable}
use Rattle.vs_parser.proofs.Headers.{refused_comma, ports_start, ports_more, ports_done, map_pushed}
use Rattle.vs_statements.proofs.Pairs.{ok_at, err_at}
use Rattle.vs_parser.proofs.modules.more_ports.Goals as goal

pub loop-depth-init : goal.loop-depth-init
loop-depth-init c = rw (ap (map view.signals) c.new.ensures.items) (ports_start c.args.input.now (view.signals c.args.first) c.args.depth.value c.args.at)

pub returns-in_err-before : goal.returns-in_err-before
returns-in_err-before c = answer_exit _ _ c.from_residual.result c.in_err-before.field-0.0 c.from_residual.ensures.1 (c.loop-depth.invariant.refused _ (refused_comma (is_variable (view.signals c.loop-depth.state.last).kind) (one_true _ c.stands.result c.stands.ensures c.loop-depth-test.true) (refused_seq (refused_missing (err_at _ _ c.in_err-before.ensures c.take-comma.ensures)))))

pub returns-in_err-state : goal.returns-in_err-state
returns-in_err-state c = answer_exit _ _ c.from_residual-in_err-state.result c.in_err-state.field-0.0 c.from_residual-in_err-state.ensures.1 (c.loop-depth.invariant.refused _ (refused_comma (is_variable (view.signals c.loop-depth.state.last).kind) (one_true _ c.stands.result c.stands.ensures c.loop-depth-test.true) (refused_then (read_tok c.args.depth.limit (ok_at _ _ c.in_ok-before.ensures.1 c.take-comma.ensures)) (rw c.in_ok-before.ensures.0 at c.in_err-state.ensures))))

pub loop-depth-smaller : goal.loop-depth-smaller
loop-depth-smaller c =
    let p = shorter (read_tok c.args.depth.limit (ok_at _ _ c.in_ok-before.ensures.1 c.take-comma.ensures)) refl in
    let q = (rw c.in_ok-before.ensures.0 at c.in_ok-state.ensures).further in
    omega arith

pub loop-depth-preserved : goal.loop-depth-preserved
loop-depth-preserved c = ports_more c.args.depth.limit c.loop-depth.invariant (one_true _ c.stands.result c.stands.ensures c.loop-depth-test.true) (ok_at _ _ c.in_ok-before.ensures.1 c.take-comma.ensures) (rw c.in_ok-before.ensures.0 at c.in_ok-state.ensures)

pub returns-in_err-list : goal.returns-in_err-list
returns-in_err-list c = answer_exit _ _ c.from_residual-in_err-list.result c.in_err-list.field-0.0 c.from_residual-in_err-list.ensures.1 (refused_memory c.in_err-list.ensures)

pub returns : goal.returns
returns c = ports_done _ c.args.depth.limit c.loop-depth.invariant (one_false _ c.stands.result c.stands.ensures c.loop-depth-test.false) (map_pushed view.signals _ _ c.loop-depth.state.last c.in_ok-list.ensures)
