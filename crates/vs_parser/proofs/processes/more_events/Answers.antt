use Rattle.std.proofs.Common.{refl}
use Rattle.vs_grammar.specs.Verilog.{Rule as rule, r}
use Rattle.vs_grammar.specs.Meaning as meaning
use Rattle.vs_ast.specs.Views as view
use Rattle.vs_statements.specs.declared.error.ParseError.TheVariants.{Memory}
use Rattle.vs_parser.specs.Parts as part
use Rattle.vs_statements.specs.Reading.Refused.{out_of_memory}
use Rattle.vs_statements.proofs.Places.{answer_exit, refused_memory, refused_then, refused_more, read_seq}
use Rattle.vs_statements.proofs.Tables.{read_chosen}
use Rattle.vs_statements.proofs.Lists.{shorter, listing_start, listing_more, listing_behind}
use Rattle.vs_grammar.specs.Verilog.{◌⨾◌}
use Rattle.vs_statements.proofs.Pairs.{ok_at, err_at}
use Rattle.vs_parser.proofs.processes.more_events.Goals as goal

pub loop-sign-init : goal.loop-sign-init
loop-sign-init c = listing_start c.args.input.now (part.event_sign ⨾ r rule.Event) (λ b. meaning.behind_sign (meaning.event_of b)) view.event c.args.depth.value c.args.before.items c.args.at c.args.depth.limit

pub returns-in_err-before : goal.returns-in_err-before
returns-in_err-before c = answer_exit _ _ c.from_residual.result c.in_err-before.field-0.0 c.from_residual.ensures.1 (refused_more c.loop-sign.invariant.grown c.in-Some.ensures.here (refused_then (read_chosen c.args.depth.limit c.in-Some.ensures) (err_at _ _ c.in_err-before.ensures c.event-next.ensures)))

pub returns-in_err-list : goal.returns-in_err-list
returns-in_err-list c = answer_exit _ _ c.from_residual-in_err-list.result c.in_err-list.field-0.0 c.from_residual-in_err-list.ensures.1 (refused_memory c.in_err-list.ensures)

pub loop-sign-smaller : goal.loop-sign-smaller
loop-sign-smaller c = shorter (read_seq (read_chosen c.args.depth.limit c.in-Some.ensures) (ok_at _ _ c.in_ok-before.ensures.1 c.event-next.ensures).read) refl

pub loop-sign-preserved : goal.loop-sign-preserved
loop-sign-preserved c = listing_more c.in_ok-before.next.value _ c.loop-sign.invariant c.in-Some.ensures.here (read_seq (read_chosen c.args.depth.limit c.in-Some.ensures) (ok_at _ _ c.in_ok-before.ensures.1 c.event-next.ensures).read) (ok_at _ _ c.in_ok-before.ensures.1 c.event-next.ensures).made (rw c.in_ok-before.ensures.0 at c.in_ok-list.ensures)

pub returns : goal.returns
returns c = listing_behind c.loop-sign.invariant c.in_default.ensures
