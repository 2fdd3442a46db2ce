use Rattle.std.proofs.Common.{◌≡◌, ◌-◌, ℕ, ap, ◌∙◌}
use Rattle.vs_ast.specs.Views as view
use Rattle.vs_elaborated.specs.Limits.{the_limits}
use Rattle.vs_scope.specs.Frames.{view_env}
use Rattle.vs_items.proofs.BlockSteps.{statement_said}
use Rattle.vs_items.proofs.blocks.found_plain.Goals as goal

pub check_statement-requires-clause-fair : goal.check_statement-requires-clause-fair
check_statement-requires-clause-fair c = c.fair_law.ensures c.args.here.now

pub returns-clause-fault : goal.returns-clause-fault
returns-clause-fault c =
    let before = c.args.loops.now in
    let left : c.saturating_sub-left.result ≡ the_limits.copies - before.copies = c.saturating_sub-left.ensures ∙ ap (λ (n : ℕ). 1048576 - n) c.copies.ensures in
    (statement_said the_limits (view_env c.args.here.now) before (view.always_block c.args.b.now) c.in_ok-said.said c.saturating_sub-left.result c.is_clocked.result left c.is_clocked.ensures c.in_ok-said.ensures).fault

pub returns-clause-copies : goal.returns-clause-copies
returns-clause-copies c =
    let before = c.args.loops.now in
    let left : c.saturating_sub-left.result ≡ the_limits.copies - before.copies = c.saturating_sub-left.ensures ∙ ap (λ (n : ℕ). 1048576 - n) c.copies.ensures in
    (statement_said the_limits (view_env c.args.here.now) before (view.always_block c.args.b.now) c.in_ok-said.said c.saturating_sub-left.result c.is_clocked.result left c.is_clocked.ensures c.in_ok-said.ensures).copies
