use Rattle.std.proofs.Common.{◌≡◌, ◌-◌, ℕ, List, map, ap, ◌∙◌, sym}
use Rattle.vs_const.specs.Faults.{least, better}
use Rattle.vs_const.proofs.Least.{least_append}
use Rattle.vs_ast.specs.Views as view
use Rattle.vs_elaborated.specs.Heads.{shared_heads}
use Rattle.vs_elaborated.specs.Limits.{the_limits}
use Rattle.vs_elaborated.specs.Surveys.{initial_statement, initial_heads}
use Rattle.vs_scope.specs.Frames.{view_env}
use Rattle.vs_items.specs.declared.loops.Head.{Head}
use Rattle.vs_items.specs.Loops.{head}
use Rattle.vs_items.proofs.BlockSteps.{initial_statement_said}
use Rattle.vs_items.proofs.blocks.initial_fault.Goals as goal

pub check_statement-requires-clause-fair : goal.check_statement-requires-clause-fair
check_statement-requires-clause-fair c = c.fair_law.ensures c.args.here.now

pub returns-clause-fault : goal.returns-clause-fault
returns-clause-fault c =
    let b = view.initial_block c.args.b.now in
    let env = view_env c.args.here.now in
    let before = c.args.loops.now in
    let left : c.saturating_sub-left.result ≡ the_limits.copies - before.copies = c.saturating_sub-left.ensures ∙ ap (λ (n : ℕ). 1048576 - n) c.copies.ensures in
    let said = initial_statement_said the_limits env before b c.in_ok-said.said c.saturating_sub-left.result left c.in_ok-said.ensures in
    let fs = (initial_statement the_limits env before b).faults in
    let hs = shared_heads before.headed (initial_heads env b) in
    let shared = c.shared_fault-shared.ensures ∙ ap (λ (xs : List Head). least (shared_heads before.headed (map head xs))) c.as_slice.ensures.value ∙ ap (λ xs. least (shared_heads before.headed xs)) c.in_ok-heads.ensures in
    c.first_of.ensures ∙ ap (λ x. better x c.shared_fault-shared.result) said.fault ∙ ap (better (least fs)) shared ∙ sym (least_append fs hs)
