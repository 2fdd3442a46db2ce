use Rattle.std.proofs.Common.{◌≡◌, ◌+◌, ◌-◌, ℕ, ap, ◌∙◌}
use Rattle.vs_ast.specs.Views as view
use Rattle.vs_elaborated.specs.Limits.{the_limits}
use Rattle.vs_elaborated.specs.Surveys.{Loops}
use Rattle.vs_scope.specs.Locals.{inside_declared, inside_names}
use Rattle.vs_scope.proofs.InsideNames.{inside_fair, declared_fair}
use Rattle.vs_items.proofs.BlockSteps.{within_said}
use Rattle.vs_items.proofs.blocks.scoped_fault.Goals as goal

pub check_statement-requires-clause-fair : goal.check_statement-requires-clause-fair
check_statement-requires-clause-fair c = inside_fair c.args.inside.now

pub check_statement-requires-clause-declared : goal.check_statement-requires-clause-declared
check_statement-requires-clause-declared c = declared_fair c.args.inside.now

pub returns-clause-fault : goal.returns-clause-fault
returns-clause-fault c =
    let before = c.args.loops.now in
    let inside = c.args.inside.now in
    let left : c.saturating_sub-left.result ≡ the_limits.copies - before.copies = c.saturating_sub-left.ensures ∙ ap (λ (n : ℕ). 1048576 - n) c.copies.ensures in
    (within_said before (inside_declared inside) (inside_names inside) (view.always_block c.args.b.now) c.in_ok-said.said c.saturating_sub-left.result c.is_clocked.result left c.is_clocked.ensures c.in_ok-said.ensures).fault

pub returns-clause-loops : goal.returns-clause-loops
returns-clause-loops c =
    let before = c.args.loops.now in
    let inside = c.args.inside.now in
    let left : c.saturating_sub-left.result ≡ the_limits.copies - before.copies = c.saturating_sub-left.ensures ∙ ap (λ (n : ℕ). 1048576 - n) c.copies.ensures in
    let said = within_said before (inside_declared inside) (inside_names inside) (view.always_block c.args.b.now) c.in_ok-said.said c.saturating_sub-left.result c.is_clocked.result left c.is_clocked.ensures c.in_ok-said.ensures in
    c.in_ok-add_copies.ensures ∙ ap (λ (n : ℕ). let l : Loops = record { copies = before.copies + n; headed = before.headed } in l) said.copies
