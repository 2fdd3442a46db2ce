use Rattle.std.proofs.Common.{◌≡◌, ℕ, suc, Bool, [], Option, Some, IfOk, sym, subst}
use Rattle.vs_ast.specs.Views as view
use Rattle.vs_ast.specs.Views.{option}
use Rattle.vs_elaborated.specs.Limits.{the_limits}
use Rattle.vs_elaborated.specs.Loops as spec
use Rattle.vs_scope.specs.Blocks.{block}
use Rattle.vs_scope.specs.Frames.{view_env}
use Rattle.vs_scope.specs.Made.{made, kept}
use Rattle.vs_scope.specs.Turns.{AreTurns}
use Rattle.vs_scope.proofs.loops.loop_at.Goals as goal

pub returns-in_ok-all-in-Some-first : goal.returns-in_ok-all-in-Some-first
returns-in_ok-all-in-Some-first c = λ fs h.
    let head = view.loop_head c.args.head.now in
    let env = view_env c.args.here.now in
    let turns = λ (b : Bool). spec.turns_from (suc the_limits.turns) the_limits head b c.in-Some.genvar env [] c.args.total c.in-Some-first.v in
    subst (λ (g : Option ℕ). IfOk c.loop_blocks.result (λ m. made m ≡ kept (spec.loop_from the_limits head g c.args.first fs (option block c.args.body) env c.args.total))) (sym c.in-Some.is)
    (subst (λ (v : Option ℕ). IfOk c.loop_blocks.result (λ m. made m ≡ kept (spec.loop_from the_limits head (Some c.in-Some.genvar) v fs (option block c.args.body) env c.args.total))) (sym c.in-Some-first.is)
    (c.loop_blocks.ensures fs _ h (subst (λ (b : Bool). AreTurns c.in_ok-all-in-Some-first.all (turns b)) c.requires.same c.in_ok-all-in-Some-first.ensures)))
