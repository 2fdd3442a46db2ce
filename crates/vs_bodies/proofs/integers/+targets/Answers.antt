use Rattle.std.proofs.Common.{List, sym, ap, ◌∙◌}
use Rattle.vs_ast.specs.declared.statements.Target.{Target}
use Rattle.vs_ast.specs.Views as view
use Rattle.vs_elaborated.specs.Uses as spec
use Rattle.vs_bodies.proofs.FaultLists.{concatenation_view}
use Rattle.vs_bodies.proofs.integers.+targets.Goals as goal

pub is_target-returns-in-Concatenation : goal.is_target-returns-in-Concatenation
is_target-returns-in-Concatenation t c =
    let w = c.in-Concatenation in
    let name = c.args.name.now in
    c.is_among_targets.ensures
    ∙ ap (λ (ts : List Target). spec.is_among_targets name (view.targets ts)) c.deref.ensures.value
    ∙ sym (ap (spec.is_target name) (ap view.target w.is ∙ concatenation_view w.place w.parts))
