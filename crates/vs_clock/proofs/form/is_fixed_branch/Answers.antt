use Rattle.std.proofs.Common.{ap, ◌∙◌}
use Rattle.vs_design.specs.Resets.{is_fixed}
use Rattle.vs_flat.specs.Arena.{Arena}
use Rattle.vs_flat.specs.DesignOf.{arena_statements}
use Rattle.vs_flat.specs.Trees.{statement_at}
use Rattle.vs_clock.proofs.form.is_fixed_branch.Goals as goal

pub returns : goal.returns
returns c = c.is_fixed.ensures ∙ ap (λ (a : Arena). is_fixed (statement_at (arena_statements a) c.args.s)) c.shapes.ensures
