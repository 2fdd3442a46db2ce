use Rattle.std.proofs.Common.{ℕ, List, subst}
use Rattle.vs_elaborated.specs.Environments.{find_name}
use Rattle.vs_elaborated.specs.Loops as spec
use Rattle.vs_scope.specs.Blocks.{IsVariable}
use Rattle.vs_scope.specs.Frames.{view_env}
use Rattle.vs_scope.proofs.loops.variable_of.Goals as goal

pub returns-in-Some : goal.returns-in-Some
returns-in-Some c =
    subst (λ (n : List ℕ). IsVariable c.declared_variable.result (spec.variable_of c.args.name.now.place (find_name (view_env c.args.here.now).frames n))) c.as_slice.ensures (c.declared_variable.ensures _ _ c.in-Some.ensures)
