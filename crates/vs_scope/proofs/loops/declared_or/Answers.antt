use Rattle.std.proofs.Common.{ℕ, List, Option, sym, ap, ◌∙◌}
use Rattle.vs_const.specs.Faults.{least}
use Rattle.vs_elaborated.specs.Environments.{Entry, find_name}
use Rattle.vs_elaborated.specs.Loops as spec
use Rattle.vs_scope.specs.Frames.{view_env}
use Rattle.vs_scope.proofs.loops.declared_or.Goals as goal

pub returns-in-Some : goal.returns-in-Some
returns-in-Some c =
    c.fault_at-in-Some.ensures ∙ sym (ap (λ (o : Option Entry). least (spec.declared_or c.args.name.now.place o)) c.in-Some.ensures.found_is)
    ∙ ap (λ (n : List ℕ). least (spec.declared_or c.args.name.now.place (find_name (view_env c.args.here.now).frames n))) c.as_slice.ensures
