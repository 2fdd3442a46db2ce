use Rattle.std.proofs.Common.{◌≡◌, ◌++◌, replicate}
use Rattle.vs_flat.specs.DesignOf.{design_of}
use Rattle.vs_events.specs.declared.beginning.Role.TheVariants as R
use Rattle.vs_queue.specs.Beginnings.{roles_of}
use Rattle.vs_queue.proofs.first.driven_roles.Given as goal

abbrev pub invariant-loop-n : goal.invariant-loop-n
invariant-loop-n l = l.roles.items ≡ roles_of (design_of l.flat) ++ replicate l.n R.Input
