use Rattle.std.proofs.Common.{◌≡◌, ◌++◌, map, take, replicate}
use Rattle.vs_flat.specs.DesignOf.{design_of}
use Rattle.vs_events.specs.declared.beginning.Role.TheVariants as R
use Rattle.vs_queue.specs.Beginnings.{role_of_process}
use Rattle.vs_queue.proofs.first.roles_of.Given as goal

abbrev pub invariant-loop-p : goal.invariant-loop-p
invariant-loop-p l = l.roles.items ≡ map role_of_process (take l.p (design_of l.flat).processes)

abbrev pub invariant-loop-i : goal.invariant-loop-i
invariant-loop-i l = l.roles.items ≡ map role_of_process (design_of l.flat).processes ++ replicate l.i R.Input
