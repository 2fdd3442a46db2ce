-- What a run of a design begins with.
use Rattle.std.specs.Prelude.{ℕ, List, [], ◌∷◌, ◌++◌, map, replicate, length, if◌then◌else◌}
use Rattle.vs_design.specs.Designs as D
use Rattle.vs_design.specs.Designs.{Design, top_inputs}
use Rattle.vs_queue.specs.Spare.{spare_count, has_keeper}
use Rattle.vs_flat.specs.declared.processes.Kind.{Kind}
use Rattle.vs_flat.specs.declared.processes.Kind.TheVariants as K
use Rattle.vs_events.specs.declared.beginning.Role.{Role}
use Rattle.vs_events.specs.declared.beginning.Role.TheVariants as R

abbrev pub role_of_process : D.Process → Role
role_of_process x = if D.is_assign x then R.Assign else R.Block

-- and that of a kind of a flat design
abbrev pub role_of_kind : Kind → Role
role_of_kind (K.Assign target e port) = R.Assign
role_of_kind (K.Block star events s) = R.Block

-- those of its processes, and then those of its inputs
abbrev pub roles_of : Design → List Role
roles_of d = map role_of_process d.processes ++ replicate (length (top_inputs d)) R.Input

-- and those of clocks that are none of its bits
abbrev pub driven_roles : Design → List ℕ → List Role
driven_roles d clocks = roles_of d ++ replicate (spare_count d clocks) R.Input

-- and that of the block that keeps what initial processes alone write
abbrev pub all_roles : Design → List ℕ → List Role
all_roles d clocks = if has_keeper d then driven_roles d clocks ++ R.Block ∷ [] else driven_roles d clocks
