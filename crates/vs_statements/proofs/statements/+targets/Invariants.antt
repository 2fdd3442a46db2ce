use Rattle.std.proofs.Common.{◌+◌, ◌-◌, ◌*◌}
use Rattle.vs_statements.proofs.statements.+targets.Given as goal

abbrev pub decreases-target : goal.decreases-target
decreases-target l = 5 * (201 - l.depth.value) + 2

abbrev pub decreases-targets : goal.decreases-targets
decreases-targets l = 5 * (201 - l.depth.value) + 1

abbrev pub decreases-target_list : goal.decreases-target_list
decreases-target_list l = 5 * (201 - l.depth.value) + 4

abbrev pub decreases-target_list-read : goal.decreases-target_list-read
decreases-target_list-read l = 5 * (201 - l.depth.value) + 3
