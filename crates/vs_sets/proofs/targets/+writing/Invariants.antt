-- Each goes to earlier expressions, or to fewer parts; a list has fewer than 2^65.
use Rattle.std.proofs.Common.{◌+◌, ◌*◌, length}
use Rattle.vs_sets.proofs.targets.+writing.Given as goal

abbrev pub decreases-write : goal.decreases-write
decreases-write l = 36893488147419103232 * l.e + 36893488147419103231

abbrev pub decreases-write_parts : goal.decreases-write_parts
decreases-write_parts l = 36893488147419103232 * l.e + length l.parts.now
