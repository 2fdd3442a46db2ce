-- Each goes to earlier expressions, or to fewer parts; a list has fewer than 2^65.
use Rattle.std.proofs.Common.{◌+◌, ◌*◌, length}
use Rattle.vs_zero.proofs.targets.+writing.Given as goal

abbrev pub decreases-put : goal.decreases-put
decreases-put l = 36893488147419103232 * l.e + 36893488147419103231

abbrev pub decreases-put_parts : goal.decreases-put_parts
decreases-put_parts l = 36893488147419103232 * l.e + length l.parts.now
