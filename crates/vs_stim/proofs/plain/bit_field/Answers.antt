use Rattle.std.proofs.Common.{sym}
use Rattle.vs_stim.proofs.Ahead.{planes_count}
use Rattle.vs_stim.proofs.plain.bit_field.Goals as goal

pub returns-clause-size : goal.returns-clause-size
returns-clause-size c = sym (planes_count 1 c.plain_digit-digit.result 0 c.of_planes.result (sym c.of_planes.ensures))
