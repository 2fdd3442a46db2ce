use Rattle.std.proofs.Common.{◌*◌}
use Rattle.vs_plane.proofs.ColumnBits.{AreRows}
use Rattle.vs_plane.proofs.file.PlaneFile.columns.Given as goal

abbrev pub invariant-loop-n : goal.invariant-loop-n
invariant-loop-n g l = AreRows g.W.Word.lane l.self l.slots (64 * l.k) l.n l.value l.unknown
