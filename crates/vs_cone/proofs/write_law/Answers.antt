use Rattle.vs_cone.proofs.Writes.{write_all_at, write_all_covered, write_all_other}
use Rattle.vs_cone.proofs.write_law.Goals as goal

pub returns : goal.returns
returns c = record { at = write_all_at; covered = write_all_covered; other = write_all_other }
