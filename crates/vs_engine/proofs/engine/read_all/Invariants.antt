use Rattle.std.proofs.Common.{◌*◌}
use Rattle.vs_design.specs.Values.{read}
use Rattle.vs_plane.specs.Lanes.{slot_lane}
use Rattle.vs_program.specs.Lowered.{home}
use Rattle.vs_program.specs.Compiled.{span_bits}
use Rattle.vs_engine.proofs.Groups.{FirstAre}
use Rattle.vs_engine.proofs.engine.read_all.Given as goal

-- the lanes of the first groups have their values
abbrev pub invariant-loop-k : goal.invariant-loop-k
invariant-loop-k g l = FirstAre (λ n. read (λ b. slot_lane g.W.Word.lane l.file (home b) n) (span_bits l.span)) (64 * l.k) l.initial.out l.out
