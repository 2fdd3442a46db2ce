use Rattle.std.proofs.Common.{◌≡◌, ℕ, ◌+◌, ◌<◌, length, get_or}
use Rattle.vs_design.specs.Values.{read}
use Rattle.vs_plane.specs.Lanes.{slot_lane}
use Rattle.vs_program.specs.Lowered.{home}
use Rattle.vs_program.specs.Compiled.{span_bits}
use Rattle.vs_engine.proofs.Groups.{GroupIs}
use Rattle.vs_engine.proofs.engine.read_group.Given as goal

-- the first lanes of the group have their values
abbrev pub invariant-loop-i : goal.invariant-loop-i
invariant-loop-i g l = GroupIs (λ n. read (λ b. slot_lane g.W.Word.lane l.file (home b) n) (span_bits l.fn.span)) l.k l.i l.initial.out l.out

-- the slots of the first bits
abbrev pub invariant-loop-n : goal.invariant-loop-n
invariant-loop-n g l = record {
  long : length l.slots ≡ 64;
  slots : (j : ℕ) → j < l.n → get_or l.slots j 0 ≡ 4 + l.span.first + j;
}

-- the first lanes of the group have their values
abbrev pub invariant-loop-i-else-span-eq1 : goal.invariant-loop-i-else-span-eq1
invariant-loop-i-else-span-eq1 g l = GroupIs (λ n. read (λ b. slot_lane g.W.Word.lane l.file (home b) n) (span_bits l.span)) l.k l.i l.initial.out l.out
