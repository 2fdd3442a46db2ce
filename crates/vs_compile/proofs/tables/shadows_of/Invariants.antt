use Rattle.std.proofs.Common.{◌≡◌, length}
use Rattle.vs_compile.proofs.Shadows.{HaveFirst}
use Rattle.vs_compile.proofs.tables.shadows_of.Given as goal

-- the shadows of the first registers are there
abbrev pub invariant-loop-place : goal.invariant-loop-place
invariant-loop-place l = record {
  long : length l.shadows.items ≡ l.count;
  places : HaveFirst l.count l.registers l.shadows.items l.place;
}
