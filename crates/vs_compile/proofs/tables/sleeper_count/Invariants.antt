use Rattle.std.proofs.Common.{◌≡◌, ◌≤◌, length, take}
use Rattle.vs_flat.specs.DesignOf.{design_of}
use Rattle.vs_program.specs.Layouts.{sleepers_from}
use Rattle.vs_compile.proofs.tables.sleeper_count.Given as goal

-- those of the first processes
abbrev pub invariant-loop-p : goal.invariant-loop-p
invariant-loop-p l = record {
  counted : l.count ≡ length (sleepers_from (design_of l.typed) 0 (take l.p (design_of l.typed).processes));
  few : l.count ≤ l.p;
}
