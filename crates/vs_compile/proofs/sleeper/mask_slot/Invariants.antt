use Rattle.std.proofs.Common.{◌≡◌, ◌+◌, ◌≤◌, length, take}
use Rattle.vs_flat.specs.DesignOf.{design_of}
use Rattle.vs_program.specs.Layouts.{sleepers_from}
use Rattle.vs_compile.proofs.sleeper.mask_slot.Given as goal

-- those of the processes from p on
abbrev pub invariant-loop-q : goal.invariant-loop-q
invariant-loop-q l = record {
  counted : l.from_here + length (sleepers_from (design_of l.typed) 0 (take l.p (design_of l.typed).processes)) ≡ length (sleepers_from (design_of l.typed) 0 (take l.q (design_of l.typed).processes));
  few : l.from_here ≤ l.q;
}
