use Rattle.std.proofs.Common.{◌≡◌}
use Rattle.vs_desk.specs.Desk.{no_register}
use Rattle.vs_desk.specs.MemoryDesk as memory
use Rattle.test_runs.proofs.runs.desk_with.Given as goal

abbrev pub invariant-loop-path : goal.invariant-loop-path
invariant-loop-path l = memory.register l.desk ≡ no_register
