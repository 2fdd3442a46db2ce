use Rattle.std.proofs.Common.{◌≡◌}
use Rattle.vs_desk.specs.Desk.{no_register}
use Rattle.vs_desk.specs.MemoryDesk as memory
use Rattle.cases.proofs.trial.desk_of.Given as goal

abbrev pub invariant-loop-part : goal.invariant-loop-part
invariant-loop-part l = memory.register l.desk ≡ no_register
