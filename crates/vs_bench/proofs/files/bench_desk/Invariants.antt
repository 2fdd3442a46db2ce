use Rattle.std.proofs.Common.{◌≡◌}
use Rattle.vs_desk.specs.Desk.{no_register}
use Rattle.vs_desk.specs.MemoryDesk as memory
use Rattle.vs_bench.specs.Bench.{files}
use Rattle.vs_bench.proofs.files.bench_desk.Given as goal

abbrev pub invariant-loop-lane : goal.invariant-loop-lane
invariant-loop-lane l = record {
  register : memory.register l.desk ≡ no_register;
  plan : memory.plan l.desk ≡ memory.first_plan 65536;
  contents : memory.contents l.desk ≡ files l.vectors l.lane;
}
