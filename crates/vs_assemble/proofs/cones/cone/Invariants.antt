use Rattle.std.proofs.Common.{◌≡◌, List, ℕ, ◌++◌, length, drop}
use Rattle.vs_cone.specs.Cones.{cone}
use Rattle.vs_code.specs.Calls.{Call}
use Rattle.vs_assemble.specs.Flags.{AreFlags}
use Rattle.vs_assemble.specs.Runs.{AreRunsOf}
use Rattle.vs_assemble.proofs.cones.cone.Given as goal

-- the processes that were reached so far, and what the bits that are set now lead to of the rest
abbrev pub invariant-loop-n : goal.invariant-loop-n
invariant-loop-n g l = record {
  count : length l.flags ≡ length l.initial.flags;
  so_far : (calls : List Call) (bits : List ℕ) → AreFlags l.initial.flags bits
      → AreRunsOf (g.T.Processes.design l.lowering) (g.T.Lowering.layout l.lowering) calls l.order l.runs
      → (now : List ℕ) × (done : List ℕ) × AreFlags l.flags now
      × AreRunsOf (g.T.Processes.design l.lowering) (g.T.Lowering.layout l.lowering) calls done l.reached.items
      × (done ++ cone (g.T.Processes.design l.lowering) now (drop l.n l.order) ≡ cone (g.T.Processes.design l.lowering) bits l.order);
}
