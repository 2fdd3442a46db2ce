use Rattle.std.proofs.Common.{◌≤◌, length}
use Rattle.vs_full.specs.Found.{AreSound, IsAsBefore}
use Rattle.vs_full.proofs.cases.Cases.reach.Given as goal

abbrev pub invariant-loop-n : goal.invariant-loop-n
invariant-loop-n l = record { sound : AreSound l.shapes l.self; kept : IsAsBefore l.shapes l.initial.self l.self; room : l._n ≤ length l.self.others }
