use Rattle.std.proofs.Common.{◌≡◌, false, take}
use Rattle.std.specs.List.{list_any}
use Rattle.vs_flat.specs.DesignOf.{design_of}
use Rattle.vs_queue.proofs.Alone.{writes_alone}
use Rattle.vs_queue.proofs.starts.has_keeper.Given as goal

abbrev pub invariant-loop-k : goal.invariant-loop-k
invariant-loop-k l = list_any (writes_alone (design_of l.typed)) (take l.k (design_of l.typed).initials) ≡ false
