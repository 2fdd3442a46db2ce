use Rattle.std.proofs.Common.{◌≡◌, ◌<◌, length}
use Rattle.vs_flat.specs.DesignOf.{arena_trees}
use Rattle.vs_flat.specs.Trees.{tree_at}
use Rattle.vs_clock.specs.Ports.{target_bit}
use Rattle.vs_clock.proofs.ports.whole_bit.Given as goal

-- the part is the same target
abbrev pub invariant-loop-part : goal.invariant-loop-part
invariant-loop-part l = record {
  there : l.e < length l.flat.nodes;
  same : target_bit (tree_at (arena_trees l.flat) l.e) ≡ target_bit (tree_at (arena_trees l.flat) l.fn.target);
}

abbrev pub decreases-loop-part : goal.decreases-loop-part
decreases-loop-part l = l.e
