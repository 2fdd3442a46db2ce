use Rattle.std.proofs.Common.{◌≡◌, ◌++◌, ℕ, List, Some, map, take}
use Rattle.vs_grammar.specs.Trees as tree
use Rattle.vs_ast.specs.Views as view
use Rattle.vs_elaborated.specs.Parameters.{Override}
use Rattle.vs_elaborated.specs.Pieces.{Piece, all_said}
use Rattle.vs_elaborated.specs.Instances.{Around, instance_said}
use Rattle.vs_items.specs.Counts.{IsCounted}
use Rattle.vs_items.specs.Interfaces.{IsInterface}
use Rattle.vs_items.proofs.counts.count_all.Given as goal

-- those before this one are counted
abbrev pub invariant-loop-i : goal.invariant-loop-i
invariant-loop-i l = record {
  most : l.count.most ≡ l.fn.count.most;
  counted : (m : tree.Module) (around : Around) (os : List Override) (before : ℕ) (ps : List Piece) → IsInterface l.seen m → IsCounted l.fn.count before ps
      → IsCounted l.count before (ps ++ (all_said (instance_said around l.place (Some m) os) (map view.instance (take l.i-index l.instances))).pieces);
}
