use Rattle.std.proofs.Common.{◌≡◌, ◌++◌, ℕ, List, length, map, take}
use Rattle.vs_grammar.specs.Trees as tree
use Rattle.vs_ast.specs.Views as view
use Rattle.vs_elaborated.specs.Generate.{Made}
use Rattle.vs_elaborated.specs.Pieces.{Piece}
use Rattle.vs_elaborated.specs.Instances.{Around}
use Rattle.vs_elaborated.specs.Limits.{Limits}
use Rattle.vs_elaborated.specs.Surveys.{Loops, items_said}
use Rattle.vs_items.specs.Counts.{IsCounted}
use Rattle.vs_items.specs.Modules.{AreOf}
use Rattle.vs_items.proofs.counts.count_items.Given as goal

-- those before this one are counted
abbrev pub invariant-loop-item : goal.invariant-loop-item
invariant-loop-item l = record {
  most : l.count.most ≡ l.fn.count.most;
  counted : (limits : Limits) (source : tree.Source) (around : Around) (loops : Loops) (made : List Made) (before : ℕ) (ps : List Piece) → AreOf l.modules source → length made ≡ length l.items → IsCounted l.fn.count before ps
      → IsCounted l.count before (ps ++ (items_said limits source around loops (map view.item (take l.item-index l.items)) (take l.item-index made)).pieces);
}
