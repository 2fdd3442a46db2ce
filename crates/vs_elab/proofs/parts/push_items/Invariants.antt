use Rattle.std.proofs.Common.{◌≡◌, ◌++◌, List, map, take}
use Rattle.vs_grammar.specs.Trees as tree
use Rattle.vs_ast.specs.Views as view
use Rattle.vs_elaborated.specs.Generate.{Made}
use Rattle.vs_elaborated.specs.Instances.{Around}
use Rattle.vs_scope.specs.Made as code
use Rattle.vs_elab.specs.Fine.{AreFineItems, AreFineParts, plains_said}
use Rattle.vs_elab.specs.Pending.{parts_pieces}
use Rattle.vs_elab.proofs.parts.push_items.Given as goal

-- the items before this one
abbrev pub invariant-loop-i : goal.invariant-loop-i
invariant-loop-i l = record {
  pieces : (source : tree.Source) (around : Around) (ms : List Made) → map code.made l.made ≡ map code.kept ms
      → parts_pieces source around l.parts.items ≡ parts_pieces source around l.fn.parts.items ++ (plains_said source around (map view.item (take l.i l.items)) (take l.i ms)).pieces;
  fine : (source : tree.Source) (around : Around) (ms : List Made) → map code.made l.made ≡ map code.kept ms
      → AreFineItems source around (map view.item l.items) ms → AreFineParts source around.env l.fn.parts.items → AreFineParts source around.env l.parts.items;
}
