use Rattle.std.proofs.Common.{◌≡◌, ◌++◌, map, take}
use Rattle.vs_grammar.specs.Trees as tree
use Rattle.vs_grammar.specs.Shapes.{Each}
use Rattle.vs_ast.specs.Views as view
use Rattle.vs_elaborated.specs.Environments.{Env}
use Rattle.vs_elaborated.specs.Pieces.{all_said}
use Rattle.vs_elaborated.specs.Instances.{Around}
use Rattle.vs_elaborated.specs.Surveys.{signals_said}
use Rattle.vs_elab.specs.Fine.{AreFineSignals, AreFineParts}
use Rattle.vs_elab.specs.Pending.{parts_pieces}
use Rattle.vs_elab.proofs.pending.push_ports.Given as goal

-- the parts of those before this one
abbrev pub invariant-loop-s : goal.invariant-loop-s
invariant-loop-s l = record {
  pieces : (source : tree.Source) (around : Around) → parts_pieces source around l.parts.items ≡ parts_pieces source around l.fn.parts.items ++ (all_said (signals_said around.env) (map view.signals (take l.s-index l.ports))).pieces;
  fine : (source : tree.Source) (env : Env) → Each (AreFineSignals env) (map view.signals l.ports) → AreFineParts source env l.fn.parts.items → AreFineParts source env l.parts.items;
}
