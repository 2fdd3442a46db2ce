use Rattle.std.proofs.Common.{◌≡◌, ◌++◌, map, take}
use Rattle.vs_grammar.specs.Trees as tree
use Rattle.vs_grammar.specs.Shapes.{Each}
use Rattle.vs_ast.specs.Views as view
use Rattle.vs_elaborated.specs.Environments.{Env}
use Rattle.vs_elaborated.specs.Pieces.{all_said}
use Rattle.vs_elaborated.specs.Ports.{find_module}
use Rattle.vs_elaborated.specs.Instances.{Around, instance_said, said_overrides}
use Rattle.vs_elab.specs.Fine.{IsFineInstance, AreFineParts}
use Rattle.vs_elab.specs.Pending.{parts_pieces}
use Rattle.vs_elab.proofs.pending.push_instances.Given as goal

-- the parts of those before this one
abbrev pub invariant-loop-instance : goal.invariant-loop-instance
invariant-loop-instance l = record {
  pieces : (source : tree.Source) (around : Around)
      → parts_pieces source around l.parts.items
      ≡ parts_pieces source around l.fn.parts.items
      ++ (all_said (instance_said around (view.instances l.item).of.place (find_module source (view.instances l.item).of.bytes) (said_overrides (view.instances l.item).of (find_module source (view.instances l.item).of.bytes) (view.instances l.item).overrides around.env).overrides)
      (map view.instance (take l.instance-index l.instance-items))).pieces;
  fine : (source : tree.Source) (env : Env) → Each (IsFineInstance source env (view.instances l.item)) (map view.instance l.instance-items) → AreFineParts source env l.fn.parts.items → AreFineParts source env l.parts.items;
}
