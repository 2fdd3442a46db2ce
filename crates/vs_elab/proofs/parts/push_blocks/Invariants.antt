use Rattle.std.proofs.Common.{◌≡◌, ◌++◌, map, take}
use Rattle.vs_grammar.specs.Trees as tree
use Rattle.vs_grammar.specs.Shapes.{Each}
use Rattle.vs_elaborated.specs.Environments.{Env}
use Rattle.vs_elaborated.specs.Generate.{Nested}
use Rattle.vs_elaborated.specs.Instances.{Around}
use Rattle.vs_elaborated.specs.Surveys.{nested_piece}
use Rattle.vs_scope.specs.Made as code
use Rattle.vs_elab.specs.Fine.{AreFineInside, AreFineParts}
use Rattle.vs_elab.specs.Pending.{parts_pieces}
use Rattle.vs_elab.proofs.parts.push_blocks.Given as goal

-- the blocks before this one
abbrev pub invariant-loop-b : goal.invariant-loop-b
invariant-loop-b l = record {
  pieces : (source : tree.Source) (around : Around) → parts_pieces source around l.parts.items ≡ parts_pieces source around l.fn.parts.items ++ map (nested_piece around) (map code.nested (take l.b-index l.blocks));
  fine : (source : tree.Source) (env : Env) → Each (λ (b : Nested). AreFineInside b.items) (map code.nested l.blocks) → AreFineParts source env l.fn.parts.items → AreFineParts source env l.parts.items;
}
