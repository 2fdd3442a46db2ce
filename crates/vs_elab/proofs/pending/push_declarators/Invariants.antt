use Rattle.std.proofs.Common.{◌≡◌, ◌++◌, map, take}
use Rattle.vs_grammar.specs.Trees as tree
use Rattle.vs_grammar.specs.Shapes.{Each}
use Rattle.vs_ast.specs.Views as view
use Rattle.vs_elaborated.specs.Environments.{Env}
use Rattle.vs_elaborated.specs.Pieces.{all_said}
use Rattle.vs_elaborated.specs.Instances.{Around}
use Rattle.vs_elaborated.specs.Surveys.{declarator_said}
use Rattle.vs_elab.specs.Fine.{IsFineDeclarator, AreFineParts}
use Rattle.vs_elab.specs.Pending.{parts_pieces}
use Rattle.vs_elab.proofs.pending.push_declarators.Given as goal

-- the parts of those before this one
abbrev pub invariant-loop-d : goal.invariant-loop-d
invariant-loop-d l = record {
  pieces : (source : tree.Source) (around : Around) → parts_pieces source around l.parts.items ≡ parts_pieces source around l.fn.parts.items ++ (all_said (declarator_said around.env l.place (view.signal_kind l.kind)) (map view.declarator (take l.d-index l.names))).pieces;
  fine : (source : tree.Source) (env : Env) → Each (IsFineDeclarator env (view.signal_kind l.kind)) (map view.declarator l.names) → AreFineParts source env l.fn.parts.items → AreFineParts source env l.parts.items;
}
