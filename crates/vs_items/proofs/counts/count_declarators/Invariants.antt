use Rattle.std.proofs.Common.{◌≡◌, ◌++◌, ℕ, List, map, take}
use Rattle.vs_ast.specs.Views as view
use Rattle.vs_elaborated.specs.Environments.{Env}
use Rattle.vs_elaborated.specs.Pieces.{Piece, all_said}
use Rattle.vs_elaborated.specs.Surveys.{declarator_said}
use Rattle.vs_items.specs.Counts.{IsCounted}
use Rattle.vs_items.proofs.counts.count_declarators.Given as goal

-- those before this one are counted
abbrev pub invariant-loop-d : goal.invariant-loop-d
invariant-loop-d l = record {
  most : l.count.most ≡ l.fn.count.most;
  counted : (env : Env) (before : ℕ) (ps : List Piece) → IsCounted l.fn.count before ps → IsCounted l.count before (ps ++ (all_said (declarator_said env l.place (view.signal_kind l.kind)) (map view.declarator (take l.d-index l.names))).pieces);
}
