use Rattle.std.proofs.Common.{ℕ, List, map, drop}
use Rattle.vs_ast.specs.Views as view
use Rattle.vs_elaborated.specs.Generate as generate
use Rattle.vs_scope.specs.Chosen.{IsMaking}
use Rattle.vs_scope.specs.Frames.{view_env}
use Rattle.vs_scope.proofs.constructs.Making.make_all.Given as goal

abbrev pub invariant-loop-item : goal.invariant-loop-item
invariant-loop-item l =
    (before : ℕ) (all : List generate.Made) → IsMaking l.fn.self (view_env l.here) before (map view.item l.items) all → IsMaking l.self (view_env l.here) before (map view.item (drop l.item-index l.items)) all
