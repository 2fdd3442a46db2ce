use Rattle.std.proofs.Common.{◌++◌, Bool, List, map, take}
use Rattle.vs_ast.specs.Views as view
use Rattle.vs_elaborated.specs.Signals as spec
use Rattle.vs_maps.specs.Maps.{Pair}
use Rattle.vs_maps.specs.MapViews.{pairs}
use Rattle.vs_items.specs.Noted.{AreFirst}
use Rattle.vs_items.proofs.Directions.{declared_direction}
use Rattle.vs_items.proofs.ports.note_signals.Given as goal

abbrev pub invariant-loop-declarator : goal.invariant-loop-declarator
invariant-loop-declarator l =
    (all : List (Pair Bool)) → AreFirst (pairs l.fn.directions) all
    → AreFirst (pairs l.directions) (all ++ map (declared_direction (spec.is_input (view.signal_kind l.signals.kind))) (take l.declarator-index l.declarator-items))
