use Rattle.std.proofs.Common.{◌≡◌, take}
use Rattle.vs_maps.specs.MapViews.{pairs}
use Rattle.vs_scope.specs.Again.{kept_pairs}
use Rattle.vs_scope.proofs.names.Names.without_functions.Given as goal

abbrev pub invariant-loop-i : goal.invariant-loop-i
invariant-loop-i l = (l.self ≡ l.initial.self) × (l.plain ≡ l.initial.plain) × (pairs l.map ≡ kept_pairs (take l.i (pairs l.self.map)))
