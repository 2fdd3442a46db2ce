use Rattle.std.proofs.Common.{◌≡◌, [], map, take}
use Rattle.vs_ast.specs.Views as view
use Rattle.vs_const.specs.Faults.{least}
use Rattle.vs_elaborated.specs.Elaborated.{repeated_modules}
use Rattle.vs_maps.specs.MapViews.{pairs}
use Rattle.vs_items.proofs.Repeats.{AreModules}
use Rattle.vs_items.proofs.modules.modules_of.Given as goal

-- those before this one
abbrev pub invariant-loop-of : goal.invariant-loop-of
invariant-loop-of l = record {
  by_name : AreModules (pairs l.by_name) (map view.module_tree (take l.of-index l.of-items));
  repeated : l.repeated ≡ least (repeated_modules [] (map view.module_tree (take l.of-index l.of-items)));
}
