use Rattle.std.proofs.Common.{◌≡◌, List, length, map, take}
use Rattle.vs_grammar.specs.Trees as tree
use Rattle.vs_ast.specs.Views as view
use Rattle.vs_const.specs.Faults.{least}
use Rattle.vs_elaborated.specs.Limits.{the_limits}
use Rattle.vs_elaborated.specs.Environments.{Env}
use Rattle.vs_elaborated.specs.Generate.{Made}
use Rattle.vs_elaborated.specs.Instances.{Around}
use Rattle.vs_elaborated.specs.Surveys.{items_said, loops_behind}
use Rattle.vs_scope.specs.Frames.{view_env}
use Rattle.vs_items.specs.Loops.{SeeTheSame}
use Rattle.vs_items.specs.Modules.{AreOf}
use Rattle.vs_items.proofs.bodies.items_fault.Given as goal

-- of those before this one
abbrev pub invariant-loop-item : goal.invariant-loop-item
invariant-loop-item l = record {
  fault : (source : tree.Source) (around : Around) (made : List Made) → AreOf l.modules source → SeeTheSame around.env (view_env l.here) → length made ≡ length l.items
      → l.fault ≡ least (items_said the_limits source around l.fn.loops (map view.item (take l.item-index l.items)) (take l.item-index made)).faults;
  loops : (env : Env) → SeeTheSame env (view_env l.here) → l.loops ≡ loops_behind the_limits env l.fn.loops (map view.item (take l.item-index l.items));
}
