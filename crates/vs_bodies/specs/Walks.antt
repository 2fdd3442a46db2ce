-- What is told of parts of the code's trees.
use Rattle.std.specs.Prelude.{Bool, map}
use Rattle.vs_ast.specs.declared.statements.CaseArm.{CaseArm}
use Rattle.vs_ast.specs.Views as view
use Rattle.vs_const.specs.Meanings.{Find}
use Rattle.vs_elaborated.specs.Statements.{Body, typed_list}
use Rattle.vs_bodies.specs.declared.told.Told.{Told}
use Rattle.vs_bodies.specs.Told.{joined, told_labels, tells}

-- of an arm of a case
abbrev pub tells_arm : (in_loop : Bool) → CaseArm → Body → Find → Told
tells_arm b a body find = joined (told_labels (typed_list (map view.expr a.labels.items) find)) (tells b (view.statement a.statement) body find)
