use Rattle.std.proofs.Common.{◌≡◌, map, take}
use Rattle.vs_ast.specs.Views as view
use Rattle.vs_const.specs.Faults.{least}
use Rattle.vs_elaborated.specs.Statements.{typed_events}
use Rattle.vs_bodies.proofs.controls.check_events.Given as goal

abbrev pub invariant-loop-e : goal.invariant-loop-e
invariant-loop-e g l = l.first ≡ least (typed_events (map view.event (take l.e-index l.events)) (g.E.Env.names l.env)).faults
