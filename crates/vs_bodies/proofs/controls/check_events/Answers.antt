use Rattle.std.proofs.Common.{arith}
use Rattle.vs_bodies.proofs.EventFaults.{more_events, all_events}
use Rattle.vs_bodies.proofs.controls.check_events.Goals as goal

pub loop-e-preserved : goal.loop-e-preserved
loop-e-preserved g c =
    more_events (g.E.Env.names c.args.env.now) c.args.events.now c.loop-e.e-index c.e-item.result c.loop-e.first c.event_fault.result c.first_of-first.result (omega arith) c.e-item.is c.loop-e.invariant c.event_fault.ensures c.first_of-first.ensures

pub returns : goal.returns
returns g c = all_events (g.E.Env.names c.args.env.now) c.args.events.now c.loop-e.e-index c.loop-e.first (omega arith) c.loop-e.invariant
