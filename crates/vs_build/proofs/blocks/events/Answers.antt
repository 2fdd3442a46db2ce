use Rattle.std.proofs.Common.{arith}
use Rattle.vs_build.proofs.Awaiting.{event_at, events_more, events_all}
use Rattle.vs_build.proofs.blocks.events.Goals as goal

pub event-next-requires : goal.event-next-requires
event-next-requires g c = event_at (g.E.Env.names c.args.env.now) c.args.list.now c.loop-e.e-index c.e-item.result c.requires (omega arith) c.e-item.is

pub loop-e-preserved : goal.loop-e-preserved
loop-e-preserved g c =
    events_more (g.E.Env.names c.args.env.now) c.args.list.now c.loop-e.e-index c.e-item.result c.loop-e.made.items c.push.new.self.items c.event-next.result (omega arith) c.e-item.is c.loop-e.invariant c.event-next.ensures c.in_ok-push.ensures.items

pub returns : goal.returns
returns g c = events_all (g.E.Env.names c.args.env.now) c.args.list.now c.loop-e.e-index c.loop-e.made.items (omega arith) c.loop-e.invariant
