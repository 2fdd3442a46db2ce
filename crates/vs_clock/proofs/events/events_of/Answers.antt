use Rattle.std.proofs.Common.{arith}
use Rattle.vs_design.specs.Clocks.{clock_nets, root_of}
use Rattle.vs_flat.specs.Trees.{signal_at}
use Rattle.vs_flat.specs.DesignOf.{arena_signals, design_of}
use Rattle.vs_clock.proofs.Ruled.{one_clock, one_other, event_there}
use Rattle.vs_clock.proofs.events.events_of.Goals as goal

pub returns-then-is_clock-clause-events : goal.returns-then-is_clock-clause-events
returns-then-is_clock-clause-events c = λ n a. (_, one_clock (clock_nets (design_of c.args.flat.now) n) (root_of (design_of c.args.flat.now) n) (signal_at (arena_signals c.args.flat.now)) c.args.events.now _ c.is_clock.result c.if-events-eq1.true (c.is_clock.ensures n a) c.if-is_clock.true)

pub returns-then-events-eq1-clause-events : goal.returns-then-events-eq1-clause-events
returns-then-events-eq1-clause-events c = λ n a. one_other (clock_nets (design_of c.args.flat.now) n) (root_of (design_of c.args.flat.now) n) (signal_at (arena_signals c.args.flat.now)) c.args.events.now _ c.is_clock.result c.if-events-eq1.true (c.is_clock.ensures n a) c.if-is_clock.false

pub both_events-requires-clause-first : goal.both_events-requires-clause-first
both_events-requires-clause-first c = event_there c.args.events.now _ 0 _ c.requires (omega (arith, c.if-events-eq2.true))

pub both_events-requires-clause-second : goal.both_events-requires-clause-second
both_events-requires-clause-second c = event_there c.args.events.now _ 1 _ c.requires (omega (arith, c.if-events-eq2.true))
