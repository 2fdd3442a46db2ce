use Rattle.vs_design.specs.Clocks.{clock_nets, root_of}
use Rattle.vs_flat.specs.Trees.{signal_at}
use Rattle.vs_flat.specs.DesignOf.{arena_signals, design_of, event_of}
use Rattle.vs_clock.proofs.Ruled.{both_first, both_second}
use Rattle.vs_clock.proofs.events.both_events.Goals as goal

pub returns-then-are_both-clause-events : goal.returns-then-are_both-clause-events
returns-then-are_both-clause-events c = λ n a. (event_of (signal_at (arena_signals c.args.flat.now)) c.args.e, both_first (clock_nets (design_of c.args.flat.now) n) (root_of (design_of c.args.flat.now) n) _ _ c.are_both.result (c.are_both.ensures n a) c.if-are_both.true)

pub returns-then-are_both-2-clause-events : goal.returns-then-are_both-2-clause-events
returns-then-are_both-2-clause-events c = λ n a. (event_of (signal_at (arena_signals c.args.flat.now)) c.args.f, both_second (clock_nets (design_of c.args.flat.now) n) (root_of (design_of c.args.flat.now) n) _ _ c.are_both.result c.are_both-2.result (c.are_both.ensures n a) c.if-are_both.false (c.are_both-2.ensures n a) c.if-are_both-2.true)
