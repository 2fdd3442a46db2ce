use Rattle.std.proofs.Common.{List, map, ap, ◌∙◌}
use Rattle.std.proofs.lemmas.List.{take_all}
use Rattle.vs_build.specs.Growth.{draft}
use Rattle.vs_scope.specs.declared.names.Signal.{Signal}
use Rattle.vs_elab.specs.Opening.{signal, and_signals}
use Rattle.vs_elab.proofs.SignalsFollow.{signals_nothing, signals_more, next_follows}
use Rattle.vs_elab.proofs.opening.add_signals.Goals as goal

pub loop-s-init : goal.loop-s-init
loop-s-init c = signals_nothing (draft c.args.builder.now)

pub loop-s-preserved : goal.loop-s-preserved
loop-s-preserved c =
    signals_more signal (draft c.args.builder.now) (draft c.loop-s.builder) (draft c.add_signal.new.builder) c.args.signals.now c.loop-s.s-index c.s-item.result c.loop-s-test.true c.s-item.is c.loop-s.invariant c.in_ok-add_signal.ensures

pub add_signal-requires-clause-number : goal.add_signal-requires-clause-number
add_signal-requires-clause-number c = (next_follows signal (draft c.args.builder.now) (draft c.loop-s.builder) c.args.signals.now c.loop-s.s-index c.s-item.result c.loop-s-test.true c.s-item.is c.loop-s.invariant c.requires).number

pub add_signal-requires-clause-first : goal.add_signal-requires-clause-first
add_signal-requires-clause-first c = (next_follows signal (draft c.args.builder.now) (draft c.loop-s.builder) c.args.signals.now c.loop-s.s-index c.s-item.result c.loop-s-test.true c.s-item.is c.loop-s.invariant c.requires).first

pub add_signal-requires-clause-scope : goal.add_signal-requires-clause-scope
add_signal-requires-clause-scope c = (next_follows signal (draft c.args.builder.now) (draft c.loop-s.builder) c.args.signals.now c.loop-s.s-index c.s-item.result c.loop-s-test.true c.s-item.is c.loop-s.invariant c.requires).scope

pub add_signal-requires-clause-bits : goal.add_signal-requires-clause-bits
add_signal-requires-clause-bits c = (next_follows signal (draft c.args.builder.now) (draft c.loop-s.builder) c.args.signals.now c.loop-s.s-index c.s-item.result c.loop-s-test.true c.s-item.is c.loop-s.invariant c.requires).bits

pub returns : goal.returns
returns c = c.loop-s.invariant ∙ ap (λ (xs : List Signal). and_signals (draft c.args.builder.now) (map signal xs)) (take_all c.loop-s.s-index c.args.signals.now c.loop-s-test.false)
