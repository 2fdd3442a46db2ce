use Rattle.vs_scope.specs.declared.names.LocalSignal.{LocalSignal}
use Rattle.vs_scope.specs.Locals.{local_meaning}
use Rattle.vs_elab.proofs.Headers.{signal_more, signals_done, signals_first}
use Rattle.vs_elab.proofs.functions.push_signals.Goals as goal

pub loop-s-init : goal.loop-s-init
loop-s-init c = signals_first (λ (x : LocalSignal). (local_meaning x).signal) c.args.list.now.items c.args.signals.now

pub loop-s-preserved : goal.loop-s-preserved
loop-s-preserved c =
    signal_more (λ (x : LocalSignal). (local_meaning x).signal) c.args.list.now.items c.args.signals.now c.loop-s.s-index c.s-item.result c.loop-s.list.items c.push.new.self.items c.in_ok-next.next c.loop-s-test.true c.s-item.is
    c.in_ok-push.ensures.items c.in_ok-next.ensures c.loop-s.invariant

pub returns : goal.returns
returns c = signals_done (λ (x : LocalSignal). (local_meaning x).signal) c.args.list.now.items c.args.signals.now c.loop-s.s-index c.loop-s.list.items c.loop-s-test.false c.loop-s.invariant
