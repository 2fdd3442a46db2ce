use Rattle.std.proofs.Common.{get_or}
use Rattle.vs_bodies.proofs.MentionSteps.{item_is}
use Rattle.vs_scope.specs.declared.names.PassedInput.{PassedInput}
use Rattle.vs_scope.specs.Locals.{passed_of}
use Rattle.vs_elab.proofs.Headers.{signal_more, signals_done, signals_first}
use Rattle.vs_elab.proofs.functions.push_inputs.Goals as goal

pub loop-p-init : goal.loop-p-init
loop-p-init c = signals_first (λ (x : PassedInput). (passed_of x).input.signal) c.args.list.now.items c.args.passed.now

pub loop-p-preserved : goal.loop-p-preserved
loop-p-preserved c =
    signal_more (λ (x : PassedInput). (passed_of x).input.signal) c.args.list.now.items c.args.passed.now c.loop-p.p-index (get_or c.args.passed.now c.loop-p.p-index _) c.loop-p.list.items c.push.new.self.items c.in_ok-next.next c.loop-p-test.true (item_is c.args.passed.now c.loop-p.p-index _ c.loop-p-test.true)
    c.in_ok-push.ensures.items c.in_ok-next.ensures c.loop-p.invariant

pub returns : goal.returns
returns c = signals_done (λ (x : PassedInput). (passed_of x).input.signal) c.args.list.now.items c.args.passed.now c.loop-p.p-index c.loop-p.list.items c.loop-p-test.false c.loop-p.invariant
