use Rattle.vs_scope.specs.Frames.{view_env}
use Rattle.vs_scope.proofs.LocalLists.{shaped_local, signed_none, signed_more, signed_end}
use Rattle.vs_scope.proofs.local_signals.Signalling.signal_all.Goals as goal

pub signal-requires : goal.signal-requires
signal-requires c = shaped_local c.args.all.now c.loop-v.v-index c.v-item.result c.requires c.loop-v-test.true c.v-item.is

pub loop-v-init : goal.loop-v-init
loop-v-init c = signed_none c.args.self.now

pub loop-v-preserved : goal.loop-v-preserved
loop-v-preserved c =
    signed_more (view_env c.args.here.now) c.args.role c.args.input c.args.all.now c.loop-v.v-index c.v-item.result c.args.self.now c.loop-v.self c.signal.new.self c.loop-v-test.true c.v-item.is c.loop-v.invariant c.in_ok-signal.ensures.signed

pub returns : goal.returns
returns c = signed_end (view_env c.args.here.now) c.args.role c.args.input c.args.all.now c.loop-v.v-index c.args.self.now c.loop-v.self c.loop-v-test.false c.loop-v.invariant
