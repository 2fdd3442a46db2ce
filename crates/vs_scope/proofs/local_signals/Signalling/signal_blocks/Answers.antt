use Rattle.std.proofs.Common.{List, false, map, refl, sym, subst}
use Rattle.vs_const.specs.declared.names.Role.TheVariants.{InModule}
use Rattle.vs_elaborated.specs.Functions as functions
use Rattle.vs_elaborated.specs.NamedBlocks as spec
use Rattle.vs_scope.specs.declared.locals.Local.{Local}
use Rattle.vs_scope.specs.Frames.{view_env}
use Rattle.vs_scope.specs.LocalLists.{AreShapedLocals, IsSigned}
use Rattle.vs_scope.specs.Locals.{local, local_start}
use Rattle.vs_scope.specs.NamedBlocks.{named}
use Rattle.vs_scope.proofs.CaseLabels.{each_at}
use Rattle.vs_scope.proofs.NamedSignals.{blocks_none, blocks_step, blocks_end}
use Rattle.vs_scope.proofs.local_signals.Signalling.signal_blocks.Goals as goal

pub signal_all-requires : goal.signal_all-requires
signal_all-requires c =
    subst (λ (vs : List Local). AreShapedLocals (map local vs)) (sym c.as_slice.ensures.value)
    (each_at (λ (b : spec.NamedBlock). AreShapedLocals b.variables) named c.args.blocks.now c.loop-b.b-index c.b-item.result c.loop-b-test.true c.b-item.is c.requires)

pub loop-b-init : goal.loop-b-init
loop-b-init c = blocks_none c.args.self.now (view_env c.args.here.now)

pub loop-b-preserved : goal.loop-b-preserved
loop-b-preserved c =
    let env = view_env c.args.here.now in
    let b = c.loop-b.self in
    let one = subst (λ (vs : List Local). IsSigned b c.signal_all.new.self (functions.signals_of env (local_start b.next) InModule false (map local vs))) c.as_slice.ensures.value c.in_ok-signal_all.ensures in
    blocks_step env c.args.self.now b c.signal_all.new.self _ c.args.blocks.now c.loop-b.b-index c.b-item.result _ c.loop-b-test.true c.b-item.is c.loop-b.invariant one refl refl c.in_ok-self.ensures refl

pub returns : goal.returns
returns c = blocks_end (view_env c.args.here.now) c.args.self.now c.loop-b.self c.args.blocks.now c.loop-b.b-index c.loop-b-test.false c.loop-b.invariant
