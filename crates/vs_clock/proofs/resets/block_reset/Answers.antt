use Rattle.std.proofs.Common.{◌≡◌, ◌<◌, ℕ, List, Some, length, sym, subst}
use Rattle.std.specs.Prelude.{slice_get}
use Rattle.vs_flat.specs.declared.processes.Event.{Event}
use Rattle.vs_flat.specs.Arena.{Arena}
use Rattle.vs_flat.specs.Trees.{signal_at}
use Rattle.vs_flat.specs.DesignOf.{arena_signals, event_of}
use Rattle.vs_clock.specs.declared.events.BlockEvents.TheVariants.{Clock, Reset, Other}
use Rattle.vs_clock.proofs.Ruled.{events_below, statement_there, statement_fits, moved}
use Rattle.vs_clock.proofs.Resetting.{assign_absent, none_absent, clock_absent, reset_found}
use Rattle.vs_clock.proofs.resets.block_reset.Goals as goal

pub events_of-requires : goal.events_of-requires
events_of-requires c =
    subst (λ (es : List Event). (k : ℕ) (e : Event) → slice_get es k ≡ Some e → e.signal < length c.flat-flat.result.now.signals) (sym c.as_slice.ensures)
    (subst (λ (a : Arena). (k : ℕ) (e : Event) → slice_get c.in-Block.events k ≡ Some e → e.signal < length a.signals) (sym c.flat-flat.ensures.same)
    (events_below c.names_law.ensures.processes c.args.typed.now c.flat-flat.ensures.lawful.names c.args.p c.process.result.now c.in-Block.star c.in-Block.events c.in-Block.statement (subst (λ (a : Arena). slice_get a.processes c.args.p ≡ Some c.process.result.now) c.flat-flat.ensures.same c.process.ensures) c.in-Block.is))

pub event_reset-requires-clause-there : goal.event_reset-requires-clause-there
event_reset-requires-clause-there c = statement_there c.names_law.ensures.processes c.args.typed.now c.flat-flat.ensures.lawful.names c.args.p c.process.result.now c.in-Block.star c.in-Block.events c.in-Block.statement (subst (λ (a : Arena). slice_get a.processes c.args.p ≡ Some c.process.result.now) c.flat-flat.ensures.same c.process.ensures) c.in-Block.is

pub event_reset-requires-clause-fits : goal.event_reset-requires-clause-fits
event_reset-requires-clause-fits c =
    statement_fits c.fits_law.ensures.fits c.trees_law.ensures.processes c.args.typed.now c.flat-flat.ensures.lawful c.flat-flat.ensures.fits c.args.p c.process.result.now c.in-Block.star c.in-Block.events c.in-Block.statement (subst (λ (a : Arena). slice_get a.processes c.args.p ≡ Some c.process.result.now) c.flat-flat.ensures.same c.process.ensures) c.in-Block.is

pub returns-in-Assign : goal.returns-in-Assign
returns-in-Assign c = λ n a x e. assign_absent c.trees_law.ensures.processes c.args.typed.now c.args.p c.process.result.now c.in-Assign.target c.in-Assign.expr c.in-Assign.port (subst (λ (a : Arena). slice_get a.processes c.args.p ≡ Some c.process.result.now) c.flat-flat.ensures.same c.process.ensures) c.in-Assign.is n x e

pub returns-in-Clock : goal.returns-in-Clock
returns-in-Clock c = λ n a x e.
    clock_absent c.trees_law.ensures.processes c.args.typed.now c.args.p c.process.result.now c.in-Block.star c.in-Block.events c.in-Block.statement (subst (λ (a : Arena). slice_get a.processes c.args.p ≡ Some c.process.result.now) c.flat-flat.ensures.same c.process.ensures) c.in-Block.is n
    (moved c.flat-flat.result.now c.args.typed.now c.args.nets.now Clock c.as_slice.result.now c.in-Block.events c.flat-flat.ensures.same c.as_slice.ensures c.in-Clock.ensures.events n a) x e

pub returns-in-Other : goal.returns-in-Other
returns-in-Other c = λ n a x e.
    none_absent c.trees_law.ensures.processes c.args.typed.now c.args.p c.process.result.now c.in-Block.star c.in-Block.events c.in-Block.statement (subst (λ (a : Arena). slice_get a.processes c.args.p ≡ Some c.process.result.now) c.flat-flat.ensures.same c.process.ensures) c.in-Block.is n
    (moved c.flat-flat.result.now c.args.typed.now c.args.nets.now Other c.as_slice.result.now c.in-Block.events c.flat-flat.ensures.same c.as_slice.ensures c.in-Other.ensures.events n a) x e

pub returns-in-Reset : goal.returns-in-Reset
returns-in-Reset c = λ n a x e.
    reset_found c.trees_law.ensures.processes c.args.typed.now c.args.p c.process.result.now c.in-Block.star c.in-Block.events c.in-Block.statement (subst (λ (a : Arena). slice_get a.processes c.args.p ≡ Some c.process.result.now) c.flat-flat.ensures.same c.process.ensures) c.in-Block.is n (event_of (signal_at (arena_signals c.args.typed.now)) c.in-Reset.reset)
    (moved c.flat-flat.result.now c.args.typed.now c.args.nets.now (Reset c.in-Reset.reset) c.as_slice.result.now c.in-Block.events c.flat-flat.ensures.same c.as_slice.ensures c.in-Reset.ensures.events n a) c.event_reset.result (c.event_reset.ensures n a) x e
