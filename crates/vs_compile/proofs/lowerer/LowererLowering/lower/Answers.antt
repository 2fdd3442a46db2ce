use Rattle.std.proofs.Common.{◌≡◌, ◌+◌, ◌≤◌, ◌^◌, Result, Ok, Err, length, subst, sym, ap, ◌∙◌, arith, slice_get, Some}
use Rattle.std.specs.Prelude.{OnOk}
use Rattle.vs_flat.specs.Arena.{Arena}
use Rattle.vs_flat.specs.DesignOf.{design_of}
use Rattle.vs_code.specs.Calls.{length_of}
use Rattle.vs_program.specs.Layouts.{first_mask, sleepers}
use Rattle.vs_assemble.specs.Plans.{may_store}
use Rattle.vs_compile.specs.Known.{Known}
use Rattle.vs_compile.specs.Laid.{Laid}
use Rattle.vs_compile.proofs.Laying.{asleep_by, lowered_by, temps_fit}
use Rattle.vs_compile.proofs.Layouts.{first_low}
use Rattle.vs_compile.proofs.Lowering.{stores_left}
use Rattle.vs_design.specs.Designs.{Process}
use Rattle.vs_design.specs.Sleepers.{is_sleeping}
use Rattle.vs_compile.proofs.lowerer.LowererLowering.lower.Goals as goal

on_ok : {V W : Type 0} {P Q : Type 0} (r : Result V W) → OnOk r P → (P → Q) → OnOk r Q
on_ok (Ok v) h k = k h
on_ok (Err e) h k = h

pub lower_sleeper-requires-clause-accepted : goal.lower_sleeper-requires-clause-accepted
lower_sleeper-requires-clause-accepted c = rw c.templates-templates.ensures.same (c.templates-templates.ensures.accepted.names, c.templates-templates.ensures.accepted.accepted)

pub lower_sleeper-requires-clause-sleeps : goal.lower_sleeper-requires-clause-sleeps
lower_sleeper-requires-clause-sleeps c = λ x at.
    let asks = subst (λ (z : Arena). (y : Process) → slice_get (design_of z).processes c.args.process ≡ Some y → c.sleeps.result ≡ is_sleeping (design_of z) y) c.typed-typed.ensures c.sleeps.ensures in
    sym (asks x at) ∙ c.if-sleeps.true

pub lower_sleeper-requires-clause-count : goal.lower_sleeper-requires-clause-count
lower_sleeper-requires-clause-count c = rw c.templates-templates.ensures.same (c.self.invariant.count_is ∙ (c.trees_law.ensures.counts c.self.inside.facts.arena).bits)

pub lower_sleeper-requires-clause-waits : goal.lower_sleeper-requires-clause-waits
lower_sleeper-requires-clause-waits c = rw c.templates-templates.ensures.same c.waits-waits.ensures

pub lower_sleeper-requires-clause-behind : goal.lower_sleeper-requires-clause-behind
lower_sleeper-requires-clause-behind c =
    subst (λ (z : Arena). c.self.inside.first_temp ≡ first_mask (design_of z) + length (sleepers (design_of z))) (sym c.templates-templates.ensures.same) c.self.invariant.layout.first

pub lower_sleeper-requires-clause-room : goal.lower_sleeper-requires-clause-room
lower_sleeper-requires-clause-room c =
    let k = c.self.inside.facts in
    let at = c.templates-templates.ensures.accepted in
    let low = first_low (design_of k.arena) _ k.clocks at c.self.invariant.layout in
    rw c.templates-templates.ensures.same (omega (arith, low, at.accepted.small))

pub lower_sleeper-requires-clause-few : goal.lower_sleeper-requires-clause-few
lower_sleeper-requires-clause-few c =
    rw c.templates-templates.ensures.same
    (subst (λ (z : Known). length_of c.args.program.now + may_store (design_of z.arena) c.args.process ≤ 2 ^ 32) (sym (ap (λ (l : Laid). l.known) c.self.view_is)) c.requires.few)

pub lower_awake-requires-clause-unmixed : goal.lower_awake-requires-clause-unmixed
lower_awake-requires-clause-unmixed c = rw c.templates-templates.ensures.same c.templates-templates.ensures.accepted.accepted.unmixed

pub lower_awake-requires-clause-no_cycle : goal.lower_awake-requires-clause-no_cycle
lower_awake-requires-clause-no_cycle c = rw c.templates-templates.ensures.same c.templates-templates.ensures.accepted.accepted.no_cycle

pub lower_awake-requires-clause-layout : goal.lower_awake-requires-clause-layout
lower_awake-requires-clause-layout c = rw (c.templates-templates.ensures.same, c.as_slice.ensures.value) c.self.invariant.layout.layout.layout

pub lower_awake-requires-clause-slots : goal.lower_awake-requires-clause-slots
lower_awake-requires-clause-slots c = λ x at.
    let k = c.self.inside.facts in
    temps_fit c.list_law.ensures.few c.program_law.ensures.registers (design_of k.arena) k.clocks c.templates-templates.ensures.accepted c.self.inside.count c.self.inside.shadows.items c.self.inside.first_temp c.self.invariant
    c.args.process x (rw c.templates-templates.ensures.same at at)

pub lower_awake-requires-clause-few : goal.lower_awake-requires-clause-few
lower_awake-requires-clause-few c = λ x at.
    let k = c.self.inside.facts in
    stores_left (design_of k.arena) c.args.process x (length_of c.args.program.now) (rw c.templates-templates.ensures.same at at)
    (subst (λ (z : Known). length_of c.args.program.now + may_store (design_of z.arena) c.args.process ≤ 2 ^ 32) (sym (ap (λ (l : Laid). l.known) c.self.view_is)) c.requires.few)

pub returns-then-sleeps : goal.returns-then-sleeps
returns-then-sleeps c =
    on_ok c.lower_sleeper.result c.lower_sleeper.ensures
    (λ done.
    asleep_by c.self.inside.facts c.self.inside.count c.self.inside.shadows.items c.self.inside.first_temp c.args.self.now c.self.view_is c.self.invariant c.args.process
    c.args.program.now c.lower_sleeper.new.program c.templates-templates.result.now.arena c.templates-templates.ensures.same done)

pub returns : goal.returns
returns c =
    on_ok c.lower_awake.result c.lower_awake.ensures
    (λ done.
    lowered_by c.self.inside.facts c.self.inside.count c.self.inside.shadows.items c.self.inside.first_temp c.args.self.now c.self.view_is c.args.process c.requires.process
    c.args.program.now c.lower_awake.new.program c.templates-templates.result.now.arena c.as_slice.result.now c.templates-templates.ensures.same c.as_slice.ensures.value
    (λ x at. sym (subst (λ (z : Arena). (y : Process) → slice_get (design_of z).processes c.args.process ≡ Some y → c.sleeps.result ≡ is_sleeping (design_of z) y) c.typed-typed.ensures c.sleeps.ensures x at) ∙ c.if-sleeps.false) done)
