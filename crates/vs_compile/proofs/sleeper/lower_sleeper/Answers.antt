use Rattle.std.proofs.Common.{◌≡◌, ◌+◌, ◌++◌, ◌∙◌, ℕ, true, List, length, slice_get, Some, Result, Ok, Err, subst, sym, ap, arith}
use Rattle.std.specs.Prelude.{OnOk}
use Rattle.vs_design.specs.Designs.{Process}
use Rattle.vs_design.specs.Sleepers.{is_sleeping}
use Rattle.vs_flat.specs.Arena.{Arena, bit_count}
use Rattle.vs_flat.specs.DesignOf.{design_of}
use Rattle.vs_code.specs.Calls.{Call, length_of}
use Rattle.vs_program.specs.Layouts.{first_mask, mask_of, sleepers}
use Rattle.vs_reset.specs.Sleepers.{IsMask}
use Rattle.vs_compile.proofs.Accepted.{there}
use Rattle.vs_compile.proofs.Slept.{are_waits, mask_fits, slept_calls, slept_few, slept_slots}
use Rattle.vs_compile.proofs.sleeper.lower_sleeper.Goals as goal

on_ok : {V W : Type 0} {P Q : Type 0} (r : Result V W) → OnOk r P → (P → Q) → OnOk r Q
on_ok (Ok v) h k = k h
on_ok (Err e) h k = h

pub sleeper-done-requires-clause-unmixed : goal.sleeper-done-requires-clause-unmixed
sleeper-done-requires-clause-unmixed c = c.requires.accepted.1.unmixed

pub sleeper-done-requires-clause-mask : goal.sleeper-done-requires-clause-mask
sleeper-done-requires-clause-mask c =
    let a = c.args.templates.now.arena in
    let d = design_of a in
    let counts = c.trees_law.ensures.counts a in
    let x = there d.processes c.args.p (omega (arith, c.requires.there, counts.processes)) in
    subst (λ (k : ℕ). IsMask (bit_count a.signals) k c.mask_slot-mask.result) (sym c.from-code.ensures.next)
    (mask_fits c.program_law.ensures.layout c.program_law.ensures.masks c.program_law.ensures.registers d c.requires.accepted c.args.p x.0 x.1 (c.requires.sleeps x.0 x.1) (bit_count a.signals) c.args.first_temp c.mask_slot-mask.result
    counts.bits c.requires.behind (subst (λ (b : Arena). c.mask_slot-mask.result ≡ mask_of (design_of b) c.args.p) c.typed.ensures c.mask_slot-mask.ensures))

pub sleeper-done-requires-clause-waits : goal.sleeper-done-requires-clause-waits
sleeper-done-requires-clause-waits c =
    let a = c.args.templates.now.arena in
    let d = design_of a in
    let counts = c.trees_law.ensures.counts a in
    let x = there d.processes c.args.p (omega (arith, c.requires.there, counts.processes)) in
    (are_waits c.list_law.ensures.few c.list_law.ensures.ascending c.footprint_law.ensures.bits d c.requires.accepted c.args.p x.0 x.1 (c.requires.sleeps x.0 x.1) (bit_count a.signals) counts.bits c.args.waits.now (c.requires.waits x.0 x.1)).bits

pub sleeper-done-requires-clause-slots : goal.sleeper-done-requires-clause-slots
sleeper-done-requires-clause-slots c = λ x at.
    let slots = slept_slots (design_of c.args.templates.now.arena) c.args.p x at (c.requires.sleeps x at) c.args.first_temp c.requires.room in
    omega (arith, slots, c.from-code.ensures.next)

pub sleeper-done-requires-clause-few : goal.sleeper-done-requires-clause-few
sleeper-done-requires-clause-few c = λ x at.
    let a = c.args.templates.now.arena in
    let d = design_of a in
    let counts = c.trees_law.ensures.counts a in
    let waits = are_waits c.list_law.ensures.few c.list_law.ensures.ascending c.footprint_law.ensures.bits d c.requires.accepted c.args.p x at (c.requires.sleeps x at) (bit_count a.signals) counts.bits c.args.waits.now (c.requires.waits x at) in
    let few = slept_few d c.args.p x at (c.requires.sleeps x at) c.args.waits.now waits.few (length_of c.args.program.now) c.requires.few in
    omega (arith, few, ap (λ (cs : List Call). length_of cs) (c.from-code.ensures.calls ∙ c.replace-calls.ensures.value))

pub returns : goal.returns
returns c =
    on_ok c.sleeper-done.result c.sleeper-done.ensures
    (λ done l layout first.
    let a = c.args.templates.now.arena in
    let d = design_of a in
    let counts = c.trees_law.ensures.counts a in
    let x = there d.processes c.args.p (omega (arith, c.requires.there, counts.processes)) in
    let waits = are_waits c.list_law.ensures.few c.list_law.ensures.ascending c.footprint_law.ensures.bits d c.requires.accepted c.args.p x.0 x.1 (c.requires.sleeps x.0 x.1) (bit_count a.signals) counts.bits c.args.waits.now (c.requires.waits x.0 x.1) in
    let adds = done l x.0 x.1 (layout.bits ∙ counts.bits) (first ∙ sym c.from-code.ensures.next) in
    let r = slept_calls c.sleeper_law.ensures.calls d c.requires.accepted l layout (let room = c.requires.room in omega (arith, room, first)) c.args.p x.0 x.1 (c.requires.sleeps x.0 x.1) c.args.waits.now waits.each c.mask_slot-mask.result (subst (λ (b : Arena). c.mask_slot-mask.result ≡ mask_of (design_of b) c.args.p) c.typed.ensures c.mask_slot-mask.ensures)
    _ _ adds in
    (r.0, c.into_program.ensures ∙ r.1 ∙ ap (λ (cs : List Call). cs ++ r.0) (c.from-code.ensures.calls ∙ c.replace-calls.ensures.value), r.2))

pub mask_slot-mask-requires-clause-sleeps : goal.mask_slot-mask-requires-clause-sleeps
mask_slot-mask-requires-clause-sleeps c = subst (λ (b : Arena). (x : Process) → slice_get (design_of b).processes c.args.p ≡ Some x → is_sleeping (design_of b) x ≡ true) (sym c.typed.ensures) c.requires.sleeps

pub mask_slot-mask-requires-clause-behind : goal.mask_slot-mask-requires-clause-behind
mask_slot-mask-requires-clause-behind c = subst (λ (b : Arena). c.args.first_temp ≡ first_mask (design_of b) + length (sleepers (design_of b))) (sym c.typed.ensures) c.requires.behind
