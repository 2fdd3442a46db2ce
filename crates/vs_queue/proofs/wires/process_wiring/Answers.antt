use Rattle.std.proofs.Common.{List, ℕ, [], replicate, length, sym, ap, ap₂, ◌∙◌, subst, arith}
use Rattle.vs_design.specs.Designs as D
use Rattle.vs_flat.specs.Arena.{Arena}
use Rattle.vs_flat.specs.DesignOf.{design_of}
use Rattle.vs_flat.specs.Lawful.{IsLawful}
use Rattle.vs_queue.specs.Spare.{value_count}
use Rattle.vs_queue.specs.There.{AllThere}
use Rattle.vs_queue.specs.Listens.{process_listens}
use Rattle.vs_queue.proofs.Told.{bits_are, few_spares}
use Rattle.vs_queue.proofs.Wirings.{process_there}
use Rattle.vs_queue.proofs.Listening.{none_wired, wired_more, wired_all}
use Rattle.vs_queue.proofs.wires.process_wiring.Goals as goal

pub loop-p-init : goal.loop-p-init
loop-p-init c =
    let a = c.args.typed.now in
    let clocks = c.args.clocks.now.bits in
    none_wired (value_count (design_of a) clocks) (D.bit_count (design_of a)) (design_of a).processes c.in_ok-wiring.wiring
    (c.in_ok-wiring.ensures ∙ ap (λ k. replicate k []) (c.value_count.ensures ∙ ap₂ (λ (z : Arena) (b : List ℕ). value_count (design_of z) b) c.flat-flat.ensures.same c.bits.ensures))

pub value_count-requires-clause-lawful : goal.value_count-requires-clause-lawful
value_count-requires-clause-lawful c = subst IsLawful (sym c.flat-flat.ensures.same) c.flat-flat.ensures.lawful

pub value_count-requires-clause-one : goal.value_count-requires-clause-one
value_count-requires-clause-one c = rw (c.flat-flat.ensures.same, c.bits.ensures) (few_spares (design_of c.args.typed.now) c.args.clocks.now c.requires.accepted)

pub listen-requires-clause-there : goal.listen-requires-clause-there
listen-requires-clause-there c =
    let l = c.loop-p-test.true in
    let m = c.process_count-p-end.ensures.count in
    let n = ap (λ (z : Arena). length z.processes) c.flat-flat.ensures.same in
    omega (arith, l, m, n)

pub listen-requires-clause-bits : goal.listen-requires-clause-bits
listen-requires-clause-bits c = λ x at.
    let d = design_of c.args.typed.now in
    let l = c.loop-p-test.true in
    let m = c.process_count-p-end.ensures.count in
    let n = ap (λ (z : Arena). length z.processes) c.flat-flat.ensures.same in
    let k = (c.trees_law.ensures.counts c.args.typed.now).processes in (
      length d.processes,
      subst (λ j. AllThere j (length d.processes) (process_listens (D.bit_count d) c.loop-p.p x)) (sym (c.loop-p.invariant.long ∙ ap (value_count d) (bits_are d c.args.clocks.now c.requires.accepted)))
          (process_there c.footprint_law.ensures.bits c.footprint_law.ensures.ascending c.within_law.ensures.expressions d c.requires.accepted.names c.requires.accepted.accepted c.loop-p.p x (omega (arith, l, m, n, k)) at),
    )

pub loop-p-preserved : goal.loop-p-preserved
loop-p-preserved c =
    let d = design_of c.args.typed.now in
    let l = c.loop-p-test.true in
    let m = c.process_count-p-end.ensures.count in
    let n = ap (λ (z : Arena). length z.processes) c.flat-flat.ensures.same in
    let k = (c.trees_law.ensures.counts c.args.typed.now).processes in
    wired_more (value_count d c.args.clocks.now.bits) (D.bit_count d) d.processes c.loop-p.wiring c.listen.new.wiring c.loop-p.p (omega (arith, l, m, n, k)) c.in_ok-listen.ensures c.loop-p.invariant

pub returns : goal.returns
returns c =
    let d = design_of c.args.typed.now in
    let l = c.loop-p-test.false in
    let m = c.process_count-p-end.ensures.count in
    let n = ap (λ (z : Arena). length z.processes) c.flat-flat.ensures.same in
    let k = (c.trees_law.ensures.counts c.args.typed.now).processes in
    wired_all (value_count d c.args.clocks.now.bits) (D.bit_count d) d.processes c.loop-p.wiring c.loop-p.p (omega (arith, l, m, n, k)) c.loop-p.invariant
