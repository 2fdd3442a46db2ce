use Rattle.std.proofs.Common.{◌<◌, ◌≤◌, ℕ, length, sym, ◌∙◌, ap, arith}
use Rattle.vs_flat.specs.Arena.{Arena}
use Rattle.vs_flat.specs.DesignOf.{design_of}
use Rattle.vs_compile.proofs.Accepted.{there}
use Rattle.vs_compile.proofs.Masks.{mask_is}
use Rattle.vs_compile.proofs.Sleeping.{one_more, no_more}
use Rattle.vs_compile.proofs.sleeper.mask_slot.Goals as goal
use Rattle.vs_compile.proofs.sleeper.mask_slot.Goals.{then-sleeps, else-sleeps}

pub loop-q-preserved : goal.loop-q-preserved
loop-q-preserved c =
    let d = design_of c.args.typed.now in
    let n : ℕ = c.loop-q.q in
    let low : c.loop-q.q < length d.processes =
    omega (arith, c.loop-q-test.true, c.process_count-q-end.ensures.count, ap (λ (a : Arena). length a.processes) c.flat.ensures.same, (c.trees_law.ensures.counts c.args.typed.now).processes) in
    let x = there d.processes n low in
    elim c.if-sleeps.branch [
      | then-sleeps w ↦
          let next = one_more d n x.0 x.1 (sym (c.sleeps.ensures x.0 x.1) ∙ w.if-sleeps.true) in
          record { counted = omega (arith, w.from_here-is, c.loop-q.invariant.counted, next); few = omega (arith, w.from_here-is, c.loop-q.invariant.few) }
      | else-sleeps w ↦
          let next = no_more d n x.0 x.1 (sym (c.sleeps.ensures x.0 x.1) ∙ w.if-sleeps.false) in
          record { counted = omega (arith, w.from_here-is, c.loop-q.invariant.counted, next); few = omega (arith, w.from_here-is, c.loop-q.invariant.few) }
    ]

pub returns : goal.returns
returns c =
    let d = design_of c.args.typed.now in
    let counts = c.trees_law.ensures.counts c.args.typed.now in
    let x = there d.processes c.args.p (omega (arith, c.requires.there, counts.processes)) in
    let all : length d.processes ≤ c.loop-q.q = omega (arith, c.loop-q-test.false, c.process_count-q-end.ensures.count, ap (λ (a : Arena). length a.processes) c.flat.ensures.same, counts.processes) in
    let is = mask_is d c.args.p x.0 x.1 (c.requires.sleeps x.0 x.1) c.args.first_temp c.loop-q.from_here c.loop-q.q c.requires.behind c.loop-q.invariant.counted all in
    omega (arith, is)
