use Rattle.std.proofs.Common.{◌<◌, ℕ, length, sym, ◌∙◌, ap, arith}
use Rattle.vs_flat.specs.Arena.{Arena}
use Rattle.vs_flat.specs.DesignOf.{design_of}
use Rattle.vs_compile.proofs.Accepted.{there}
use Rattle.vs_compile.proofs.Sleeping.{one_more, no_more}
use Rattle.vs_compile.proofs.tables.sleeper_count.Goals as goal
use Rattle.vs_compile.proofs.tables.sleeper_count.Goals.{then-sleeps, else-sleeps}

pub loop-p-preserved : goal.loop-p-preserved
loop-p-preserved c =
    let d = design_of c.args.typed.now in
    let n : ℕ = c.loop-p.p in
    let low : c.loop-p.p < length d.processes =
    omega (arith, c.loop-p-test.true, c.process_count-p-end.ensures.count, ap (λ (a : Arena). length a.processes) c.flat.ensures.same, (c.trees_law.ensures.counts c.args.typed.now).processes) in
    let x = there d.processes n low in
    elim c.if-sleeps.branch [
      | then-sleeps w ↦
          let next = one_more d n x.0 x.1 (sym (c.sleeps.ensures x.0 x.1) ∙ w.if-sleeps.true) in
          record { counted = omega (arith, w.count-is, c.loop-p.invariant.counted, next); few = omega (arith, w.count-is, c.loop-p.invariant.few) }
      | else-sleeps w ↦
          let next = no_more d n x.0 x.1 (sym (c.sleeps.ensures x.0 x.1) ∙ w.if-sleeps.false) in
          record { counted = omega (arith, w.count-is, c.loop-p.invariant.counted, next); few = omega (arith, w.count-is, c.loop-p.invariant.few) }
    ]
