use Rattle.std.proofs.Common.{◌≡◌, ◌+◌, ◌<◌, ℕ, List, length, sym, ◌∙◌, subst, arith}
use Rattle.std.proofs.Math.ListN.{length-set}
use Rattle.vs_design.specs.Designs.{bit_count}
use Rattle.vs_flat.specs.DesignOf.{design_of}
use Rattle.vs_clock.specs.Ports.{port_bits, AreTargets}
use Rattle.vs_reads.proofs.Numbered.{process_there}
use Rattle.vs_reads.proofs.Told.{there}
use Rattle.vs_clock.proofs.Least.{all_targets, copies_below}
use Rattle.vs_clock.proofs.Copies.{copy_below, targets_more, targets_same}
use Rattle.vs_clock.proofs.ports.targets_of.Goals as goal
use Rattle.vs_clock.proofs.ports.targets_of.Goals.{in-Some+in_ok-add-in-Some, in-None}

pub add-requires : goal.add-requires
add-requires c =
    let d = design_of c.args.flat.now in
    let x = process_there d.processes c.loop-p.p (there (there c.loop-p-test.true c.process_count-p-end.ensures.count) (sym (c.trees_law.ensures.counts c.args.flat.now).processes)) in
    subst (λ n. c.in-Some.from < n) (sym c.loop-p.invariant.0) (copy_below c.footprint_law.ensures.bits d c.requires.design c.loop-p.p x.0 _ _ x.1 (sym (c.in-Some.ensures x.0 x.1))).0

pub loop-p-preserved : goal.loop-p-preserved
loop-p-preserved c =
    let d = design_of c.args.flat.now in
    let p = c.loop-p.p in
    let x = process_there d.processes p (there (there c.loop-p-test.true c.process_count-p-end.ensures.count) (sym (c.trees_law.ensures.counts c.args.flat.now).processes)) in
    let P : List (List ℕ) → Type 0 = λ ts. (length ts ≡ bit_count d) × AreTargets port_bits d (p + 1) ts in
    elim c.match-copied_bits.branch [
      | in-Some+in_ok-add-in-Some w ↦
          let k = sym (w.in-Some.ensures x.0 x.1) in
          let l = subst (λ n. w.in-Some.from < n) (sym c.loop-p.invariant.0) (copy_below c.footprint_law.ensures.bits d c.requires.design p x.0 _ _ x.1 k).0 in
          subst P (sym (w.targets-is ∙ w.in_ok-add-in-Some.ensures)) (length-set c.loop-p.targets w.in-Some.from _ ∙ c.loop-p.invariant.0, targets_more port_bits d p x.0 w.in-Some.from w.in-Some.to c.loop-p.targets x.1 k l c.loop-p.invariant.1)
      | in-None w ↦ subst P (sym w.targets-is) (c.loop-p.invariant.0, targets_same port_bits d p x.0 c.loop-p.targets x.1 (sym (w.in-None.ensures x.0 x.1)) c.loop-p.invariant.1)
    ]

pub returns-clause-targets : goal.returns-clause-targets
returns-clause-targets c =
    let d = design_of c.args.flat.now in
    let e : c.loop-p.p ≡ length d.processes = omega (arith, c.loop-p-test.false, c.loop-p.auto.p-end, c.process_count-p-end.ensures.count, (c.trees_law.ensures.counts c.args.flat.now).processes) in
    all_targets c.footprint_law.ensures.bits d c.requires.design c.loop-p.targets c.loop-p.invariant.0 (subst (λ p. AreTargets port_bits d p c.loop-p.targets) e c.loop-p.invariant.1)

pub returns-clause-within : goal.returns-clause-within
returns-clause-within c =
    let d = design_of c.args.flat.now in
    let e : c.loop-p.p ≡ length d.processes = omega (arith, c.loop-p-test.false, c.loop-p.auto.p-end, c.process_count-p-end.ensures.count, (c.trees_law.ensures.counts c.args.flat.now).processes) in
    copies_below c.footprint_law.ensures.bits d c.requires.design port_bits (λ x b t h. h) c.loop-p.targets c.loop-p.invariant.0 (subst (λ p. AreTargets port_bits d p c.loop-p.targets) e c.loop-p.invariant.1)
