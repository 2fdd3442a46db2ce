use Rattle.std.proofs.Common.{sym, ◌∙◌, arith}
use Rattle.vs_design.specs.Clocks.{has_other_clock, clock_nets, root_of}
use Rattle.vs_flat.specs.DesignOf.{design_of}
use Rattle.vs_reads.proofs.Numbered.{process_there}
use Rattle.vs_reads.proofs.Told.{there}
use Rattle.vs_clock.proofs.Ruled.{none_more, first_is, none_is}
use Rattle.vs_clock.proofs.first.first_other.Goals as goal

pub returns-then-is_other : goal.returns-then-is_other
returns-then-is_other c = λ n a.
    let d = design_of c.args.flat.now in
    let x = process_there d.processes c.loop-p.p (there (there c.loop-p-test.true c.process_count-p-end.ensures.count) (sym (c.trees_law.ensures.counts c.args.flat.now).processes)) in
    first_is d (has_other_clock (clock_nets (design_of c.args.flat.now) n) (root_of (design_of c.args.flat.now) n)) c.loop-p.p x.0 x.1 (sym (c.is_other.ensures n a x.0 x.1) ∙ c.if-is_other.true) (c.loop-p.invariant n a)

pub loop-p-preserved : goal.loop-p-preserved
loop-p-preserved c = λ n a.
    let d = design_of c.args.flat.now in
    let x = process_there d.processes c.loop-p.p (there (there c.loop-p-test.true c.process_count-p-end.ensures.count) (sym (c.trees_law.ensures.counts c.args.flat.now).processes)) in
    none_more d (has_other_clock (clock_nets (design_of c.args.flat.now) n) (root_of (design_of c.args.flat.now) n)) c.loop-p.p x.0 x.1 (sym (c.is_other.ensures n a x.0 x.1) ∙ c.if-is_other.false) (c.loop-p.invariant n a)

pub returns : goal.returns
returns c = λ n a.
    let d = design_of c.args.flat.now in
    none_is d (has_other_clock (clock_nets (design_of c.args.flat.now) n) (root_of (design_of c.args.flat.now) n)) c.loop-p.p (omega (arith, c.loop-p-test.false, c.process_count-p-end.ensures.count, (c.trees_law.ensures.counts c.args.flat.now).processes)) (c.loop-p.invariant n a)
