use Rattle.std.proofs.Common.{sym, ◌∙◌, arith}
use Rattle.vs_design.specs.Clocks.{reads_clock, clock_nets}
use Rattle.vs_flat.specs.DesignOf.{design_of}
use Rattle.vs_reads.proofs.Numbered.{process_there}
use Rattle.vs_reads.proofs.Told.{there}
use Rattle.vs_clock.proofs.Ruled.{none_more, first_is, none_is}
use Rattle.vs_clock.proofs.first.first_reading.Goals as goal

pub returns-then-is_reading : goal.returns-then-is_reading
returns-then-is_reading c = λ n a.
    let d = design_of c.args.flat.now in
    let x = process_there d.processes c.loop-p.p (there (there c.loop-p-test.true c.process_count-p-end.ensures.count) (sym (c.trees_law.ensures.counts c.args.flat.now).processes)) in
    first_is d (reads_clock (clock_nets (design_of c.args.flat.now) n)) c.loop-p.p x.0 x.1 (sym (c.is_reading.ensures n a x.0 x.1) ∙ c.if-is_reading.true) (c.loop-p.invariant n a)

pub loop-p-preserved : goal.loop-p-preserved
loop-p-preserved c = λ n a.
    let d = design_of c.args.flat.now in
    let x = process_there d.processes c.loop-p.p (there (there c.loop-p-test.true c.process_count-p-end.ensures.count) (sym (c.trees_law.ensures.counts c.args.flat.now).processes)) in
    none_more d (reads_clock (clock_nets (design_of c.args.flat.now) n)) c.loop-p.p x.0 x.1 (sym (c.is_reading.ensures n a x.0 x.1) ∙ c.if-is_reading.false) (c.loop-p.invariant n a)

pub returns : goal.returns
returns c = λ n a.
    let d = design_of c.args.flat.now in
    none_is d (reads_clock (clock_nets (design_of c.args.flat.now) n)) c.loop-p.p (omega (arith, c.loop-p-test.false, c.process_count-p-end.ensures.count, (c.trees_law.ensures.counts c.args.flat.now).processes)) (c.loop-p.invariant n a)
