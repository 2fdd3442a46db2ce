use Rattle.std.proofs.Common.{length, sym, ap, ◌∙◌, subst, eqb-true, eq-eqb}
use Rattle.std.proofs.lemmas.Bool.{both_ways}
use Rattle.vs_design.specs.Designs.{bit_count}
use Rattle.vs_design.specs.Footprints.{reads_of, waits_of}
use Rattle.vs_reads.specs.Footprint.{reads_at, waits_at}
use Rattle.vs_reads.specs.Laws as R
use Rattle.vs_compile.proofs.Needs.{reads_are_all, waits_are_all}
use Rattle.vs_compile.proofs.processes.needs.Goals as goal

pub returns-then-is_empty : goal.returns-then-is_empty
returns-then-is_empty c = λ d x foot lawful at none.
    let has = c.footprint_law.ensures.bits d lawful c.args.process x at in
    let read = c.reads.ensures ∙ ap (λ fs. reads_at fs c.args.process) foot in
    let wait = c.waits-waits.ensures ∙ ap (λ fs. waits_at fs c.args.process) foot in
    reads_are_all (bit_count d) x c.reads.result.now c.waits-waits.result.now
    (subst (λ bs. R.HasBitsOf (bit_count d) bs (reads_of x)) (sym read) has.reads)
    (subst (λ bs. R.HasBitsOf (bit_count d) bs (waits_of x)) (sym wait) has.waits)
    (eqb-true (length c.waits-waits.result.now) 0 (sym c.is_empty.ensures ∙ c.if-is_empty.true))

pub returns-else-is_empty : goal.returns-else-is_empty
returns-else-is_empty c = λ d x foot lawful at none.
    let has = c.footprint_law.ensures.bits d lawful c.args.process x at in
    let wait = c.waits-waits.ensures ∙ ap (λ fs. waits_at fs c.args.process) foot in
    waits_are_all (bit_count d) x c.waits-waits.result.now none
    (subst (λ bs. R.HasBitsOf (bit_count d) bs (waits_of x)) (sym wait) has.waits)
    (λ h. both_ways c.is_empty.result c.if-is_empty.false (c.is_empty.ensures ∙ eq-eqb (length c.waits-waits.result.now) 0 h))
