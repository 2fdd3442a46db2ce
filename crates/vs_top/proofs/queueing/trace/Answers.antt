use Rattle.std.proofs.Common.{length, refl, sym, subst, ap, ◌∙◌}
use Rattle.vs_flat.specs.Arena.{Arena}
use Rattle.vs_flat.specs.DesignOf.{design_of}
use Rattle.vs_clock.specs.Clocked.{Clocked}
use Rattle.vs_reads.specs.Footprint.{footprints_of}
use Rattle.vs_queue.specs.Machines.{IsAcceptedBy}
use Rattle.vs_ordered.specs.Traced.{AreSized}
use Rattle.vs_top.proofs.Tracing.{trace_of}
use Rattle.vs_top.proofs.queueing.trace.Goals as goal

pub run_vectors-requires-clause-accepted : goal.run_vectors-requires-clause-accepted
run_vectors-requires-clause-accepted c =
    subst (λ (a : Arena). IsAcceptedBy (design_of a) c.clocks.result.now) (sym c.typed.ensures)
    (subst (λ (k : Clocked). IsAcceptedBy (design_of c.args.accepted.now.flat) k) (sym c.clocks.ensures) c.requires.accepted)

pub run_vectors-requires-clause-footprints : goal.run_vectors-requires-clause-footprints
run_vectors-requires-clause-footprints c = c.footprints.ensures ∙ c.requires.footprints ∙ ap (λ (a : Arena). footprints_of (design_of a)) (sym c.typed.ensures)

pub run_vectors-requires-clause-sized : goal.run_vectors-requires-clause-sized
run_vectors-requires-clause-sized c =
    subst (λ (a : Arena). AreSized (design_of a) c.clocks.result.now.bits c.args.vectors.now) (sym c.typed.ensures)
    (subst (λ (k : Clocked). AreSized (design_of c.args.accepted.now.flat) k.bits c.args.vectors.now) (sym c.clocks.ensures) c.requires.sized)

pub returns-clause-traced : goal.returns-clause-traced
returns-clause-traced c =
    trace_of c.args.job.now.share c.args.job.now.half c.args.order c.args.vectors.now c.in_ok-run.run'.text.items (length c.args.vectors.now) c.in_ok-run.run'.steps c.typed.result.now c.args.accepted.now.flat c.clocks.result.now c.args.accepted.now.clocks
    c.typed.ensures c.clocks.ensures c.in_ok-run.ensures.text c.in_ok-run.ensures.steps refl
