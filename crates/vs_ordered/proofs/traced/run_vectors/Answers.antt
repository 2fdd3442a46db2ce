use Rattle.std.proofs.Common.{ap, map, ◌∙◌, subst, sym}
use Rattle.vs_flat.specs.Arena.{Arena}
use Rattle.vs_flat.specs.DesignOf.{design_of}
use Rattle.vs_flat.specs.Lawful.{IsLawful}
use Rattle.vs_rounds.specs.Drives.{vector_state}
use Rattle.vs_vcd.specs.Shared.{text_of}
use Rattle.vs_writes.specs.Held.{state_of}
use Rattle.vs_ordered.proofs.Valid.{all_given}
use Rattle.vs_ordered.proofs.Same.{every_dump, has_steps}
use Rattle.vs_ordered.proofs.traced.run_vectors.Goals as goal

pub ordered_run-requires-clause-drive : goal.ordered_run-requires-clause-drive
ordered_run-requires-clause-drive c =
    let d = design_of c.args.typed.now in
    let clocks = c.args.clocks.now.bits in
    (map (vector_state d clocks) c.args.vectors.now, all_given d c.args.clocks.now c.requires.accepted c.args.vectors.now c.requires.sized)

pub dump-requires-clause-lawful : goal.dump-requires-clause-lawful
dump-requires-clause-lawful c = subst IsLawful (sym c.flat.ensures.same) c.flat.ensures.lawful

pub returns-clause-text : goal.returns-clause-text
returns-clause-text c =
    let values = c.in_ok-ends.ends in
    let text = c.in_ok-text.ensures ∙ ap (λ (a : Arena). text_of c.args.share (design_of a) c.args.half (map state_of values)) c.flat.ensures.same in
    every_dump c.order_law.ensures c.unique_law.ensures c.requires.accepted c.args.half c.args.vectors.now values c.args.share c.in_ok-text.text.items c.requires.sized c.in_ok-ends.ensures.solution text

pub returns-clause-steps : goal.returns-clause-steps
returns-clause-steps c = has_steps c.requires.accepted c.args.order c.args.vectors.now c.in_ok-ends.ends c.in_ok-ends.steps c.requires.sized c.in_ok-ends.ensures.run
