use Rattle.std.proofs.Common.{ap, ◌∙◌}
use Rattle.std.specs.List.{list_any}
use Rattle.vs_design.specs.Designs.{bit_count}
use Rattle.vs_design.specs.Footprints.{contains}
use Rattle.vs_flat.specs.DesignOf.{design_of}
use Rattle.vs_reads.specs.Footprint.{reads_at, waits_at}
use Rattle.vs_level.specs.Feeders.{writers_at}
use Rattle.vs_level.proofs.Growing.{feeders_are}
use Rattle.vs_reads.proofs.Told.{process_is, told, below_length, collected}
use Rattle.vs_level.proofs.feeders.feeders_of.Goals as goal

pub add_feeders-requires : goal.add_feeders-requires
add_feeders-requires c =
    let d = design_of c.args.flat.now in
    let x = process_is c.footprint_law.ensures.bits c.args.flat.now (c.trees_law.ensures.counts c.args.flat.now) c.requires.lawful c.args.p c.requires.process in
    below_length (bit_count d) _ _ _ c.requires.count (told (bit_count d) _ _ _ (c.reads.ensures ∙ ap (λ fs. reads_at fs c.args.p) c.requires.footprints) x.bits.reads)

pub add_feeders-requires-2 : goal.add_feeders-requires-2
add_feeders-requires-2 c =
    let d = design_of c.args.flat.now in
    let x = process_is c.footprint_law.ensures.bits c.args.flat.now (c.trees_law.ensures.counts c.args.flat.now) c.requires.lawful c.args.p c.requires.process in
    below_length (bit_count d) _ _ _ c.requires.count (told (bit_count d) _ _ _ (c.waits.ensures ∙ ap (λ fs. waits_at fs c.args.p) c.requires.footprints) x.bits.waits)

pub returns : goal.returns
returns c =
    let d = design_of c.args.flat.now in
    let x = process_is c.footprint_law.ensures.bits c.args.flat.now (c.trees_law.ensures.counts c.args.flat.now) c.requires.lawful c.args.p c.requires.process in
    let r = told (bit_count d) _ _ _ (c.reads.ensures ∙ ap (λ fs. reads_at fs c.args.p) c.requires.footprints) x.bits.reads in
    let v = told (bit_count d) _ _ _ (c.waits.ensures ∙ ap (λ fs. waits_at fs c.args.p) c.requires.footprints) x.bits.waits in
    λ q. feeders_are d c.args.p x.process c.args.writers.now c.reads.result.now c.waits.result.now c.of.result x.is c.requires.settles c.requires.writers r.same v.same
    (below_length (bit_count d) _ _ _ c.requires.count r) (below_length (bit_count d) _ _ _ c.requires.count v) q
    (collected _ _ _ c.of.result (λ q. list_any (λ b. contains (writers_at c.args.writers.now b) q) c.reads.result.now) (λ q. list_any (λ b. contains (writers_at c.args.writers.now b) q) c.waits.result.now) c.new-feeders.ensures.items c.in_ok-add_feeders.ensures c.in_ok-add_feeders-2.ensures c.of.ensures q)
