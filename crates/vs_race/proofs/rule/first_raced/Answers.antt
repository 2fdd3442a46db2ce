use Rattle.std.proofs.Common.{◌≡◌, true, false, Some, sym, ap, ◌∙◌, subst}
use Rattle.std.specs.Prelude.{slice_get}
use Rattle.std.specs.List.{list_any}
use Rattle.vs_design.specs.Designs.{Process, is_clocked, bit_count}
use Rattle.vs_flat.specs.Arena.{Arena}
use Rattle.vs_flat.specs.DesignOf.{design_of}
use Rattle.vs_flat.specs.Events.{is_edge_event}
use Rattle.vs_reads.specs.Footprint.{reads_at}
use Rattle.vs_reads.proofs.ByKind.{kind_is, process_same}
use Rattle.vs_reads.proofs.Told.{process_is, told, below_length}
use Rattle.vs_race.proofs.AtOnce.{block_clocked}
use Rattle.vs_race.proofs.Racing.{first_is, none_raced}
use Rattle.vs_race.proofs.rule.first_raced.Goals as goal

pub returns-then-not-has_edge : goal.returns-then-not-has_edge
returns-then-not-has_edge c order process told i =
    let a = c.args.typed.now in
    let r = c.process.result.now in
    let at : slice_get a.processes c.args.p ≡ Some r = subst (λ (x : Arena). slice_get x.processes c.args.p ≡ Some r) c.flat.ensures.same c.process.ensures in
    let same = process_same _ process _ (kind_is c.trees_law.ensures.processes a c.args.p r _ at c.in-Block.is) i in
    let edges = sym (c.has_edge.ensures ∙ ap (list_any is_edge_event) c.as_slice.ensures) ∙ c.if-not-has_edge.true in
    none_raced (design_of a) order c.args.p process (subst (λ (x : Process). is_clocked x ≡ false) same (block_clocked a r.at c.in-Block.star c.in-Block.events c.in-Block.statement false edges))

pub first_stirred-requires : goal.first_stirred-requires
first_stirred-requires c =
    let a = c.args.typed.now in
    let d = design_of a in
    let x = process_is c.footprint_law.ensures.bits a (c.trees_law.ensures.counts a) c.flat.ensures.lawful c.args.p c.requires.there in
    below_length (bit_count d) _ _ _ c.requires.count (told (bit_count d) _ _ _ (c.reads.ensures ∙ ap (λ fs. reads_at fs c.args.p) c.requires.footprints) x.bits.reads)

pub returns : goal.returns
returns c order process tells i =
    let a = c.args.typed.now in
    let d = design_of a in
    let r = c.process.result.now in
    let at : slice_get a.processes c.args.p ≡ Some r = subst (λ (x : Arena). slice_get x.processes c.args.p ≡ Some r) c.flat.ensures.same c.process.ensures in
    let same = process_same _ process _ (kind_is c.trees_law.ensures.processes a c.args.p r _ at c.in-Block.is) i in
    let edges = sym (c.has_edge.ensures ∙ ap (list_any is_edge_event) c.as_slice.ensures) ∙ c.if-not-has_edge.false in
    let clocked = subst (λ (x : Process). is_clocked x ≡ true) same (block_clocked a r.at c.in-Block.star c.in-Block.events c.in-Block.statement true edges) in
    let own = told (bit_count d) _ _ _ (c.reads.ensures ∙ ap (λ fs. reads_at fs c.args.p) c.requires.footprints) (c.footprint_law.ensures.bits d c.flat.ensures.lawful.design c.args.p process i).reads in
    first_is d order c.args.table.now tells c.args.p process clocked (bit_count d) c.reads.result.now own c.requires.count c.first_stirred.result c.first_stirred.ensures
