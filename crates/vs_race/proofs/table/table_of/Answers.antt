use Rattle.std.proofs.Common.{◌≡◌, ◌+◌, true, List, length, get_or, take, sym, ap, ◌∙◌, subst, arith, refl}
use Rattle.std.proofs.lemmas.Option.{slice_get_within}
use Rattle.vs_design.specs.Designs.{bit_count}
use Rattle.vs_design.specs.Footprints.{reads_of, writes_of, waits_of}
use Rattle.vs_design.specs.Levels.{is_level_order}
use Rattle.vs_flat.specs.DesignOf.{design_of}
use Rattle.vs_reads.specs.Footprint.{reads_at, writes_at, waits_at}
use Rattle.vs_reads.proofs.Told.{told}
use Rattle.vs_race.specs.declared.stirrer.Stirrer.{Stirrer}
use Rattle.vs_race.specs.Stirrers.{AreTold, IsWithin, IsTableOf, stirs_bit}
use Rattle.vs_race.proofs.Noting.{written_back}
use Rattle.vs_race.proofs.Spreading.{table_begun, table_more, within_table, ordered_there}
use Rattle.vs_race.proofs.table.table_of.Goals as goal

pub loop-p-init : goal.loop-p-init
loop-p-init c = let d = design_of c.args.typed.now in table_begun d (length d.processes) c.in_ok-table.table.items refl c.in_ok-table.ensures

pub pass_on-requires-clause-there : goal.pass_on-requires-clause-there
pass_on-requires-clause-there c =
    let d = design_of c.args.typed.now in
    let order = c.list-p-items.result.now in
    let level : is_level_order d order ≡ true = subst (λ o. is_level_order d o ≡ true) (sym c.list-p-items.ensures) c.requires.order in
    let x = ordered_there c.cycle_law.ensures.order d order level c.loop-p.p-index c.loop-p-test.true in
    let p = get_or order c.loop-p.p-index 0 in
    let inside = slice_get_within d.processes p x.0 x.1 in
    omega (arith, inside, ap length c.requires.footprints, c.footprint_law.ensures.counts d)

pub pass_on-requires-clause-reads : goal.pass_on-requires-clause-reads
pass_on-requires-clause-reads c =
    let d = design_of c.args.typed.now in
    let order = c.list-p-items.result.now in
    let level : is_level_order d order ≡ true = subst (λ o. is_level_order d o ≡ true) (sym c.list-p-items.ensures) c.requires.order in
    let x = ordered_there c.cycle_law.ensures.order d order level c.loop-p.p-index c.loop-p-test.true in
    let p = get_or order c.loop-p.p-index 0 in
    let bits = c.footprint_law.ensures.bits d c.flat-flat.ensures.lawful.design p x.0 x.1 in
    subst (λ (t : List Stirrer). IsWithin (length t) (reads_at c.args.footprints.now p)) (sym c.as_mut_slice.ensures.value)
    (within_table d c.loop-p.table.items _ (reads_at c.args.footprints.now p) (reads_of x.0) c.loop-p.invariant (told (bit_count d) _ _ _ (ap (λ fs. reads_at fs p) c.requires.footprints) bits.reads))

pub pass_on-requires-clause-waits : goal.pass_on-requires-clause-waits
pass_on-requires-clause-waits c =
    let d = design_of c.args.typed.now in
    let order = c.list-p-items.result.now in
    let level : is_level_order d order ≡ true = subst (λ o. is_level_order d o ≡ true) (sym c.list-p-items.ensures) c.requires.order in
    let x = ordered_there c.cycle_law.ensures.order d order level c.loop-p.p-index c.loop-p-test.true in
    let p = get_or order c.loop-p.p-index 0 in
    let bits = c.footprint_law.ensures.bits d c.flat-flat.ensures.lawful.design p x.0 x.1 in
    subst (λ (t : List Stirrer). IsWithin (length t) (waits_at c.args.footprints.now p)) (sym c.as_mut_slice.ensures.value)
    (within_table d c.loop-p.table.items _ (waits_at c.args.footprints.now p) (waits_of x.0) c.loop-p.invariant (told (bit_count d) _ _ _ (ap (λ fs. waits_at fs p) c.requires.footprints) bits.waits))

pub pass_on-requires-clause-writes : goal.pass_on-requires-clause-writes
pass_on-requires-clause-writes c =
    let d = design_of c.args.typed.now in
    let order = c.list-p-items.result.now in
    let level : is_level_order d order ≡ true = subst (λ o. is_level_order d o ≡ true) (sym c.list-p-items.ensures) c.requires.order in
    let x = ordered_there c.cycle_law.ensures.order d order level c.loop-p.p-index c.loop-p-test.true in
    let p = get_or order c.loop-p.p-index 0 in
    let bits = c.footprint_law.ensures.bits d c.flat-flat.ensures.lawful.design p x.0 x.1 in
    subst (λ (t : List Stirrer). IsWithin (length t) (writes_at c.args.footprints.now p)) (sym c.as_mut_slice.ensures.value)
    (within_table d c.loop-p.table.items _ (writes_at c.args.footprints.now p) (writes_of x.0) c.loop-p.invariant (told (bit_count d) _ _ _ (ap (λ fs. writes_at fs p) c.requires.footprints) bits.writes))

pub loop-p-preserved : goal.loop-p-preserved
loop-p-preserved c =
    let d = design_of c.args.typed.now in
    let order = c.list-p-items.result.now in
    let level : is_level_order d order ≡ true = subst (λ o. is_level_order d o ≡ true) (sym c.list-p-items.ensures) c.requires.order in
    let x = ordered_there c.cycle_law.ensures.order d order level c.loop-p.p-index c.loop-p-test.true in
    let p = get_or order c.loop-p.p-index 0 in
    let bits = c.footprint_law.ensures.bits d c.flat-flat.ensures.lawful.design p x.0 x.1 in
    let prints = c.args.footprints.now in
    let k = c.loop-p.p-index in
    let passed = c.pass_on.ensures (stirs_bit d (take k order)) (subst (λ (t : List Stirrer). AreTold t (stirs_bit d (take k order))) (sym c.as_mut_slice.ensures.value) c.loop-p.invariant.told) in
    subst (IsTableOf d (take (k + 1) order)) (sym (written_back c.loop-p.table.len c.pass_on.new.table c.loop-p.table.items (omega (arith, c.pass_on.auto.table, c.as_mut_slice.ensures.len))))
    (table_more d prints order k p x.0 c.loop-p.table.items c.pass_on.new.table c.loop-p-test.true refl x.1
    (record {
      writes = told (bit_count d) _ _ _ (ap (λ fs. writes_at fs p) c.requires.footprints) bits.writes;
      reads = told (bit_count d) _ _ _ (ap (λ fs. reads_at fs p) c.requires.footprints) bits.reads;
      waits = told (bit_count d) _ _ _ (ap (λ fs. waits_at fs p) c.requires.footprints) bits.waits;
    })
    c.loop-p.invariant (c.pass_on.auto.table ∙ ap (λ (t : List Stirrer). length t) c.as_mut_slice.ensures.value) passed)
