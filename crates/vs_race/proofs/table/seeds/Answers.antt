use Rattle.std.proofs.Common.{◌<◌, ◌+◌, ◌==◌, List, length, sym, ap, ◌∙◌, subst, arith, refl}
use Rattle.vs_flat.specs.Arena.{Arena}
use Rattle.vs_flat.specs.DesignOf.{design_of}
use Rattle.vs_reads.proofs.Told.{process_is}
use Rattle.vs_race.specs.declared.stirrer.Stirrer.{Stirrer}
use Rattle.vs_race.specs.Stirrers.{AreTold, IsWithin, IsSeeded, seeds_bit}
use Rattle.vs_race.proofs.Noting.{written_back}
use Rattle.vs_race.proofs.Spreading.{seeded_more, seeds_within}
use Rattle.vs_race.proofs.table.seeds.Goals as goal

pub note-requires : goal.note-requires
note-requires c =
    let a = c.args.typed.now in
    let d = design_of a in
    let p = c.loop-p.p in
    let whole = ap (λ (a : Arena). length a.processes) c.flat-flat.ensures.same in
    let within : p < length a.processes = omega (arith, whole, c.process_count-p-end.ensures.count, c.loop-p-test.true) in
    let x = process_is c.footprint_law.ensures.bits a (c.trees_law.ensures.counts a) c.flat-flat.ensures.lawful p within in
    subst (λ (t : List Stirrer). IsWithin (length t) c.as_slice.result.now) (sym c.as_mut_slice.ensures.value)
    (seeds_within d p c.loop-p.table.items x.process c.as_slice.result.now _ c.loop-p.invariant (c.as_slice.ensures.value ∙ c.in_ok-bits.ensures x.process x.is) x.bits.writes)

pub loop-p-preserved : goal.loop-p-preserved
loop-p-preserved c =
    let a = c.args.typed.now in
    let d = design_of a in
    let p = c.loop-p.p in
    let whole = ap (λ (a : Arena). length a.processes) c.flat-flat.ensures.same in
    let within : p < length a.processes = omega (arith, whole, c.process_count-p-end.ensures.count, c.loop-p-test.true) in
    let x = process_is c.footprint_law.ensures.bits a (c.trees_law.ensures.counts a) c.flat-flat.ensures.lawful p within in
    let told = c.note.ensures (seeds_bit d p) (λ q. q == p) (subst (λ (t : List Stirrer). AreTold t (seeds_bit d p)) (sym c.as_mut_slice.ensures.value) c.loop-p.invariant.told) (λ q. refl) in
    subst (IsSeeded d (p + 1)) (sym (written_back c.loop-p.table.len c.note.new.table c.loop-p.table.items (omega (arith, c.note.auto.table, c.as_mut_slice.ensures.len))))
    (seeded_more d p x.process c.as_slice.result.now c.loop-p.table.items c.note.new.table x.is (c.as_slice.ensures.value ∙ c.in_ok-bits.ensures x.process x.is) c.loop-p.invariant
    (c.note.auto.table ∙ ap (λ (t : List Stirrer). length t) c.as_mut_slice.ensures.value) told)
