use Rattle.std.proofs.Common.{◌≡◌, ℕ, ◌<◌, List, replicate, Some, sym, ap, ◌∙◌, subst}
use Rattle.std.specs.Prelude.{slice_get}
use Rattle.vs_design.specs.Designs.{bit_count}
use Rattle.vs_design.specs.Footprints.{contains}
use Rattle.vs_design.specs.Rules.{times}
use Rattle.vs_flat.specs.Arena.{Arena}
use Rattle.vs_flat.specs.DesignOf.{design_of}
use Rattle.vs_reads.specs.Footprint.{writes_at}
use Rattle.vs_driver.proofs.ByKind.{block_noted, target_is}
use Rattle.vs_reads.proofs.ByKind.{target_there}
use Rattle.vs_reads.proofs.ByKind.{kind_is}
use Rattle.vs_reads.proofs.Told.{told, below_length}
use Rattle.vs_driver.proofs.Counting.{process_noted}
use Rattle.vs_driver.proofs.table.note_process.Goals as goal

pub assigned_bits-requires-clause-there : goal.assigned_bits-requires-clause-there
assigned_bits-requires-clause-there c = target_there c.names_law.ensures.processes c.args.typed.now c.flat.ensures.lawful.names c.args.p c.process.result.now _ _ _ (subst (λ (a : Arena). slice_get a.processes c.args.p ≡ Some c.process.result.now) c.flat.ensures.same c.process.ensures) c.in-Assign.is

pub assigned_bits-requires-clause-target : goal.assigned_bits-requires-clause-target
assigned_bits-requires-clause-target c = target_is c.lawful_law.ensures.assign_targets c.fits_law.ensures.fits c.trees_law.ensures.processes c.args.typed.now c.flat.ensures.lawful c.flat.ensures.fits c.args.p c.process.result.now _ _ _ (subst (λ (a : Arena). slice_get a.processes c.args.p ≡ Some c.process.result.now) c.flat.ensures.same c.process.ensures) c.in-Assign.is

pub note-requires : goal.note-requires
note-requires c =
    let x = kind_is c.trees_law.ensures.processes c.args.typed.now c.args.p c.process.result.now _ (subst (λ (a : Arena). slice_get a.processes c.args.p ≡ Some c.process.result.now) c.flat.ensures.same c.process.ensures) c.in-Assign.is in
    let h = c.footprint_law.ensures.bits (design_of c.args.typed.now) c.flat.ensures.lawful.design c.args.p _ x in
    λ b k. subst (λ m. b < m) (sym c.requires.bits) (h.writes.below b (h.writes.same b ∙ sym (ap (λ (zs : List ℕ). contains zs b) (c.as_slice.ensures.value ∙ c.in_ok-bits-in-Assign.ensures)) ∙ k))

pub note-requires-in-Block : goal.note-requires-in-Block
note-requires-in-Block c =
    let d = design_of c.args.typed.now in
    let x = kind_is c.trees_law.ensures.processes c.args.typed.now c.args.p c.process.result.now _ (subst (λ (a : Arena). slice_get a.processes c.args.p ≡ Some c.process.result.now) c.flat.ensures.same c.process.ensures) c.in-Block.is in
    let h = c.footprint_law.ensures.bits d c.flat.ensures.lawful.design c.args.p _ x in
    below_length (bit_count d) _ _ _ c.requires.bits (told (bit_count d) _ _ _ (c.writes.ensures ∙ ap (λ fs. writes_at fs c.args.p) c.requires.footprints) h.writes)

pub returns-in_ok-bits-in-Assign : goal.returns-in_ok-bits-in-Assign
returns-in_ok-bits-in-Assign c =
    let x = kind_is c.trees_law.ensures.processes c.args.typed.now c.args.p c.process.result.now _ (subst (λ (a : Arena). slice_get a.processes c.args.p ≡ Some c.process.result.now) c.flat.ensures.same c.process.ensures) c.in-Assign.is in
    process_noted (design_of c.args.typed.now) c.args.p _ c.args.table.now c.note.new.table c.as_slice.result.now c.note.auto.table x
    (λ b. ap (λ (zs : List ℕ). replicate (times b zs) c.args.p) (sym (c.as_slice.ensures.value ∙ c.in_ok-bits-in-Assign.ensures))) c.note.ensures c.requires.drivers

pub returns-in-Block : goal.returns-in-Block
returns-in-Block c =
    let d = design_of c.args.typed.now in
    let x = kind_is c.trees_law.ensures.processes c.args.typed.now c.args.p c.process.result.now _ (subst (λ (a : Arena). slice_get a.processes c.args.p ≡ Some c.process.result.now) c.flat.ensures.same c.process.ensures) c.in-Block.is in
    let h = c.footprint_law.ensures.bits d c.flat.ensures.lawful.design c.args.p _ x in
    let w = told (bit_count d) _ _ _ (c.writes.ensures ∙ ap (λ fs. writes_at fs c.args.p) c.requires.footprints) h.writes in
    process_noted d c.args.p _ c.args.table.now c.note-in-Block.new.table c.writes.result.now c.note-in-Block.auto.table x (block_noted c.args.typed.now c.args.p c.process.result.now.at c.in-Block.star c.in-Block.events c.in-Block.statement c.writes.result.now w.rising w.same) c.note-in-Block.ensures c.requires.drivers
