use Rattle.std.proofs.Common.{◌≡◌, Some, ap, ◌∙◌, subst}
use Rattle.std.specs.Prelude.{slice_get}
use Rattle.vs_flat.specs.Arena.{Arena}
use Rattle.vs_reads.specs.Footprint.{writes_at}
use Rattle.vs_reads.proofs.ByKind.{target_there}
use Rattle.vs_driver.proofs.ByKind.{target_is}
use Rattle.vs_driver.proofs.Writing.{assign_added, block_added}
use Rattle.vs_driver.proofs.writers.with_process.Goals as goal

pub assigned_bits-requires-clause-there : goal.assigned_bits-requires-clause-there
assigned_bits-requires-clause-there c = target_there c.names_law.ensures.processes c.args.typed.now c.flat.ensures.lawful.names c.args.p c.process.result.now _ _ _ (subst (λ (a : Arena). slice_get a.processes c.args.p ≡ Some c.process.result.now) c.flat.ensures.same c.process.ensures) c.in-Assign.is

pub assigned_bits-requires-clause-target : goal.assigned_bits-requires-clause-target
assigned_bits-requires-clause-target c = target_is c.lawful_law.ensures.assign_targets c.fits_law.ensures.fits c.trees_law.ensures.processes c.args.typed.now c.flat.ensures.lawful c.flat.ensures.fits c.args.p c.process.result.now _ _ _ (subst (λ (a : Arena). slice_get a.processes c.args.p ≡ Some c.process.result.now) c.flat.ensures.same c.process.ensures) c.in-Assign.is

pub returns-in_ok-bits-in-Assign : goal.returns-in_ok-bits-in-Assign
returns-in_ok-bits-in-Assign c =
    assign_added c.trees_law.ensures.processes c.args.typed.now c.args.p c.process.result.now _ _ _ (subst (λ (a : Arena). slice_get a.processes c.args.p ≡ Some c.process.result.now) c.flat.ensures.same c.process.ensures) c.in-Assign.is
    c.args.so_far c.with_each.result c.args.bit c.as_slice.result.now (c.as_slice.ensures.value ∙ c.in_ok-bits-in-Assign.ensures) c.with_each.ensures

pub returns-in-Block : goal.returns-in-Block
returns-in-Block c =
    block_added c.trees_law.ensures.processes c.footprint_law.ensures.bits c.args.typed.now c.flat.ensures.lawful c.args.p c.process.result.now _ _ _ (subst (λ (a : Arena). slice_get a.processes c.args.p ≡ Some c.process.result.now) c.flat.ensures.same c.process.ensures) c.in-Block.is
    c.args.so_far c.with_any.result c.args.bit c.writes.result.now (c.writes.ensures ∙ ap (λ fs. writes_at fs c.args.p) c.requires.footprints) c.with_any.ensures
