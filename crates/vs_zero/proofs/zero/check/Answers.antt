use Rattle.std.proofs.Common.{◌≡◌, ◌<◌, ℕ, Option, Some, length, sym, ap, ap₂, ◌∙◌, subst}
use Rattle.std.specs.Prelude.{slice_get}
use Rattle.vs_design.specs.Levels.{level_order}
use Rattle.vs_design.specs.Lifted.{Family}
use Rattle.vs_design.specs.TimeZero.{Families, families, is_uncertain}
use Rattle.vs_flat.specs.Arena.{Arena}
use Rattle.vs_flat.specs.DesignOf.{design_of}
use Rattle.vs_sets.specs.Tables.{family_of}
use Rattle.vs_clock.specs.Tests.{IsFirst}
use Rattle.vs_reads.proofs.ByKind.{place_at_is}
use Rattle.vs_zero.proofs.Deciding.{one_families, first_there, refused, none_refused}
use Rattle.vs_zero.proofs.Settling.{both}
use Rattle.vs_zero.proofs.Unrefused.{orderly}
use Rattle.vs_zero.proofs.zero.check.Goals as goal

pub process-requires : goal.process-requires
process-requires c =
    let a = c.args.typed.now in
    let d = design_of a in
    subst (λ (b : Arena). c.in-Some.process < length b.processes) (sym c.flat-flat.ensures.same)
    (subst (λ n. c.in-Some.process < n) (c.trees_law.ensures.counts a).processes
    (first_there d _ c.in-Some.process (subst (λ (o : Option ℕ). IsFirst d (is_uncertain d (both (family_of c.as_mut_slice.result.now) (family_of c.as_slice.result.now))) o) c.in-Some.is c.in_ok-first.ensures)))

pub returns-in-Some-clause-refused : goal.returns-in-Some-clause-refused
returns-in-Some-clause-refused c = λ names i.
    let a = c.args.typed.now in
    let d = design_of a in
    let bit = c.args.clocks.now.bits in
    let same = ap₂ (λ (f g : Family). both f g) (ap family_of c.as_mut_slice.ensures.value) (ap family_of c.as_slice.ensures.value) ∙ c.in_ok-families.ensures.sets
    ∙ one_families c.time_zero_law.ensures c.cycle_law.ensures.cycle d (orderly d c.flat-flat.ensures.lawful.design c.requires.blocks c.requires.drivers) bit c.args.order.now c.requires.order in
    let first = subst (λ (o : Option ℕ). IsFirst d (is_uncertain d (families d bit (level_order d))) o) c.in-Some.is (subst (λ (f : Families). IsFirst d (is_uncertain d f) c.in_ok-first.first) same c.in_ok-first.ensures) in
    refused d names c.args.clocks.now i c.in-Some.process c.process.result.now.at first
    (place_at_is c.trees_law.ensures.processes a c.in-Some.process c.process.result.now (subst (λ (b : Arena). slice_get b.processes c.in-Some.process ≡ Some c.process.result.now) c.flat-flat.ensures.same c.process.ensures))

pub returns-clause-lawful : goal.returns-clause-lawful
returns-clause-lawful c = λ names i.
    let a = c.args.typed.now in
    let d = design_of a in
    let bit = c.args.clocks.now.bits in
    let same = ap₂ (λ (f g : Family). both f g) (ap family_of c.as_mut_slice.ensures.value) (ap family_of c.as_slice.ensures.value) ∙ c.in_ok-families.ensures.sets
    ∙ one_families c.time_zero_law.ensures c.cycle_law.ensures.cycle d (orderly d c.flat-flat.ensures.lawful.design c.requires.blocks c.requires.drivers) bit c.args.order.now c.requires.order in
    let first = subst (λ (o : Option ℕ). IsFirst d (is_uncertain d (families d bit (level_order d))) o) c.in-None.is (subst (λ (f : Families). IsFirst d (is_uncertain d f) c.in_ok-first.first) same c.in_ok-first.ensures) in
    none_refused d names c.args.clocks.now i first
