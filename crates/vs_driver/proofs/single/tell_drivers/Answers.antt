use Rattle.std.proofs.Common.{◌≡◌, ◌<◌, Some, length, sym, ap, ◌∙◌, subst}
use Rattle.std.specs.Prelude.{slice_get}
use Rattle.vs_flat.specs.Arena.{Arena}
use Rattle.vs_flat.specs.DesignOf.{design_of}
use Rattle.vs_driver.specs.Drivers.{are_two}
use Rattle.vs_reads.proofs.Tests.{either_way}
use Rattle.vs_reads.proofs.ByKind.{place_at_is}
use Rattle.vs_driver.proofs.ByKind.{second_there}
use Rattle.vs_driver.proofs.Least.{drivers_told, has_two}
use Rattle.vs_driver.proofs.single.tell_drivers.Goals as goal

pub returns-in-Nobody-clause-single : goal.returns-in-Nobody-clause-single
returns-in-Nobody-clause-single c =
    let d = design_of c.args.typed.now in
    either_way (are_two c.args.both) (ap are_two c.requires.drivers ∙ has_two c.refusal_law.ensures.writers d c.args.bit c.requires.least c.requires.started) (ap are_two c.in-Nobody.is)

pub returns-in-One-clause-single : goal.returns-in-One-clause-single
returns-in-One-clause-single c =
    let d = design_of c.args.typed.now in
    either_way (are_two c.args.both) (ap are_two c.requires.drivers ∙ has_two c.refusal_law.ensures.writers d c.args.bit c.requires.least c.requires.started) (ap are_two c.in-One.is)

pub process-requires : goal.process-requires
process-requires c =
    subst (λ (a : Arena). c.in-Two.second < length a.processes) (sym c.flat-flat.ensures.same)
    (subst (λ n. c.in-Two.second < n) (c.trees_law.ensures.counts c.args.typed.now).processes
    (second_there c.refusal_law.ensures.writers (design_of c.args.typed.now) c.args.bit c.in-Two.first c.in-Two.second (sym c.requires.drivers ∙ c.in-Two.is)))

pub returns-in-Two-clause-refused : goal.returns-in-Two-clause-refused
returns-in-Two-clause-refused c =
    drivers_told (design_of c.args.typed.now) c.args.bit c.in-Two.first c.in-Two.second c.process.result.now.at c.requires.least c.requires.started (sym c.requires.drivers ∙ c.in-Two.is)
    (place_at_is c.trees_law.ensures.processes c.args.typed.now c.in-Two.second c.process.result.now (subst (λ (a : Arena). slice_get a.processes c.in-Two.second ≡ Some c.process.result.now) c.flat-flat.ensures.same c.process.ensures))
