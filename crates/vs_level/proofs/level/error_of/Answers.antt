use Rattle.std.proofs.Common.{subst}
use Rattle.vs_design.specs.Cycles.{IsCycle}
use Rattle.vs_flat.specs.DesignOf.{design_of}
use Rattle.vs_level.specs.SortError.{IsSortErrorOf}
use Rattle.vs_level.proofs.Bridge.{first_place, has_cycle}
use Rattle.vs_level.proofs.level.error_of.Goals as goal

pub returns-in-Circle : goal.returns-in-Circle
returns-in-Circle c =
    let d = design_of c.args.flat.now in
    let h : IsCycle d c.in-Circle.processes.items = subst (IsSortErrorOf d) c.in-Circle.is c.requires in
    (h, first_place c.trees_law.ensures.processes c.args.flat.now c.in-Circle.processes.items c.index.result.now c.process.result.now h c.index.ensures c.process.ensures, has_cycle c.cycle_law.ensures.cycle d c.in-Circle.processes.items h)
