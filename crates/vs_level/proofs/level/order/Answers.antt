use Rattle.std.proofs.Common.{◌≡◌, true, sym, ap, subst, ◌∙◌}
use Rattle.vs_flat.specs.DesignOf.{design_of}
use Rattle.vs_flat.specs.Lawful.{IsLawful}
use Rattle.vs_reads.specs.Footprint.{footprints_of}
use Rattle.vs_design.specs.Levels.{is_level_order}
use Rattle.vs_level.specs.Level.{IsLevelError}
use Rattle.vs_level.proofs.Bridge.{graph_closed, order_is, no_cycle, sort_error}
use Rattle.vs_level.proofs.level.order.Goals as goal

pub graph_of-requires-clause-lawful : goal.graph_of-requires-clause-lawful
graph_of-requires-clause-lawful c = subst IsLawful (sym c.flat-flat.ensures.same) c.flat-flat.ensures.lawful

pub graph_of-requires-clause-footprints : goal.graph_of-requires-clause-footprints
graph_of-requires-clause-footprints c = c.requires ∙ ap (λ a. footprints_of (design_of a)) (sym c.flat-flat.ensures.same)

pub sort-requires : goal.sort-requires
sort-requires c = graph_closed (design_of c.flat-flat.result.now) c.in_ok-graph.graph c.in_ok-graph.ensures

pub returns-in-Ok-clause-order : goal.returns-in-Ok-clause-order
returns-in-Ok-clause-order c =
    subst (λ o. is_level_order (design_of c.args.typed.now) o ≡ true) (sym c.of.ensures)
    (subst (λ a. is_level_order (design_of a) c.in-Ok.processes.items ≡ true) c.flat-flat.ensures.same
    (order_is (design_of c.flat-flat.result.now) c.in_ok-graph.graph c.in-Ok.processes.items c.in_ok-graph.ensures c.in-Ok.ensures.sorted))

pub returns-in-Ok-clause-acyclic : goal.returns-in-Ok-clause-acyclic
returns-in-Ok-clause-acyclic c =
    no_cycle c.cycle_law.ensures.cycle (design_of c.args.typed.now) c.in-Ok.processes.items
    (subst (λ a. is_level_order (design_of a) c.in-Ok.processes.items ≡ true) c.flat-flat.ensures.same
    (order_is (design_of c.flat-flat.result.now) c.in_ok-graph.graph c.in-Ok.processes.items c.in_ok-graph.ensures c.in-Ok.ensures.sorted))

pub error_of-requires : goal.error_of-requires
error_of-requires c = sort_error (design_of c.flat-flat.result.now) c.in_ok-graph.graph c.in-Err.error c.in_ok-graph.ensures c.in-Err.ensures.refused

pub returns-clause-refused : goal.returns-clause-refused
returns-clause-refused c = subst (λ a. IsLevelError (design_of a) c.error_of.result) c.flat-flat.ensures.same c.error_of.ensures
