use Rattle.std.proofs.Common.{not, ap, sym, ◌∙◌}
use Rattle.std.specs.List.{list_any}
use Rattle.vs_flat.specs.Events.{is_edge_event}
use Rattle.vs_level.proofs.Settling.{settles_by}
use Rattle.vs_level.proofs.feeders.is_settling.Goals as goal

pub returns-in-Assign : goal.returns-in-Assign
returns-in-Assign c = sym (settles_by c.trees_law.ensures.processes c.args.flat.now c.args.p c.process.result.now _ c.process.ensures c.in-Assign.is)

pub returns-in-Block : goal.returns-in-Block
returns-in-Block c =
    ap not (c.has_edge.ensures ∙ ap (list_any is_edge_event) c.as_slice.ensures)
    ∙ sym (settles_by c.trees_law.ensures.processes c.args.flat.now c.args.p c.process.result.now _ c.process.ensures c.in-Block.is)
