use Rattle.std.proofs.Common.{sym, ap, ◌∙◌}
use Rattle.std.specs.List.{list_any}
use Rattle.vs_flat.specs.Events.{is_edge_event}
use Rattle.vs_queue.specs.Initially.{is_clocked_kind}
use Rattle.vs_queue.proofs.starts.is_clocked.Goals as goal

pub returns-in-Block : goal.returns-in-Block
returns-in-Block c = c.has_edge.ensures ∙ ap (list_any is_edge_event) c.as_slice.ensures ∙ ap is_clocked_kind (sym c.in-Block.is)
