use Rattle.std.proofs.Common.{ap, ◌∙◌}
use Rattle.std.specs.List.{list_any}
use Rattle.vs_design.specs.Designs as D
use Rattle.vs_flat.specs.declared.processes.Event as F
use Rattle.vs_compile.proofs.Clocked.{block_clocked}
use Rattle.vs_compile.proofs.processes.is_clocked.Goals as goal

pub returns-in-Block : goal.returns-in-Block
returns-in-Block c =
    block_clocked c.trees_law.ensures.processes c.args.typed.now c.args.process c.process.result.now c.in-Block.star c.in-Block.events c.in-Block.statement
    (rw c.flat.ensures.same at c.process.ensures) c.in-Block.is c.has_edge.result
    (c.has_edge.ensures ∙ ap (list_any (λ (e : F.Event). D.is_edge e.edge)) c.as_slice.ensures)
