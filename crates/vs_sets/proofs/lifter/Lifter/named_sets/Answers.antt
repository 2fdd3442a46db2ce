use Rattle.std.proofs.Common.{◌∙◌}
use Rattle.vs_flat.specs.Targets.{source_of}
use Rattle.vs_sets.specs.Nodes.{tree_of}
use Rattle.vs_sets.proofs.Limits.{named_sets}
use Rattle.vs_sets.proofs.lifter.Lifter.named_sets.Goals as goal

pub returns : goal.returns
returns c =
    c.list_of.ensures
    ∙ named_sets c.args.self.now.table.now (source_of (tree_of c.args.self.now.shapes.now c.args.e)) c.named_span-span.result.first c.named_span-span.result.len c.requires.is_name c.requires.within c.named_span-span.ensures.first c.named_span-span.ensures.len
