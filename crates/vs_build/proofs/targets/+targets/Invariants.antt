use Rattle.std.proofs.Common.{◌+◌, take}
use Rattle.vs_grammar.specs.Depths.{targets_depth}
use Rattle.vs_ast.specs.Views as view
use Rattle.vs_build.specs.Drafts.{AddsParts}
use Rattle.vs_build.specs.Growth.{draft}
use Rattle.vs_build.specs.Writable.{target_expressions}
use Rattle.vs_build.proofs.targets.+targets.Given as goal

abbrev pub invariant-targets-loop-part : goal.invariant-targets-loop-part
invariant-targets-loop-part g l =
    AddsParts (draft l.initial.builder) (draft l.builder) (target_expressions (g.E.Env.names l.env) l.procedural (take l.part-index l.list)) (1 + targets_depth (view.targets l.list))
