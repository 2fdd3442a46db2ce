use Rattle.std.proofs.Common.{◌+◌, take}
use Rattle.vs_grammar.specs.Depths.{targets_depth}
use Rattle.vs_ast.specs.Views as view
use Rattle.vs_build.specs.Drafts.{AddsParts}
use Rattle.vs_build.specs.Growth.{draft}
use Rattle.vs_build.specs.Outputs.{outputs_of, output_expressions}
use Rattle.vs_build.proofs.outputs.+outputs.Given as goal

abbrev pub invariant-outputs-loop-part : goal.invariant-outputs-loop-part
invariant-outputs-loop-part g l =
    AddsParts (draft l.initial.builder) (draft l.builder) (output_expressions (g.E.Env.names l.env) (take l.part-index l.list)) (1 + targets_depth (outputs_of (view.exprs l.list)))
