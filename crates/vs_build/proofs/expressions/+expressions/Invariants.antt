use Rattle.std.proofs.Common.{◌+◌, take}
use Rattle.vs_grammar.specs.Depths.{exprs_depth}
use Rattle.vs_ast.specs.Views as view
use Rattle.vs_build.specs.Drafts.{AddsParts}
use Rattle.vs_build.specs.Growth.{draft}
use Rattle.vs_build.specs.Buildable.{part_expressions}
use Rattle.vs_build.proofs.expressions.+expressions.Given as goal

abbrev pub invariant-parts-loop-part : goal.invariant-parts-loop-part
invariant-parts-loop-part g l =
    AddsParts (draft l.initial.builder) (draft l.builder) (part_expressions (g.E.Env.names l.env) l.needed (take l.part-index l.list)) (1 + exprs_depth (view.exprs l.list))

abbrev pub invariant-arguments-loop-argument : goal.invariant-arguments-loop-argument
invariant-arguments-loop-argument g l =
    AddsParts (draft l.initial.builder) (draft l.builder) (part_expressions (g.E.Env.names l.env) l.needed (take l.argument-index l.list)) (1 + exprs_depth (view.exprs l.list))
