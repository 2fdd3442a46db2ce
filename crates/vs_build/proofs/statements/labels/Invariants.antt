use Rattle.std.proofs.Common.{◌+◌, map, take}
use Rattle.vs_grammar.specs.Depths.{deepest, expr_depth}
use Rattle.vs_ast.specs.Views as view
use Rattle.vs_elaborated.specs.Statements.{typed_list}
use Rattle.vs_build.specs.Drafts.{AddsParts}
use Rattle.vs_build.specs.Growth.{draft}
use Rattle.vs_build.proofs.statements.labels.Given as goal

abbrev pub invariant-loop-label : goal.invariant-loop-label
invariant-loop-label g l = AddsParts (draft l.initial.builder) (draft l.builder) (typed_list (map view.expr (take l.label-index l.list)) (g.E.Env.names l.env)).expressions (1 + deepest expr_depth (map view.expr l.list))
