use Rattle.std.proofs.Common.{◌≡◌, ◌++◌, map, drop}
use Rattle.vs_ast.specs.Views as view
use Rattle.vs_scope.specs.Views.{declaration}
use Rattle.vs_elaborated.specs.Uses.{is_variable_of}
use Rattle.vs_scope.specs.Contents.{contents_items}
use Rattle.vs_scope.specs.Declares.{integer_declared}
use Rattle.vs_scope.proofs.collect.collect_integers.Given as goal

abbrev pub invariant-loop-name : goal.invariant-loop-name
invariant-loop-name l = map declaration l.list.items ++ map (integer_declared (is_variable_of (contents_items l.contents))) (map view.name (drop l.name-index l.names)) ≡ map declaration l.fn.list.items ++ map (integer_declared (is_variable_of (contents_items l.contents))) (map view.name l.names)
