use Rattle.std.proofs.Common.{◌≡◌, ◌++◌, map, take}
use Rattle.vs_ast.specs.Views as view
use Rattle.vs_accept.specs.Outputs.{names_in}
use Rattle.vs_accept.proofs.outputs.push_names.Given as goal

abbrev pub invariant-loop-declarator : goal.invariant-loop-declarator
invariant-loop-declarator l = l.names.items ≡ l.fn.names.items ++ names_in (map view.declarator (take l.declarator-index l.declarators))
