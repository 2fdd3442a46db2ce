use Rattle.std.proofs.Common.{◌≡◌, map, drop}
use Rattle.vs_elaborated.specs.Ports.{find_in}
use Rattle.vs_ast.specs.Views as view
use Rattle.vs_accept.proofs.outputs.find_module.Given as goal

-- no module so far has the name
abbrev pub invariant-loop-candidate : goal.invariant-loop-candidate
invariant-loop-candidate l = find_in (map view.module_tree (drop l.candidate-index l.modules)) l.name ≡ find_in (map view.module_tree l.modules) l.name
