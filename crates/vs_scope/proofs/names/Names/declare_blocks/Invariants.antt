use Rattle.std.proofs.Common.{map, drop}
use Rattle.vs_elaborated.specs.Surveys.{block_entries}
use Rattle.vs_scope.specs.Clashes.{IsBehind}
use Rattle.vs_scope.specs.Made.{block_name}
use Rattle.vs_scope.specs.Views.{entries}
use Rattle.vs_scope.proofs.ClashSteps.{AreDeclared}
use Rattle.vs_scope.proofs.names.Names.declare_blocks.Given as goal

abbrev pub invariant-loop-name : goal.invariant-loop-name
invariant-loop-name l = AreDeclared (entries l.fn.self) (entries l.self) (block_entries (map block_name (drop l.name-index l.names))) (block_entries (map block_name l.names)) × IsBehind l.fn.self l.self
