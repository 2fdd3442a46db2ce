-- Blocks and loops' variables, as the code has them.
use Rattle.std.specs.Prelude.{◌≡◌}
use Rattle.vs_const.specs.Faults.{least}
use Rattle.vs_elaborated.specs.Generate as generate
use Rattle.vs_elaborated.specs.Loops as loops
use Rattle.vs_scope.specs.declared.made.Block.{Block}
use Rattle.vs_scope.specs.declared.loops.Variable.{Variable}
use Rattle.vs_scope.specs.Contents.{block_items}
use Rattle.vs_scope.specs.Made.{block_name}

-- a block by itself
abbrev pub block : Block → generate.Block
block b = record { name = block_name b.name; items = block_items b.items }

-- a loop's variable
pub record IsVariable (c : Variable) (v : loops.Variable) : Type 0 where
  pub genvar : c.genvar ≡ v.genvar
  pub fault : c.fault ≡ least v.faults
