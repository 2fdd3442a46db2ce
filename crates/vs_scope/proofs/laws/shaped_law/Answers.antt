use Rattle.vs_scope.proofs.ShapedDeclarations.{module_shaped, block_shaped}
use Rattle.vs_scope.proofs.laws.shaped_law.Goals as goal

pub returns : goal.returns
returns c = record { modules = module_shaped; blocks = block_shaped }
