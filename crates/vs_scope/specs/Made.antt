-- What the code's generate blocks stand for.
use Rattle.std.specs.Prelude.{ℕ, true, false, List, ◌++◌, map, codes, Option}
use Rattle.vs_ast.specs.Views as view
use Rattle.vs_ast.specs.Views.{option}
use Rattle.vs_grammar.specs.Shapes.{Each, IsGenerateItem}
use Rattle.vs_const.specs.declared.faults.Fault.{Fault}
use Rattle.vs_const.specs.Faults.{least}
use Rattle.vs_elaborated.specs.Generate as spec
use Rattle.vs_elaborated.specs.Generate.{decimal}
use Rattle.vs_scope.specs.declared.made.Nested.{Nested}
use Rattle.vs_scope.specs.declared.made.BlockName.{BlockName}
use Rattle.vs_scope.specs.declared.made.BlockName.TheVariants.{Written, Numbered}
use Rattle.vs_scope.specs.declared.made.Made.{Made}
use Rattle.vs_scope.specs.Contents.{block_items}
use Rattle.vs_scope.specs.Frames.{turn}

-- a block
abbrev pub nested : Nested → spec.Nested
nested b = record { name = b.name.items; items = block_items b.items; turn = option turn b.turn }

-- a block's name
abbrev pub block_name : BlockName → spec.BlockName
block_name (Written n) = record { name = (view.name n.now).bytes; place = n.now.place; written = true }
block_name (Numbered number place) = record { name = codes "genblk" ++ decimal number; place = place; written = false }

-- those that an item declares
abbrev pub names_of : Made → List spec.BlockName
names_of m = map block_name m.names.items

-- what is kept of what an item makes: of its faults the first
pub record Kept : Type 0 where
  pub blocks : List spec.Nested
  pub names : List spec.BlockName
  pub fault : Option Fault
  pub turns : ℕ

-- as the code has it
abbrev pub made : Made → Kept
made m = record { blocks = map nested m.blocks.items; names = names_of m; fault = m.fault; turns = m.turns }

-- as it is said
abbrev pub kept : spec.Made → Kept
kept m = record { blocks = m.blocks; names = m.names; fault = least m.faults; turns = m.turns }

-- each item of a block may stand in one
abbrev pub IsShapedNested : Nested → Type 0
IsShapedNested b = Each IsGenerateItem (block_items b.items)

-- of all blocks that an item makes
abbrev pub AreShapedBlocks : Made → Type 0
AreShapedBlocks m = Each IsShapedNested m.blocks.items
