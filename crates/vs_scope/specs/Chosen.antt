-- Which block an `if` or a `case` takes, and what the items of a scope make one after the other (IEEE 1364-2005, 12.4).
use Rattle.std.specs.Prelude.{◌≡◌, ℕ, zero, suc, Bool, true, false, List, [], ◌++◌, map, ℤ, Option, Some, None}
use Rattle.std.specs.Borrow.{Bor}
use Rattle.std.specs.Global.{Box}
use Rattle.vs_grammar.specs.Trees as tree
use Rattle.vs_grammar.specs.Shapes.{IsGenerateItem}
use Rattle.vs_ast.specs.Views as view
use Rattle.vs_ast.specs.declared.items.GenerateBlock.{GenerateBlock}
use Rattle.vs_const.specs.declared.faults.Fault.{Fault}
use Rattle.vs_const.specs.Faults.{least, better}
use Rattle.vs_const.specs.Typed.{Numbered}
use Rattle.vs_elaborated.specs.Environments.{Env}
use Rattle.vs_elaborated.specs.Limits.{the_limits}
use Rattle.vs_elaborated.specs.Generate.{Made, nothing_made, after_faults}
use Rattle.vs_elaborated.specs.Loops.{holds}
use Rattle.vs_elaborated.specs.Constructs.{SaidCase, branch, constructs}
use Rattle.vs_elaborated.specs.Surveys.{turns_after}
use Rattle.vs_scope.specs.declared.constructs.Chosen.{Chosen}
use Rattle.vs_scope.specs.declared.constructs.Making.{Making}
use Rattle.vs_scope.specs.Made.{made, kept}
use Rattle.vs_scope.specs.Surveys.{made_faults}

-- an item that makes something has the grammar's shape
abbrev pub IsConstruct : tree.Item → Type 0
IsConstruct (tree.GenerateFor head block) = IsGenerateItem (tree.GenerateFor head block)
IsConstruct (tree.GenerateIf place c taken other) = IsGenerateItem (tree.GenerateIf place c taken other)
IsConstruct (tree.GenerateCase place subject arms other) = IsGenerateItem (tree.GenerateCase place subject arms other)
IsConstruct _ = Unit {0}

-- a block, if there is one
abbrev pub block_now : Option (Bor GenerateBlock) → Option tree.GenerateBlock
block_now None = None
block_now (Some b) = Some (view.block b.now)

-- a block in a box, if there is one
abbrev pub option_block : Option (Box GenerateBlock) → Option tree.GenerateBlock
option_block None = None
option_block (Some b) = Some (view.block b.value)

-- the block that is taken, and the faults of what it is chosen by
pub record ChosenBlock : Type 0 where
  pub block : Option tree.GenerateBlock
  pub faults : List Fault

-- as the code finds it
pub record IsChosen (c : Chosen) (s : ChosenBlock) : Type 0 where
  pub block : block_now c.body ≡ s.block
  pub fault : c.fault ≡ least s.faults

-- the block of an `else` or a default
abbrev pub fallback_block : tree.BlockFallback → Option tree.GenerateBlock
fallback_block tree.NoBlockFallback = None
fallback_block (tree.OtherwiseBlock b) = Some b

-- by the number of a condition
abbrev pub if_block : Option ℤ → tree.GenerateBlock → Option tree.GenerateBlock → Option tree.GenerateBlock
if_block None taken other = None
if_block (Some z) taken other = elim (holds (Some z)) [ true ↦ Some taken | false ↦ other ]

-- of an `if`
abbrev pub of_if : Numbered → tree.GenerateBlock → Option tree.GenerateBlock → ChosenBlock
of_if v taken other = record { block = if_block v.number taken other; faults = v.faults }

-- the block of the arm of this number
abbrev pub arm_block : tree.GenerateArms → ℕ → Option tree.GenerateBlock
arm_block tree.NoGenerateArm k = None
arm_block (tree.AndGenerateArm labels b rest) zero = Some b
arm_block (tree.AndGenerateArm labels b rest) (suc k) = arm_block rest k

-- by the arm that is taken
abbrev pub case_block : (defined : Bool) → (arm : Option ℕ) → tree.GenerateArms → Option tree.GenerateBlock → Option tree.GenerateBlock
case_block false arm arms other = None
case_block true None arms other = other
case_block true (Some k) arms other = arm_block arms k

-- of a `case`
abbrev pub of_case : SaidCase → tree.GenerateArms → Option tree.GenerateBlock → ChosenBlock
of_case c arms other = record { block = case_block c.defined c.arm arms other; faults = c.faults }

-- what the block makes
abbrev pub block_made : Option tree.GenerateBlock → Env → (n total : ℕ) → Made
block_made None env n total = nothing_made [] total
block_made (Some b) env n total = branch b the_limits env n total

-- and the faults before it
abbrev pub branch_made : ChosenBlock → Env → (n total : ℕ) → Made
branch_made s env n total = after_faults s.faults (block_made s.block env n total)

-- with what the rest makes, it is what all make
pub record IsMaking (s : Making) (env : Env) (total : ℕ) (rest : List tree.Item) (all : List Made) : Type 0 where
  pub made_is : map made s.made.items ++ map kept (constructs the_limits rest env s.number s.turns) ≡ map kept all
  pub fault : better s.fault (least (made_faults (constructs the_limits rest env s.number s.turns))) ≡ least (made_faults all)
  pub turns : turns_after s.turns (constructs the_limits rest env s.number s.turns) ≡ turns_after total all
