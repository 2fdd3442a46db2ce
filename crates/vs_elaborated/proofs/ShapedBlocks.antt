-- The blocks that generate constructs make are shaped as generate blocks are.
use Rattle.std.proofs.Common.{ℕ, zero, suc, Bool, true, false, List, [], ◌∷◌, Option, Some, None, ℤ}
use Rattle.vs_grammar.specs.Trees as tree
use Rattle.vs_grammar.specs.Trees.{items_list}
use Rattle.vs_grammar.specs.Shapes.{Each, IsGenerateItem, IsBlock, IsBlockFallback, AreGenerateArms, AreGenerateItems}
use Rattle.vs_const.specs.declared.faults.Fault.{Fault}
use Rattle.vs_const.specs.Expressions.{number}
use Rattle.vs_elaborated.specs.Limits.{Limits}
use Rattle.vs_elaborated.specs.Environments.{Env, named}
use Rattle.vs_elaborated.specs.Generate.{Nested, Made, nothing_made, after_faults, Block, block_of, one_block}
use Rattle.vs_design.specs.Clocks.{same_name}
use Rattle.vs_elaborated.specs.Loops.{holds, Turns, turns_from, turn_blocks, loop_blocks, loop_from}
use Rattle.vs_elaborated.specs.Constructs.{said_case, is_conditional, construct, branch, fallback, arm_branch}

abbrev pub AreShapedBlocks : List Nested → Type 0
AreShapedBlocks bs = Each (λ (b : Nested). Each IsGenerateItem b.items) bs

abbrev pub IsShapedBlock : Option Block → Type 0
IsShapedBlock None = Unit {0}
IsShapedBlock (Some b) = Each IsGenerateItem b.items

items_shaped : (items : tree.Items) → AreGenerateItems items → Each IsGenerateItem (items_list items)
items_shaped tree.NoItem x = tt
items_shaped (tree.AndItem item rest) x = (x.0, items_shaped rest x.1)

block_shaped : (n : ℕ) (b : tree.GenerateBlock) → IsBlock b → IsShapedBlock (block_of n b)
block_shaped n (tree.NoBlock place) x = tt
block_shaped n (tree.Alone item) x = (x, tt)
block_shaped n (tree.Enclosed place name items) x = items_shaped items x.1

one_shaped : (b : Option Block) (turns : ℕ) → IsShapedBlock b → AreShapedBlocks (one_block b turns).blocks
one_shaped None turns x = tt
one_shaped (Some b) turns x = (x, tt)

turns_shaped : (b : Block) (genvar : ℕ) (vs : List ℕ) → Each IsGenerateItem b.items → AreShapedBlocks (turn_blocks b genvar vs)
turns_shaped b genvar [] x = tt
turns_shaped b genvar (v ∷ vs) x = (x, turns_shaped b genvar vs x)

loop_shaped : (b : Option Block) (genvar : ℕ) (t : Turns) → IsShapedBlock b → AreShapedBlocks (loop_blocks b genvar t).blocks
loop_shaped None genvar t x = tt
loop_shaped (Some b) genvar t x = turns_shaped b genvar t.values x

from_shaped : (limits : Limits) (head : tree.LoopHead) (g v : Option ℕ) (fs : List Fault) (b : Option Block) (env : Env) (total : ℕ) → IsShapedBlock b → AreShapedBlocks (loop_from limits head g v fs b env total).blocks
from_shaped limits head (Some g) (Some v) fs b env total x = loop_shaped b g (turns_from (suc limits.turns) limits head (same_name head.variable.bytes head.again.bytes) g env [] total v) x
from_shaped limits head (Some g) None fs b env total x = tt
from_shaped limits head None v fs b env total x = tt

-- which of two or more is taken is no matter
either : (z : Option ℤ) (fs : List Fault) (a b : Made) (total : ℕ) → AreShapedBlocks a.blocks → AreShapedBlocks b.blocks → AreShapedBlocks (elim z as (λ x. Made) [ None ↦ nothing_made fs total | Some y ↦ after_faults fs (elim (holds (Some y)) as (λ x. Made) [ true ↦ a | false ↦ b ]) ]).blocks
either None fs a b total h k = tt
either (Some y) fs a b total h k = of (holds (Some y))
  where
    of : (c : Bool) → AreShapedBlocks (after_faults fs (elim c as (λ x. Made) [ true ↦ a | false ↦ b ])).blocks
    of true = h
    of false = k

which : (defined : Bool) (arm : Option ℕ) (fs : List Fault) (f : ℕ → Made) (b : Made) (total : ℕ) → ((k : ℕ) → AreShapedBlocks (f k).blocks) → AreShapedBlocks b.blocks
    → AreShapedBlocks (elim defined as (λ x. Made) [ false ↦ nothing_made fs total | true ↦ after_faults fs (elim arm as (λ x. Made) [ None ↦ b | Some k ↦ f k ]) ]).blocks
which false arm fs f b total h k = tt
which true None fs f b total h k = k
which true (Some i) fs f b total h k = h i

alone : (c : Bool) (m : Made) (b : Option Block) (total : ℕ) → AreShapedBlocks m.blocks → IsShapedBlock b → AreShapedBlocks (elim c as (λ x. Made) [ true ↦ m | false ↦ one_block b total ]).blocks
alone true m b total h k = h
alone false m b total h k = one_shaped b total k

mutual
  pub construct_shaped : (item : tree.Item) (limits : Limits) (env : Env) (n total : ℕ) → IsGenerateItem item → AreShapedBlocks (construct item limits env n total).blocks
  construct_shaped (tree.GenerateFor head block) limits env n total x = from_shaped limits head _ _ _ (block_of n block) env total (block_shaped n block x.1)
  construct_shaped (tree.GenerateIf place c taken other) limits env n total x = either (number c (named env)).number (number c (named env)).faults (branch taken limits env n total) (fallback other limits env n total) total (branch_shaped taken limits env n total x.1) (fallback_shaped other limits env n total x.2)
  construct_shaped (tree.GenerateCase place subject arms other) limits env n total x =
      let c = said_case subject arms env in
      which c.defined c.arm c.faults (λ k. arm_branch arms limits k env n total) (fallback other limits env n total) total (λ k. arm_shaped arms limits k env n total x.1) (fallback_shaped other limits env n total x.2)
  construct_shaped (tree.SignalsItem t) limits env n total x = tt
  construct_shaped (tree.ParametersItem t) limits env n total x = tt
  construct_shaped (tree.AssignsItem place assigns) limits env n total x = tt
  construct_shaped (tree.AlwaysItem block) limits env n total x = tt
  construct_shaped (tree.InitialItem block) limits env n total x = tt
  construct_shaped (tree.GenvarsItem place names) limits env n total x = tt
  construct_shaped (tree.IntegersItem place names) limits env n total x = tt
  construct_shaped (tree.FunctionItem function) limits env n total x = tt
  construct_shaped (tree.InstancesItem t) limits env n total x = tt

  branch_shaped : (b : tree.GenerateBlock) (limits : Limits) (env : Env) (n total : ℕ) → IsBlock b → AreShapedBlocks (branch b limits env n total).blocks
  branch_shaped (tree.NoBlock place) limits env n total x = tt
  branch_shaped (tree.Alone item) limits env n total x = alone (is_conditional item) (construct item limits env n total) (block_of n (tree.Alone item)) total (construct_shaped item limits env n total x) (block_shaped n (tree.Alone item) x)
  branch_shaped (tree.Enclosed place name items) limits env n total x = one_shaped (block_of n (tree.Enclosed place name items)) total (block_shaped n (tree.Enclosed place name items) x)

  fallback_shaped : (b : tree.BlockFallback) (limits : Limits) (env : Env) (n total : ℕ) → IsBlockFallback b → AreShapedBlocks (fallback b limits env n total).blocks
  fallback_shaped tree.NoBlockFallback limits env n total x = tt
  fallback_shaped (tree.OtherwiseBlock block) limits env n total x = branch_shaped block limits env n total x

  arm_shaped : (arms : tree.GenerateArms) (limits : Limits) (k : ℕ) (env : Env) (n total : ℕ) → AreGenerateArms arms → AreShapedBlocks (arm_branch arms limits k env n total).blocks
  arm_shaped tree.NoGenerateArm limits k env n total x = tt
  arm_shaped (tree.AndGenerateArm labels block rest) limits zero env n total x = branch_shaped block limits env n total x.1
  arm_shaped (tree.AndGenerateArm labels block rest) limits (suc k) env n total x = arm_shaped rest limits k env n total x.2
