-- Blocks stand lower than the items that make them: the pieces of a scope nest less deep than its items do.
use Rattle.std.proofs.Common.{◌≡◌, ℕ, zero, suc, ◌+◌, ◌≤◌, max, Bool, true, false, List, [], ◌∷◌, map, Option, Some, None, if◌then◌else◌, refl, ap, subst, arith, ℤ}
use Rattle.vs_design.specs.Clocks.{same_name}
use Rattle.vs_grammar.specs.Trees as tree
use Rattle.vs_grammar.specs.Trees.{Module, Source, items_list}
use Rattle.vs_grammar.specs.Shapes.{Each}
use Rattle.vs_grammar.specs.Depths.{deepest, item_depth, block_depth, block_fallback_depth, generate_arms_depth, items_depth, module_depth}
use Rattle.vs_const.specs.declared.faults.Fault.{Fault}
use Rattle.vs_const.specs.Expressions.{number}
use Rattle.vs_elaborated.specs.Limits.{Limits}
use Rattle.vs_elaborated.specs.Environments.{Env, named, within}
use Rattle.vs_elaborated.specs.Parameters.{Override}
use Rattle.vs_elaborated.specs.Generate.{Nested, Made, nothing_made, after_faults, Block, block_of, one_block}
use Rattle.vs_elaborated.specs.Loops.{holds, Turns, turns_from, turn_blocks, loop_blocks, loop_from}
use Rattle.vs_elaborated.specs.Constructs.{said_case, is_conditional, construct, branch, fallback, arm_branch, is_construct, constructs}
use Rattle.vs_elaborated.specs.Ports.{find_in, find_module}
use Rattle.vs_elaborated.specs.Pieces.{Task, is_instance, Piece, Own, OfScopes, Initially, Instance, Within, Said, all_said}
use Rattle.vs_elaborated.specs.Instances.{Around, said_overrides, instance_said}
use Rattle.vs_elaborated.specs.NamedBlocks.{NamedBlock, named_blocks}
use Rattle.vs_elaborated.specs.Surveys.{Loops, block_by, loops_after, items_of, Totals, survey, header_said, assign_said, nested_piece, item_said, items_said}
use Rattle.vs_elaborated.proofs.EachOf.{each_append}
use Rattle.vs_elaborated.proofs.ValuePieces.{signals_each, header_each}
use Rattle.vs_elaborated.proofs.SurveyParts.{functions_in, loops_in, made_in, around_in}

abbrev pub levels : List tree.Item → ℕ
levels items = deepest item_depth items

levels_list : (items : tree.Items) → levels (items_list items) ≡ items_depth items
levels_list tree.NoItem = refl
levels_list (tree.AndItem item rest) = ap (max (item_depth item)) (levels_list rest)

-- ---- blocks

abbrev pub AreLower : ℕ → List Nested → Type 0
AreLower n bs = Each (λ (b : Nested). suc (levels b.items) ≤ n) bs

abbrev IsLowerBlock : ℕ → Option Block → Type 0
IsLowerBlock n None = Unit {0}
IsLowerBlock n (Some b) = suc (levels b.items) ≤ n

block_lower : (n i : ℕ) (b : tree.GenerateBlock) → block_depth b ≤ n → IsLowerBlock n (block_of i b)
block_lower n i (tree.NoBlock place) h = tt
block_lower n i (tree.Alone item) h = omega (arith, h)
block_lower n i (tree.Enclosed place name items) h = omega (arith, h, levels_list items)

one_lower : (n : ℕ) (b : Option Block) (turns : ℕ) → IsLowerBlock n b → AreLower n (one_block b turns).blocks
one_lower n None turns x = tt
one_lower n (Some b) turns x = (x, tt)

turns_lower : (n : ℕ) (b : Block) (genvar : ℕ) (vs : List ℕ) → suc (levels b.items) ≤ n → AreLower n (turn_blocks b genvar vs)
turns_lower n b genvar [] x = tt
turns_lower n b genvar (v ∷ vs) x = (x, turns_lower n b genvar vs x)

loop_lower : (n : ℕ) (b : Option Block) (genvar : ℕ) (t : Turns) → IsLowerBlock n b → AreLower n (loop_blocks b genvar t).blocks
loop_lower n None genvar t x = tt
loop_lower n (Some b) genvar t x = turns_lower n b genvar t.values x

from_lower : (n : ℕ) (limits : Limits) (head : tree.LoopHead) (g v : Option ℕ) (fs : List Fault) (b : Option Block) (env : Env) (total : ℕ) → IsLowerBlock n b → AreLower n (loop_from limits head g v fs b env total).blocks
from_lower n limits head (Some g) (Some v) fs b env total x = loop_lower n b g (turns_from (suc limits.turns) limits head (same_name head.variable.bytes head.again.bytes) g env [] total v) x
from_lower n limits head (Some g) None fs b env total x = tt
from_lower n limits head None v fs b env total x = tt

either : (n : ℕ) (z : Option ℤ) (fs : List Fault) (a b : Made) (total : ℕ) → AreLower n a.blocks → AreLower n b.blocks → AreLower n (elim z as (λ x. Made) [ None ↦ nothing_made fs total | Some y ↦ after_faults fs (elim (holds (Some y)) as (λ x. Made) [ true ↦ a | false ↦ b ]) ]).blocks
either n None fs a b total h k = tt
either n (Some y) fs a b total h k = of (holds (Some y))
  where
    of : (c : Bool) → AreLower n (after_faults fs (elim c as (λ x. Made) [ true ↦ a | false ↦ b ])).blocks
    of true = h
    of false = k

which : (n : ℕ) (defined : Bool) (arm : Option ℕ) (fs : List Fault) (f : ℕ → Made) (b : Made) (total : ℕ) → ((k : ℕ) → AreLower n (f k).blocks) → AreLower n b.blocks
    → AreLower n (elim defined as (λ x. Made) [ false ↦ nothing_made fs total | true ↦ after_faults fs (elim arm as (λ x. Made) [ None ↦ b | Some k ↦ f k ]) ]).blocks
which n false arm fs f b total h k = tt
which n true None fs f b total h k = k
which n true (Some i) fs f b total h k = h i

alone : (n : ℕ) (c : Bool) (m : Made) (b : Option Block) (total : ℕ) → AreLower n m.blocks → IsLowerBlock n b → AreLower n (elim c as (λ x. Made) [ true ↦ m | false ↦ one_block b total ]).blocks
alone n true m b total h k = h
alone n false m b total h k = one_lower n b total k

mutual
  construct_lower : (item : tree.Item) (l : ℕ) → item_depth item ≤ l → (limits : Limits) (env : Env) (n total : ℕ) → AreLower l (construct item limits env n total).blocks
  construct_lower (tree.GenerateFor head block) l h limits env n total = from_lower l limits head _ _ _ (block_of n block) env total (block_lower l n block (omega (arith, h)))
  construct_lower (tree.GenerateIf place c taken other) l h limits env n total =
      either l (number c (named env)).number (number c (named env)).faults (branch taken limits env n total) (fallback other limits env n total) total (branch_lower taken l (omega (arith, h)) limits env n total) (fallback_lower other l (omega (arith, h)) limits env n total)
  construct_lower (tree.GenerateCase place subject arms other) l h limits env n total =
      let c = said_case subject arms env in
      which l c.defined c.arm c.faults (λ k. arm_branch arms limits k env n total) (fallback other limits env n total) total (λ k. arm_lower arms l (omega (arith, h)) limits k env n total) (fallback_lower other l (omega (arith, h)) limits env n total)
  construct_lower (tree.SignalsItem t) l h limits env n total = tt
  construct_lower (tree.ParametersItem t) l h limits env n total = tt
  construct_lower (tree.AssignsItem place assigns) l h limits env n total = tt
  construct_lower (tree.AlwaysItem block) l h limits env n total = tt
  construct_lower (tree.InitialItem block) l h limits env n total = tt
  construct_lower (tree.GenvarsItem place names) l h limits env n total = tt
  construct_lower (tree.IntegersItem place names) l h limits env n total = tt
  construct_lower (tree.FunctionItem function) l h limits env n total = tt
  construct_lower (tree.InstancesItem t) l h limits env n total = tt

  branch_lower : (b : tree.GenerateBlock) (l : ℕ) → block_depth b ≤ l → (limits : Limits) (env : Env) (n total : ℕ) → AreLower l (branch b limits env n total).blocks
  branch_lower (tree.NoBlock place) l h limits env n total = tt
  branch_lower (tree.Alone item) l h limits env n total = alone l (is_conditional item) (construct item limits env n total) (block_of n (tree.Alone item)) total (construct_lower item l (omega (arith, h)) limits env n total) (block_lower l n (tree.Alone item) h)
  branch_lower (tree.Enclosed place name items) l h limits env n total = one_lower l (block_of n (tree.Enclosed place name items)) total (block_lower l n (tree.Enclosed place name items) h)

  fallback_lower : (b : tree.BlockFallback) (l : ℕ) → block_fallback_depth b ≤ l → (limits : Limits) (env : Env) (n total : ℕ) → AreLower l (fallback b limits env n total).blocks
  fallback_lower tree.NoBlockFallback l h limits env n total = tt
  fallback_lower (tree.OtherwiseBlock block) l h limits env n total = branch_lower block l h limits env n total

  arm_lower : (arms : tree.GenerateArms) (l : ℕ) → generate_arms_depth arms ≤ l → (limits : Limits) (k : ℕ) (env : Env) (n total : ℕ) → AreLower l (arm_branch arms limits k env n total).blocks
  arm_lower tree.NoGenerateArm l h limits k env n total = tt
  arm_lower (tree.AndGenerateArm labels block rest) l h limits zero env n total = branch_lower block l (omega (arith, h)) limits env n total
  arm_lower (tree.AndGenerateArm labels block rest) l h limits (suc k) env n total = arm_lower rest l (omega (arith, h)) limits k env n total

pub constructs_lower : (l : ℕ) (limits : Limits) (items : List tree.Item) (env : Env) (n total : ℕ) → levels items ≤ l → Each (λ (m : Made). AreLower l m.blocks) (constructs limits items env n total)
constructs_lower l limits [] env n total h = tt
constructs_lower l limits (i ∷ is) env n total h =
    (construct_lower i l (omega (arith, h)) limits env n total, constructs_lower l limits is env (if is_construct i then suc n else n) (construct i limits env n total).turns (omega (arith, h)))

-- ---- pieces

-- modules whose items nest at most 200 deep
abbrev pub AreLowModules : List Module → Type 0
AreLowModules ms = Each (λ (m : Module). levels (items_list m.items) ≤ 200) ms

pub record IsLowInstance (depth : ℕ) (task : Task) : Type 0 where
  pub instance : is_instance task.contents ≡ true
  pub low : levels (items_of task.contents) ≤ 200
  pub deeper : task.depth ≡ depth + 1

pub record IsLowBlock (depth l : ℕ) (task : Task) : Type 0 where
  pub low : suc (levels (items_of task.contents)) ≤ l
  pub same : task.depth ≡ depth

abbrev pub IsLowPiece : (depth l : ℕ) → Piece → Type 0
IsLowPiece depth l (Own p) = Unit {0}
IsLowPiece depth l (OfScopes b) = Unit {0}
IsLowPiece depth l (Initially place statement) = Unit {0}
IsLowPiece depth l (Instance connections task) = IsLowInstance depth task
IsLowPiece depth l (Within task) = IsLowBlock depth l task

abbrev pub AreLowPieces : (depth l : ℕ) → List Piece → Type 0
AreLowPieces depth l ps = Each (IsLowPiece depth l) ps

pub modules_low : (ms : List Module) → deepest module_depth ms ≤ 200 → AreLowModules ms
modules_low [] h = tt
modules_low (m ∷ ms) h = (omega (arith, h, levels_list m.items), modules_low ms (omega (arith, h)))

pub found_low : (ms : List Module) (name : List ℕ) (m : Module) → AreLowModules ms → find_in ms name ≡ Some m → levels (items_list m.items) ≤ 200
found_low [] name m x h = cc
found_low (a ∷ ms) name m x h = of (same_name a.name.bytes name) h (λ k. found_low ms name m x.1 k)
  where
    same : Some a ≡ Some m → a ≡ m
    same i = cc

    of : (b : Bool) → (if b then Some a else find_in ms name) ≡ Some m → (find_in ms name ≡ Some m → levels (items_list m.items) ≤ 200) → levels (items_list m.items) ≤ 200
    of true k f = subst (λ (c : Module). levels (items_list c.items) ≤ 200) (same k) x.0
    of false k f = f k

all_low : {A : Type 0} (depth l : ℕ) (f : A → Said) (xs : List A) → ((a : A) → AreLowPieces depth l (f a).pieces) → AreLowPieces depth l (all_said f xs).pieces
all_low depth l f [] h = tt
all_low depth l f (a ∷ xs) h = each_append (IsLowPiece depth l) (f a).pieces (all_said f xs).pieces (h a) (all_low depth l f xs h)

instance_low : (l : ℕ) (around : Around) (place : ℕ) (m : Option Module) → ((k : Module) → m ≡ Some k → levels (items_list k.items) ≤ 200) → (os : List Override) (i : tree.Instance) → AreLowPieces around.depth l (instance_said around place m os i).pieces
instance_low l around place None x os i = tt
instance_low l around place (Some m) x os i = (record { instance = refl; low = x m refl; deeper = refl }, tt)

blocks_low : (l : ℕ) (around : Around) (bs : List Nested) → AreLower l bs → AreLowPieces around.depth l (map (nested_piece around) bs)
blocks_low l around [] x = tt
blocks_low l around (b ∷ bs) x = (record { low = x.0; same = refl }, blocks_low l around bs x.1)

block_low : (depth l : ℕ) (limits : Limits) (around : Around) (loops : Loops) (b : tree.AlwaysBlock) (ns : List NamedBlock) → AreLowPieces depth l (block_by ns limits around loops b).pieces
block_low depth l limits around loops b [] = (tt, tt)
block_low depth l limits around loops b (n ∷ ns) = (tt, tt)

item_low : (l : ℕ) (limits : Limits) (source : Source) (around : Around) (loops : Loops) → AreLowModules source.modules → (item : tree.Item) (made : Made) → AreLower l made.blocks → AreLowPieces around.depth l (item_said limits source around loops item made).pieces
item_low l limits source around loops x (tree.SignalsItem t) made y = signals_each (IsLowPiece around.depth l) (λ p. tt) (λ q s. tt) around.env t
item_low l limits source around loops x (tree.ParametersItem t) made y = blocks_low l around made.blocks y
item_low l limits source around loops x (tree.AssignsItem place assigns) made y = all_low around.depth l (assign_said around.env place) assigns (λ a. (tt, tt))
item_low l limits source around loops x (tree.AlwaysItem block) made y = block_low around.depth l limits around loops block (named_blocks block.statement)
item_low l limits source around loops x (tree.InitialItem block) made y = (tt, tt)
item_low l limits source around loops x (tree.GenvarsItem place names) made y = blocks_low l around made.blocks y
item_low l limits source around loops x (tree.IntegersItem place names) made y = blocks_low l around made.blocks y
item_low l limits source around loops x (tree.FunctionItem function) made y = blocks_low l around made.blocks y
item_low l limits source around loops x (tree.InstancesItem t) made y =
    let m = find_module source t.of.bytes in
    let o = said_overrides t.of m t.overrides around.env in
    all_low around.depth l (instance_said around t.of.place m o.overrides) t.instances (instance_low l around t.of.place m (λ k e. found_low source.modules t.of.bytes k x e) o.overrides)
item_low l limits source around loops x (tree.GenerateFor head block) made y = blocks_low l around made.blocks y
item_low l limits source around loops x (tree.GenerateIf place c taken other) made y = blocks_low l around made.blocks y
item_low l limits source around loops x (tree.GenerateCase place subject arms other) made y = blocks_low l around made.blocks y

items_low : (l : ℕ) (limits : Limits) (source : Source) (around : Around) (loops : Loops) → AreLowModules source.modules → (items : List tree.Item) (made : List Made) → Each (λ (m : Made). AreLower l m.blocks) made → AreLowPieces around.depth l (items_said limits source around loops items made).pieces
items_low l limits source around loops x [] made y = tt
items_low l limits source around loops x (i ∷ is) [] y = tt
items_low l limits source around loops x (i ∷ is) (m ∷ ms) y = each_append (IsLowPiece around.depth l) (item_said limits source around loops i m).pieces (items_said limits source around (loops_after limits around.env loops i) is ms).pieces (item_low l limits source around loops x i m y.0) (items_low l limits source around (loops_after limits around.env loops i) x is ms y.1)

pub survey_low : (limits : Limits) (source : Source) (k : Task) (t : Totals) → AreLowModules source.modules → AreLowPieces k.depth (levels (items_of k.contents)) (survey limits source k t).pieces
survey_low limits source k t x =
    let l = levels (items_of k.contents) in
    let around = around_in limits k t in
    each_append (IsLowPiece k.depth l) (header_said around.env k.contents).pieces (items_said limits source around (loops_in limits k t) (items_of k.contents) (made_in limits k t)).pieces
    (header_each (IsLowPiece k.depth l) (λ p. tt) (λ q s. tt) around.env k.contents)
    (items_low l limits source around (loops_in limits k t) x (items_of k.contents) (made_in limits k t) (constructs_lower l limits (items_of k.contents) (within k.env (functions_in limits k t).entries) 1 t.turns (omega arith)))
