-- Which block a construct takes.
use Rattle.std.proofs.Common.{◌≡◌, ◌≤◌, ◌<◌, ℕ, zero, suc, Bool, true, false, List, [], ◌∷◌, length, get_or, ℤ, Option, Some, None, refl, sym, ap, ◌∙◌, subst, arith, rules}
use Rattle.vs_grammar.specs.Trees as tree
use Rattle.vs_grammar.specs.Trees.{items_list}
use Rattle.vs_grammar.specs.Shapes.{Each, Given, IsGenerateItem, IsBlock, IsBlockFallback, AreGenerateArms, IsItem, AreItems}
use Rattle.vs_grammar.specs.Depths.{item_depth, block_depth, block_fallback_depth, generate_arms_depth}
use Rattle.vs_ast.specs.Views as view
use Rattle.std.specs.Global.{Box, Vec}
use Rattle.vs_ast.proofs.Rows.{generate_arm_rows}
use Rattle.vs_ast.specs.declared.expressions.Expr.{Expr}
use Rattle.vs_ast.specs.declared.items.Item.{GenerateIf, GenerateCase, the_lemmas}
use Rattle.vs_ast.specs.declared.items.GenerateArm.{GenerateArm}
use Rattle.vs_ast.specs.declared.items.GenerateBlock.{GenerateBlock}
use Rattle.vs_const.specs.declared.faults.Fault.{Fault}
use Rattle.vs_const.specs.Expressions.{number}
use Rattle.vs_elaborated.specs.Limits.{the_limits}
use Rattle.vs_elaborated.specs.Environments.{Env, named}
use Rattle.vs_elaborated.specs.Generate.{Made, nothing_made, after_faults}
use Rattle.vs_elaborated.specs.Loops.{holds}
use Rattle.vs_elaborated.specs.Constructs.{said_case, construct, branch, fallback, arm_branch}
use Rattle.vs_scope.proofs.Steps.{append_none}
use Rattle.vs_scope.specs.Chosen.{IsConstruct, option_block, fallback_block, if_block, of_if, arm_block, case_block, of_case, block_made, branch_made}

-- ---- the same as the definitions say

fallback_is : (other : tree.BlockFallback) (env : Env) (n total : ℕ) → block_made (fallback_block other) env n total ≡ fallback other the_limits env n total
fallback_is tree.NoBlockFallback env n total = refl
fallback_is (tree.OtherwiseBlock b) env n total = refl

pub if_is : (place : ℕ) (c : tree.Expr) (taken : tree.GenerateBlock) (other : tree.BlockFallback) (env : Env) (n total : ℕ)
    → branch_made (of_if (number c (named env)) taken (fallback_block other)) env n total ≡ construct (tree.GenerateIf place c taken other) the_limits env n total
if_is place c taken other env n total = by (number c (named env)).number
  where
    fs : List Fault
    fs = (number c (named env)).faults

    whether : (b : Bool) → after_faults fs (block_made (elim b as (λ x. Option tree.GenerateBlock) [ true ↦ Some taken | false ↦ fallback_block other ]) env n total)
        ≡ after_faults fs (elim b as (λ x. Made) [ true ↦ branch taken the_limits env n total | false ↦ fallback other the_limits env n total ])
    whether true = refl
    whether false = ap (after_faults fs) (fallback_is other env n total)

    none : after_faults fs (nothing_made [] total) ≡ nothing_made fs total
    none = ap (λ (x : List Fault). nothing_made x total) (append_none fs)

    by : (z : Option ℤ) → after_faults fs (block_made (if_block z taken (fallback_block other)) env n total)
        ≡ (elim z as (λ x. Made) [ None ↦ nothing_made fs total | Some y ↦ after_faults fs (elim (holds (Some y)) as (λ x. Made) [ true ↦ branch taken the_limits env n total | false ↦ fallback other the_limits env n total ]) ])
    by None = none
    by (Some y) = whether (holds (Some y))

arm_is : (arms : tree.GenerateArms) (k : ℕ) (env : Env) (n total : ℕ) → block_made (arm_block arms k) env n total ≡ arm_branch arms the_limits k env n total
arm_is tree.NoGenerateArm k env n total = refl
arm_is (tree.AndGenerateArm labels b rest) zero env n total = refl
arm_is (tree.AndGenerateArm labels b rest) (suc k) env n total = arm_is rest k env n total

pub case_is : (place : ℕ) (subject : tree.Expr) (arms : tree.GenerateArms) (other : tree.BlockFallback) (env : Env) (n total : ℕ)
    → branch_made (of_case (said_case subject arms env) arms (fallback_block other)) env n total ≡ construct (tree.GenerateCase place subject arms other) the_limits env n total
case_is place subject arms other env n total = by (said_case subject arms env).defined (said_case subject arms env).arm
  where
    fs : List Fault
    fs = (said_case subject arms env).faults

    by : (d : Bool) (a : Option ℕ) → after_faults fs (block_made (case_block d a arms (fallback_block other)) env n total)
        ≡ (elim d as (λ x. Made) [
          | false ↦ nothing_made fs total
          | true ↦ after_faults fs (elim a as (λ x. Made) [ None ↦ fallback other the_limits env n total | Some k ↦ arm_branch arms the_limits k env n total ])
        ])
    by false a = ap (λ (x : List Fault). nothing_made x total) (append_none fs)
    by true None = ap (after_faults fs) (fallback_is other env n total)
    by true (Some k) = ap (after_faults fs) (arm_is arms k env n total)

-- ---- shapes

fallback_shaped : (other : tree.BlockFallback) → IsBlockFallback other → Given IsBlock (fallback_block other)
fallback_shaped tree.NoBlockFallback h = tt
fallback_shaped (tree.OtherwiseBlock b) h = h

pub if_shaped : (z : Option ℤ) (taken : tree.GenerateBlock) (other : tree.BlockFallback) → IsBlock taken → IsBlockFallback other → Given IsBlock (if_block z taken (fallback_block other))
if_shaped None taken other h k = tt
if_shaped (Some y) taken other h k = by (holds (Some y))
  where
    by : (b : Bool) → Given IsBlock (elim b as (λ x. Option tree.GenerateBlock) [ true ↦ Some taken | false ↦ fallback_block other ])
    by true = h
    by false = fallback_shaped other k

arms_shaped : (arms : tree.GenerateArms) (k : ℕ) → AreGenerateArms arms → Given IsBlock (arm_block arms k)
arms_shaped tree.NoGenerateArm k h = tt
arms_shaped (tree.AndGenerateArm labels b rest) zero h = h.1
arms_shaped (tree.AndGenerateArm labels b rest) (suc k) h = arms_shaped rest k h.2

pub case_shaped : (d : Bool) (a : Option ℕ) (arms : tree.GenerateArms) (other : tree.BlockFallback) → AreGenerateArms arms → IsBlockFallback other → Given IsBlock (case_block d a arms (fallback_block other))
case_shaped false a arms other h k = tt
case_shaped true None arms other h k = fallback_shaped other k
case_shaped true (Some i) arms other h k = arms_shaped arms i h

-- ---- depths

-- how deep a block is, if there is one
abbrev pub depth_of : Option tree.GenerateBlock → ℕ
depth_of None = 0
depth_of (Some b) = block_depth b

fallback_deep : (other : tree.BlockFallback) → depth_of (fallback_block other) ≡ block_fallback_depth other
fallback_deep tree.NoBlockFallback = refl
fallback_deep (tree.OtherwiseBlock b) = refl

pub if_deep : (z : Option ℤ) (place : ℕ) (c : tree.Expr) (taken : tree.GenerateBlock) (other : tree.BlockFallback) → depth_of (if_block z taken (fallback_block other)) ≤ item_depth (tree.GenerateIf place c taken other)
if_deep None place c taken other = omega arith
if_deep (Some y) place c taken other = by (holds (Some y))
  where
    by : (b : Bool) → depth_of (elim b as (λ x. Option tree.GenerateBlock) [ true ↦ Some taken | false ↦ fallback_block other ]) ≤ item_depth (tree.GenerateIf place c taken other)
    by true = omega arith
    by false = let e = fallback_deep other in omega (arith, e)

arms_deep : (arms : tree.GenerateArms) (k : ℕ) → depth_of (arm_block arms k) ≤ generate_arms_depth arms
arms_deep tree.NoGenerateArm k = omega arith
arms_deep (tree.AndGenerateArm labels b rest) zero = omega arith
arms_deep (tree.AndGenerateArm labels b rest) (suc k) = let h = arms_deep rest k in omega (arith, h)

pub case_deep : (d : Bool) (a : Option ℕ) (place : ℕ) (subject : tree.Expr) (arms : tree.GenerateArms) (other : tree.BlockFallback)
    → depth_of (case_block d a arms (fallback_block other)) ≤ item_depth (tree.GenerateCase place subject arms other)
case_deep false a place subject arms other = omega arith
case_deep true None place subject arms other = let e = fallback_deep other in omega (arith, e)
case_deep true (Some k) place subject arms other = let h = arms_deep arms k in omega (arith, h)

-- ---- an arm of the code

pub arm_got : (arms : List GenerateArm) (k : ℕ) (d : GenerateArm) → k < length arms → Some (view.block (get_or arms k d).block) ≡ arm_block (view.generate_arms arms) k
arm_got [] k d h = absurd (let no : ⊥ = omega (arith, h) in no)
arm_got (x ∷ xs) zero d h = refl
arm_got (x ∷ xs) (suc k) d h = arm_got xs k d (omega (arith, h))

pub arm_missing : (arms : List GenerateArm) (k : ℕ) → length arms ≤ k → None ≡ arm_block (view.generate_arms arms) k
arm_missing [] k h = refl
arm_missing (x ∷ xs) zero h = absurd (let no : ⊥ = omega (arith, h) in no)
arm_missing (x ∷ xs) (suc k) h = arm_missing xs k (omega (arith, h))

-- ---- items that make something

item_construct : (i : tree.Item) → IsItem i → IsConstruct i
item_construct (tree.SignalsItem t) h = tt
item_construct (tree.ParametersItem t) h = tt
item_construct (tree.AssignsItem place assigns) h = tt
item_construct (tree.AlwaysItem block) h = tt
item_construct (tree.InitialItem block) h = tt
item_construct (tree.GenvarsItem place names) h = tt
item_construct (tree.IntegersItem place names) h = tt
item_construct (tree.InstancesItem t) h = tt
item_construct (tree.FunctionItem f) h = tt
item_construct (tree.GenerateFor head block) h = h
item_construct (tree.GenerateIf place c taken other) h = h
item_construct (tree.GenerateCase place subject arms other) h = h

pub generate_construct : (i : tree.Item) → IsGenerateItem i → IsConstruct i
generate_construct (tree.SignalsItem t) h = tt
generate_construct (tree.ParametersItem t) h = tt
generate_construct (tree.AssignsItem place assigns) h = tt
generate_construct (tree.AlwaysItem block) h = tt
generate_construct (tree.InitialItem block) h = tt
generate_construct (tree.GenvarsItem place names) h = tt
generate_construct (tree.IntegersItem place names) h = tt
generate_construct (tree.FunctionItem f) h = tt
generate_construct (tree.InstancesItem t) h = tt
generate_construct (tree.GenerateFor head block) h = h
generate_construct (tree.GenerateIf place c taken other) h = h
generate_construct (tree.GenerateCase place subject arms other) h = h

pub items_constructs : (is : tree.Items) → AreItems is → Each IsConstruct (items_list is)
items_constructs tree.NoItem h = tt
items_constructs (tree.AndItem i is) h = (item_construct i h.0, items_constructs is h.1)

pub block_constructs : (is : List tree.Item) → Each IsGenerateItem is → Each IsConstruct is
block_constructs [] h = tt
block_constructs (i ∷ is) h = (generate_construct i h.0, block_constructs is h.1)

-- ---- an `if` of the code

pub if_taken : (number : Option ℤ) (z : ℤ) (b : tree.GenerateBlock) (other : Option tree.GenerateBlock) → number ≡ Some z → holds number ≡ true → Some b ≡ if_block number b other
if_taken number z b other e h = subst (λ (x : Option ℤ). Some b ≡ if_block x b other) (sym e) (by (holds (Some z)) (ap holds (sym e) ∙ h))
  where
    by : (t : Bool) → t ≡ true → Some b ≡ (elim t as (λ x. Option tree.GenerateBlock) [ true ↦ Some b | false ↦ other ])
    by true k = refl
    by false k = cc

pub if_other : (number : Option ℤ) (z : ℤ) (b : tree.GenerateBlock) (other : Option tree.GenerateBlock) → number ≡ Some z → holds number ≡ false → other ≡ if_block number b other
if_other number z b other e h = subst (λ (x : Option ℤ). other ≡ if_block x b other) (sym e) (by (holds (Some z)) (ap holds (sym e) ∙ h))
  where
    by : (t : Bool) → t ≡ false → other ≡ (elim t as (λ x. Option tree.GenerateBlock) [ true ↦ Some b | false ↦ other ])
    by true k = cc
    by false k = refl

-- ---- items of the code

-- the block of an `else` or a default
abbrev pub fallback_of : Option (Box GenerateBlock) → tree.BlockFallback
fallback_of None = tree.NoBlockFallback
fallback_of (Some b) = tree.OtherwiseBlock (view.block b.value)

pub option_is : (o : Option (Box GenerateBlock)) → option_block o ≡ fallback_block (fallback_of o)
option_is None = refl
option_is (Some b) = refl

pub if_view : (place : ℕ) (c : Expr) (taken : Box GenerateBlock) (o : Option (Box GenerateBlock)) → view.item (GenerateIf place c taken o) ≡ tree.GenerateIf place (view.expr c) (view.block taken.value) (fallback_of o)
if_view place c taken None = search (rules, the_lemmas)
if_view place c taken (Some b) = search (rules, the_lemmas)

pub case_view : (place : ℕ) (e : Expr) (arms : Vec GenerateArm) (o : Option (Box GenerateBlock)) → view.item (GenerateCase place e arms o) ≡ tree.GenerateCase place (view.expr e) (view.generate_arms arms.items) (fallback_of o)
case_view place e arms None = search (rules, generate_arm_rows, the_lemmas)
case_view place e arms (Some b) = search (rules, generate_arm_rows, the_lemmas)
