-- Generate constructs of a scope, in text order: `for`, `if` and `case` (IEEE 1364-2005, 12.4).
use Rattle.std.specs.Prelude.{ℕ, zero, suc, Bool, true, false, not, ◌&&◌, List, [], ◌∷◌, ◌++◌, map, flat_map, max, if◌then◌else◌, Option, Some, None}
use Rattle.std.specs.List.{list_any, list_all}
use Rattle.vs_four.specs.declared.Bit4.TheVariants.{X}
use Rattle.vs_four.specs.Logic.{BitList, all_known}
use Rattle.vs_four.specs.Tables.{same}
use Rattle.vs_design.specs.Expressions.{sign}
use Rattle.vs_design.specs.Values.{constant_value, value}
use Rattle.vs_grammar.specs.Trees as tree
use Rattle.vs_grammar.specs.Trees.{expr_place}
use Rattle.vs_const.specs.declared.faults.Fault.{Fault}
use Rattle.vs_const.specs.Faults.{fault_if}
use Rattle.vs_const.specs.declared.rules.Rule.TheVariants.{UnknownConstant}
use Rattle.vs_const.specs.Typed.{Typed}
use Rattle.vs_const.specs.Expressions.{is_clean, constant, number}
use Rattle.vs_elaborated.specs.Limits.{Limits}
use Rattle.vs_elaborated.specs.Environments.{Env, named}
use Rattle.vs_elaborated.specs.NamedBlocks.{named_blocks, names_outside}
use Rattle.vs_elaborated.specs.Generate.{Made, nothing_made, after_faults, block_of, one_block}
use Rattle.vs_elaborated.specs.Loops.{holds, loop_made}

-- ---- case (12.4.2)

-- the case's expression, or a label of it
pub record Label : Type 0 where
  pub place : ℕ
  pub typed : Typed

-- in the scope where the case stands
abbrev pub label_of : Env → tree.Expr → Label
label_of env e = record { place = expr_place e; typed = constant e (named env) }

-- of all arms, in the order of the text
abbrev pub labels_of : tree.GenerateArms → List tree.Expr
labels_of tree.NoGenerateArm = []
labels_of (tree.AndGenerateArm labels block rest) = labels ++ labels_of rest

-- 0 where a fault leaves it undefined
abbrev pub length_or_none : Option ℕ → ℕ
length_or_none None = 0
length_or_none (Some n) = n

-- the greatest length of all
abbrev pub widest : List Label → ℕ
widest [] = 0
widest (l ∷ ls) = max (length_or_none l.typed.length) (widest ls)

-- whether all are signed
abbrev pub all_signed : List Label → Bool
all_signed ls = list_all (λ (l : Label). sign l.typed.expression) ls

-- a label's bits in this length and sign
abbrev pub in_context : ℕ → Bool → Typed → BitList
in_context w s t = value t.expression w s (λ b. X)

-- a value with x or z is no number
abbrev pub unknown_fault : ℕ → BitList → List Fault
unknown_fault place bits = fault_if (not (all_known bits)) UnknownConstant place

-- each is a number by itself
abbrev pub own_unknown : Label → List Fault
own_unknown l = elim l.typed.good [ true ↦ unknown_fault l.place (constant_value l.typed.expression) | false ↦ [] ]

-- and in the length and sign of all of them together
abbrev pub unknown_in : ℕ → Bool → Label → List Fault
unknown_in w s l = unknown_fault l.place (in_context w s l.typed)

-- bit by bit, as `===` compares
abbrev pub same_bits : BitList → BitList → Bool
same_bits [] [] = true
same_bits (a ∷ xs) (b ∷ ys) = same a b && same_bits xs ys
same_bits _ _ = false

-- the number of the first arm with a label of this value
abbrev pub arm_of : (BitList → Bool) → ℕ → Bool → Env → tree.GenerateArms → Option ℕ
arm_of is_value w s env tree.NoGenerateArm = None
arm_of is_value w s env (tree.AndGenerateArm labels block rest) =
    if list_any (λ e. is_value (in_context w s (constant e (named env)))) labels then Some 0 else next (arm_of is_value w s env rest)
  where
    next : Option ℕ → Option ℕ
    next None = None
    next (Some k) = Some (suc k)

-- which arm, or none; not defined where a fault leaves it open
pub record SaidCase : Type 0 where
  pub defined : Bool
  pub arm : Option ℕ
  pub faults : List Fault

-- where a fault leaves it open which arm is taken
abbrev pub no_case : List Fault → SaidCase
no_case faults = record { defined = false; arm = None; faults = faults }

-- all are compared in the largest length, as signed only if all are
abbrev pub said_case : tree.Expr → tree.GenerateArms → Env → SaidCase
said_case subject arms env =
    let first = label_of env subject in
    let ls = first ∷ map (label_of env) (labels_of arms) in
    let w = widest ls in
    let s = all_signed ls in
    let faults = flat_map (λ (l : Label). l.typed.faults) ls ++ flat_map own_unknown ls in
    elim (list_all (λ (l : Label). l.typed.good) ls) [
      | false ↦ no_case faults
      | true ↦ let unknown = flat_map (unknown_in w s) ls in
          elim (is_clean (flat_map own_unknown ls) && is_clean unknown) [
            | true ↦ record { defined = true; arm = arm_of (same_bits (in_context w s first.typed)) w s env arms; faults = faults }
            | false ↦ no_case (faults ++ unknown)
          ]
    ]

-- ---- all constructs

-- an `if` or `case` that alone is a branch belongs to the construct around it (12.4.2)
abbrev pub is_conditional : tree.Item → Bool
is_conditional (tree.GenerateIf place c taken other) = true
is_conditional (tree.GenerateCase place subject arms other) = true
is_conditional _ = false

-- an always block makes no generate block, but its named blocks that are scopes have names (12.7)
abbrev pub names_made : tree.AlwaysBlock → (total : ℕ) → Made
names_made b total = record { blocks = []; names = names_outside (named_blocks b.statement); faults = []; turns = total }

-- `n` is the construct's number in its scope, and `total` counts the turns of all loops so far
abbrev mutual
  pub construct : tree.Item → Limits → Env → (n total : ℕ) → Made
  construct (tree.GenerateFor head block) limits env n total = loop_made limits head (block_of n block) env total
  construct (tree.GenerateIf place c taken other) limits env n total =
      let v = number c (named env) in
      elim v.number [
        | None ↦ nothing_made v.faults total
        | Some z ↦ after_faults v.faults (elim (holds (Some z)) [ true ↦ branch taken limits env n total | false ↦ fallback other limits env n total ])
      ]
  construct (tree.GenerateCase place subject arms other) limits env n total =
      let c = said_case subject arms env in
      elim c.defined [
        | false ↦ nothing_made c.faults total
        | true ↦ after_faults c.faults (elim c.arm [ None ↦ fallback other limits env n total | Some k ↦ arm_branch arms limits k env n total ])
      ]
  construct (tree.AlwaysItem b) limits env n total = names_made b total
  construct _ limits env n total = nothing_made [] total

  pub branch : tree.GenerateBlock → Limits → Env → (n total : ℕ) → Made
  branch (tree.NoBlock place) limits env n total = nothing_made [] total
  branch (tree.Alone item) limits env n total = elim (is_conditional item) [ true ↦ construct item limits env n total | false ↦ one_block (block_of n (tree.Alone item)) total ]
  branch (tree.Enclosed place name items) limits env n total = one_block (block_of n (tree.Enclosed place name items)) total

  pub fallback : tree.BlockFallback → Limits → Env → (n total : ℕ) → Made
  fallback tree.NoBlockFallback limits env n total = nothing_made [] total
  fallback (tree.OtherwiseBlock block) limits env n total = branch block limits env n total

  pub arm_branch : tree.GenerateArms → Limits → ℕ → Env → (n total : ℕ) → Made
  arm_branch tree.NoGenerateArm limits k env n total = nothing_made [] total
  arm_branch (tree.AndGenerateArm labels block rest) limits zero env n total = branch block limits env n total
  arm_branch (tree.AndGenerateArm labels block rest) limits (suc k) env n total = arm_branch rest limits k env n total

-- whether the item counts among the scope's constructs (12.4.3)
abbrev pub is_construct : tree.Item → Bool
is_construct (tree.GenerateFor head block) = true
is_construct item = is_conditional item

-- what each item makes; the next construct has number `n`
abbrev pub constructs : Limits → List tree.Item → Env → (n total : ℕ) → List Made
constructs limits [] env n total = []
constructs limits (item ∷ items) env n total =
    let m = construct item limits env n total in
    m ∷ constructs limits items env (if is_construct item then suc n else n) m.turns
