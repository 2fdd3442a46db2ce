-- The generate blocks that a scope makes, and their names (IEEE 1364-2005, 12.4).
use Rattle.std.specs.Prelude.{ℕ, zero, suc, ◌+◌, Bool, true, false, List, [], ◌∷◌, ◌++◌, ◌/◌, ◌%◌, codes, Option, Some, None}
use Rattle.vs_grammar.specs.Trees as tree
use Rattle.vs_grammar.specs.Trees.{item_place, items_list}
use Rattle.vs_const.specs.declared.faults.Fault.{Fault}
use Rattle.vs_elaborated.specs.Environments.{Turn}

-- a block that is taken; `turn` is that of its loop
pub record Nested : Type 0 where
  pub name : List ℕ
  pub items : List tree.Item
  pub turn : Option Turn

-- the name that a block declares in its scope, with its place. `genblk<n>` clashes like any other (12.4.3), but no expression means it by that name
pub record BlockName : Type 0 where
  pub name : List ℕ
  pub place : ℕ
  pub written : Bool

-- what a construct makes; `turns` counts those of all loops so far
pub record Made : Type 0 where
  pub blocks : List Nested
  pub names : List BlockName
  pub faults : List Fault
  pub turns : ℕ

-- no blocks, for these faults
abbrev pub nothing_made : List Fault → ℕ → Made
nothing_made faults turns = record { blocks = []; names = []; faults = faults; turns = turns }

-- with these faults besides
abbrev pub after_faults : List Fault → Made → Made
after_faults faults m = record m { faults = faults ++ m.faults }

-- the digits of a number of at most ten, before `later`
abbrev pub digits_before : ℕ → ℕ → List ℕ → List ℕ
digits_before zero n later = later
digits_before (suc left) n later = let now = (48 + n % 10) ∷ later in elim (n / 10) [ zero ↦ now | suc m ↦ digits_before left (n / 10) now ]

-- the digits of a number
abbrev pub decimal : ℕ → List ℕ
decimal n = digits_before 10 n []

-- a block without a name has that of its construct, by the construct's number in its scope (12.4.3)
abbrev pub block_name : (n place : ℕ) → Option tree.Name → BlockName
block_name n place None = record { name = codes "genblk" ++ decimal n; place = place; written = false }
block_name n place (Some name) = record { name = name.bytes; place = name.place; written = true }

-- a block by itself
pub record Block : Type 0 where
  pub name : BlockName
  pub items : List tree.Item

-- `;` makes none
abbrev pub block_of : ℕ → tree.GenerateBlock → Option Block
block_of n (tree.NoBlock place) = None
block_of n (tree.Alone item) = Some (record { name = block_name n (item_place item) None; items = item ∷ [] })
block_of n (tree.Enclosed place name items) = Some (record { name = block_name n place name; items = items_list items })

-- the block of a branch, if there is one
abbrev pub one_block : Option Block → ℕ → Made
one_block None turns = nothing_made [] turns
one_block (Some b) turns = record { blocks = record { name = b.name.name; items = b.items; turn = None } ∷ []; names = b.name ∷ []; faults = []; turns = turns }
