-- The top of a text: the module of the name that is given, or else the only top-level module (IEEE 1364-2005, 12.1.1).
use Rattle.std.specs.Prelude.{ℕ, Bool, false, not, ◌||◌, List, [], ◌∷◌, Option, Some, None}
use Rattle.std.specs.List.{filter, list_any}
use Rattle.vs_design.specs.Clocks.{same_name}
use Rattle.vs_grammar.specs.Trees.{Module, Source, Item, GenerateBlock, BlockFallback, GenerateArms, Items, InstancesItem, GenerateFor, GenerateIf, GenerateCase, NoBlock, Alone, Enclosed, NoBlockFallback, OtherwiseBlock, NoGenerateArm, AndGenerateArm, NoItem, AndItem}

-- Whether an instance names this module (12.1.2). Of a generate construct all blocks count, whether or not they are taken (12.4).
abbrev mutual
  pub item_names : List ℕ → Item → Bool
  item_names name (InstancesItem t) = same_name t.of.bytes name
  item_names name (GenerateFor head b) = block_names name b
  item_names name (GenerateIf place c b other) = block_names name b || other_names name other
  item_names name (GenerateCase place e arms other) = arms_name name arms || other_names name other
  item_names name _ = false

  pub block_names : List ℕ → GenerateBlock → Bool
  block_names name (NoBlock place) = false
  block_names name (Alone i) = item_names name i
  block_names name (Enclosed place label is) = items_name name is

  pub other_names : List ℕ → BlockFallback → Bool
  other_names name NoBlockFallback = false
  other_names name (OtherwiseBlock b) = block_names name b

  pub arms_name : List ℕ → GenerateArms → Bool
  arms_name name NoGenerateArm = false
  arms_name name (AndGenerateArm labels b rest) = block_names name b || arms_name name rest

  pub items_name : List ℕ → Items → Bool
  items_name name NoItem = false
  items_name name (AndItem i rest) = item_names name i || items_name name rest

-- whether an instance of any module of the text names this module
abbrev pub is_instantiated : Source → List ℕ → Bool
is_instantiated source name = list_any (λ (m : Module). items_name name m.items) source.modules

-- the modules that no instance names
abbrev pub top_level : Source → List Module
top_level source = filter (λ (m : Module). not (is_instantiated source m.name.bytes)) source.modules

-- the name of the only one
abbrev pub only_name : List Module → Option (List ℕ)
only_name [] = None
only_name (m ∷ []) = Some m.name.bytes
only_name (m ∷ n ∷ ms) = None

-- the name of the top where none is given
abbrev pub own_top : Source → Option (List ℕ)
own_top source = only_name (top_level source)

-- the name of the top
abbrev pub top_name : Source → (given : Option (List ℕ)) → Option (List ℕ)
top_name source None = own_top source
top_name source (Some top) = Some top
