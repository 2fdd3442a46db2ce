-- The names of blocks, as the code has them.
use Rattle.std.specs.Prelude.{◌≡◌, ℕ, Bool, List, [], ◌∷◌, ◌++◌, flat_map, None}
use Rattle.std.specs.List.{list_any}
use Rattle.vs_design.specs.Clocks.{same_name}
use Rattle.vs_grammar.specs.Trees.{Name}
use Rattle.vs_const.specs.declared.faults.Fault.{Fault}
use Rattle.vs_const.specs.Faults.{fault_if}
use Rattle.vs_const.specs.declared.rules.Rule.TheVariants.{DuplicateName}
use Rattle.vs_elaborated.specs.Environments.{Entry, OfScope, find_entry}
use Rattle.vs_elaborated.specs.Generate.{BlockName}
use Rattle.vs_elaborated.specs.Surveys.{clash_with}
use Rattle.vs_scope.specs.declared.clashes.NamedBlock.{NamedBlock}
use Rattle.vs_scope.specs.declared.made.BlockName.{BlockName as BlockNameOf}
use Rattle.vs_scope.specs.declared.made.Made.{Made}
use Rattle.vs_scope.specs.Made.{block_name, names_of}
use Rattle.vs_maps.specs.Maps.{Pair}
use Rattle.vs_maps.specs.MapViews.{pairs}
use Rattle.vs_scope.specs.declared.names.Entry.{Entry as EntryOf}
use Rattle.vs_scope.specs.declared.names.Names.{Names}
use Rattle.vs_scope.specs.Complete.{ArePairsIncomplete}

-- a name and where it stands
pub record NameAt : Type 0 where
  pub name : List ℕ
  pub place : ℕ

-- of a block of the code
abbrev pub block_of : NamedBlock → NameAt
block_of b = record { name = b.text.items; place = b.place }

-- of a block's name
abbrev pub block_text : BlockName → NameAt
block_text b = record { name = b.name; place = b.place }

-- as the code has it
abbrev pub text_of : BlockNameOf → NameAt
text_of b = block_text (block_name b)

-- the names of all blocks that items make
abbrev pub blocks_of : List Made → List BlockName
blocks_of ms = flat_map names_of ms

-- whether one has this name
abbrev pub has_name_at : List ℕ → List NameAt → Bool
has_name_at name bs = list_any (λ (b : NameAt). same_name b.name name) bs

-- of two things of one name the later has the fault; `seen` are the blocks before
abbrev pub clash_faults : List Entry → List NameAt → List NameAt → List Fault
clash_faults es seen [] = []
clash_faults es seen (b ∷ bs) = (clash_with b.place (find_entry es b.name) ++ fault_if (has_name_at b.name seen) DuplicateName b.place) ++ clash_faults es (b ∷ seen) bs

-- the entry of a name that is written
abbrev pub label_entry : Name → Entry
label_entry n = record { name = n.bytes; place = n.place; declared = OfScope }

-- each of these names is a new one
abbrev pub AreNew : List Entry → List Entry → Type 0
AreNew es [] = Unit {0}
AreNew es (b ∷ bs) = (find_entry es b.name ≡ None) × AreNew (es ++ b ∷ []) bs

-- the same names and behind them others, which are no functions
pub record IsBehind (old new : Names) : Type 0 where
  pub more : List (Pair EntryOf)
  pub pairs_are : pairs new.map ≡ pairs old.map ++ more
  pub incomplete : ArePairsIncomplete more
  pub scope : new.scope ≡ old.scope
  pub counts : new.counts ≡ old.counts
  pub functions : new.functions.items ≡ old.functions.items
  pub reads : new.reads ≡ old.reads
  pub plain : new.plain ≡ old.plain
