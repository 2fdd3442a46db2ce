-- The items of a module, as far as they have been read.
use Rattle.std.specs.Prelude.{◌≡◌, ℕ, false, List, [], ◌∷◌, map}
use Rattle.vs_grammar.specs.Grammars.{star}
use Rattle.vs_grammar.specs.Grammars.Phrase.{eps}
use Rattle.vs_grammar.specs.Verilog.{Rule as rule, r}
use Rattle.vs_grammar.specs.Trees.{Item, Items, AndItem}
use Rattle.vs_grammar.specs.Meaning.{D, item_onto, items_onto}
use Rattle.vs_ast.specs.declared.items.Item.{Item as ItemNode}
use Rattle.vs_ast.specs.Views as view
use Rattle.vs_statements.specs.declared.input.Input.{Input}
use Rattle.vs_statements.specs.Reading.{Read, Grown, bytes_in}

abbrev pub items_from : List Item → Items → Items
items_from [] rest = rest
items_from (i ∷ is) rest = AndItem i (items_from is rest)

-- an item of a module behind these ones, with which they are this list
pub record ItemRead (input : Input) (before : List ItemNode) (d i : ℕ) (list : List ItemNode) (j : ℕ) : Type 0 where
  pub tree : D (r rule.Item)
  pub read : Read input.tokens.now d (r rule.Item) tree i j
  pub made : (rest : Items) → items_from (map view.item before) (item_onto (bytes_in input) tree rest) ≡ items_from (map view.item list) rest

-- as far as the items of a module have been read
pub record ItemsGrown (input : Input) (d i : ℕ) (list : List ItemNode) (j : ℕ) : Type 0 where
  pub tree : D (star (r rule.Item))
  pub grown : Grown input.tokens.now d false eps (r rule.Item) tree i j
  pub made : (rest : Items) → items_onto (bytes_in input) tree rest ≡ items_from (map view.item list) rest
