-- What a scope is made of.
use Rattle.std.specs.Prelude.{List, [], ◌∷◌, map}
use Rattle.vs_grammar.specs.Trees as tree
use Rattle.vs_grammar.specs.Trees.{items_list}
use Rattle.vs_ast.specs.Views as view
use Rattle.vs_elaborated.specs.Declarations.{Declaration, items_declared, module_declared}
use Rattle.vs_scope.specs.declared.contents.BlockItems.{BlockItems}
use Rattle.vs_scope.specs.declared.contents.BlockItems.TheVariants.{One, Many}
use Rattle.vs_scope.specs.declared.contents.Contents.{Contents}
use Rattle.vs_scope.specs.declared.contents.Contents.TheVariants.{Module, Block}

-- the items of a block
abbrev pub block_items : BlockItems → List tree.Item
block_items (One i) = view.item i.now ∷ []
block_items (Many is) = map view.item is.now

-- the items of a scope
abbrev pub contents_items : Contents → List tree.Item
contents_items (Module m) = items_list (view.items m.now.items.items)
contents_items (Block b) = block_items b

-- its header, if it has one
abbrev pub contents_header : Contents → tree.Header
contents_header (Module m) = (view.module_tree m.now).header
contents_header (Block b) = tree.NoPorts

-- its declarations
abbrev pub contents_declared : Contents → List Declaration
contents_declared (Module m) = module_declared (view.module_tree m.now)
contents_declared (Block b) = items_declared (block_items b)
