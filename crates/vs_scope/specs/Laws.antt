-- Laws of what the code's scopes stand for.
use Rattle.std.specs.Prelude.{List}
use Rattle.vs_grammar.specs.Trees as tree
use Rattle.vs_grammar.specs.Shapes.{Each, IsGenerateItem, IsModule}
use Rattle.vs_const.specs.Meanings.{IsFair}
use Rattle.vs_elaborated.specs.Environments.{named}
use Rattle.vs_elaborated.specs.Declarations.{items_declared, module_declared}
use Rattle.vs_scope.specs.Shaped.{AreShaped}
use Rattle.vs_scope.specs.declared.places.View.{View}
use Rattle.vs_scope.specs.Frames.{view_env}

-- each value has 1 to 64 bits, and a range of as many
abbrev pub ViewsAreFair : Type 0
ViewsAreFair = (v : View) → IsFair (named (view_env v))

-- a module's declarations are as the grammar has them
abbrev pub ModulesAreShaped : Type 0
ModulesAreShaped = (m : tree.Module) → IsModule m → AreShaped (module_declared m)

-- and those of a generate block's items
abbrev pub BlocksAreShaped : Type 0
BlocksAreShaped = (items : List tree.Item) → Each IsGenerateItem items → AreShaped (items_declared items)
