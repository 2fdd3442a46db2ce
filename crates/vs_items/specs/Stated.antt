-- What is asked of an item whose faults are looked for: all that it has is as the grammar has it.
use Rattle.std.specs.Prelude.{List}
use Rattle.vs_grammar.specs.Trees as tree
use Rattle.vs_grammar.specs.Shapes.{Each, IsDeclarator, IsAssign, IsStatement, AreInstances}

-- generate constructs are no matter here
abbrev pub IsStated : tree.Item → Type 0
IsStated (tree.SignalsItem t) = Each IsDeclarator t.names
IsStated (tree.AssignsItem place assigns) = Each IsAssign assigns
IsStated (tree.AlwaysItem b) = IsStatement b.statement
IsStated (tree.InitialItem b) = IsStatement b.statement
IsStated (tree.InstancesItem t) = AreInstances t
IsStated _ = Unit {0}

abbrev pub AreStated : List tree.Item → Type 0
AreStated items = Each IsStated items

-- a declaration, and those of a header
abbrev pub IsDeclared : tree.Signals → Type 0
IsDeclared t = Each IsDeclarator t.names

abbrev pub IsStatedHeader : tree.Header → Type 0
IsStatedHeader (tree.DeclaredPorts ports) = Each IsDeclared ports
IsStatedHeader _ = Unit {0}
