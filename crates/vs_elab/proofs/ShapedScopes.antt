-- Scopes as the grammar has them: what is asked of their headers and items, and how deep their expressions nest.
use Rattle.std.proofs.Common.{◌≡◌, max, List, [], ◌∷◌, Option, refl, sym, ap, subst}
use Rattle.vs_grammar.specs.Trees as tree
use Rattle.vs_grammar.specs.Trees.{items_list}
use Rattle.vs_grammar.specs.Shapes.{Each, OneOrMore, Given, IsExpr, IsPlain, IsDeclarator, IsStored, IsPort, IsVariablePort, AreNames, ArePorts, IsHeader, IsAssign, IsGenerateItem, IsItem, AreItems}
use Rattle.vs_grammar.specs.Depths.{deepest, item_depth, items_depth}
use Rattle.vs_ast.specs.Views as view
use Rattle.vs_scope.specs.declared.contents.Contents.{Contents}
use Rattle.vs_scope.specs.declared.contents.Contents.TheVariants.{Module, Block}
use Rattle.vs_scope.specs.Contents.{contents_header, contents_items}
use Rattle.vs_scope.specs.Surveys.{IsShapedScope}
use Rattle.vs_items.specs.Stated.{IsStated, AreStated, IsDeclared, IsStatedHeader}

-- ---- declarations

plain_declarator : (d : tree.Declarator) → IsPlain d → IsDeclarator d
plain_declarator d x = (x.0, subst (λ (v : Option tree.Expr). Given IsExpr v) (sym x.1) tt)

some_declarators : (P : tree.Declarator → Type 0) → ((d : tree.Declarator) → P d → IsDeclarator d) → (ds : List tree.Declarator) → OneOrMore P ds → Each IsDeclarator ds
some_declarators P f [] x = tt
some_declarators P f (d ∷ ds) x = each (d ∷ ds) x
  where
    each : (xs : List tree.Declarator) → Each P xs → Each IsDeclarator xs
    each [] h = tt
    each (y ∷ ys) h = (f y h.0, each ys h.1)

some_stored : (ds : List tree.Declarator) → OneOrMore IsStored ds → Each IsDeclarator ds
some_stored ds x = some_declarators IsStored (λ d h. h.0) ds x

some_variables : (ds : List tree.Declarator) → OneOrMore IsVariablePort ds → Each IsDeclarator ds
some_variables ds x = some_declarators IsVariablePort (λ d h. h.0) ds x

some_ports : (ds : List tree.Declarator) → OneOrMore IsPort ds → Each IsDeclarator ds
some_ports ds x = some_declarators IsPort (λ d h. plain_declarator d h.0) ds x

names_stated : (k : tree.SignalKind) (ds : List tree.Declarator) → AreNames k ds → Each IsDeclarator ds
names_stated tree.Input ds x = some_ports ds x
names_stated tree.InputWire ds x = some_ports ds x
names_stated tree.Output ds x = some_ports ds x
names_stated tree.OutputWire ds x = some_ports ds x
names_stated tree.OutputReg ds x = some_variables ds x
names_stated tree.Reg ds x = some_stored ds x
names_stated tree.Wire ds x = some_stored ds x

some_assigns : (xs : List tree.Assign) → OneOrMore IsAssign xs → Each IsAssign xs
some_assigns [] x = tt
some_assigns (a ∷ xs) x = x

-- ---- items

generate_stated : (i : tree.Item) → IsGenerateItem i → IsStated i
generate_stated (tree.SignalsItem t) x = names_stated t.kind t.names x.0.names
generate_stated (tree.ParametersItem t) x = tt
generate_stated (tree.AssignsItem place assigns) x = some_assigns assigns x
generate_stated (tree.AlwaysItem b) x = x.1
generate_stated (tree.InitialItem b) x = x
generate_stated (tree.GenvarsItem place names) x = tt
generate_stated (tree.IntegersItem place names) x = tt
generate_stated (tree.FunctionItem f) x = absurd x
generate_stated (tree.InstancesItem t) x = x
generate_stated (tree.GenerateFor head block) x = tt
generate_stated (tree.GenerateIf place c taken other) x = tt
generate_stated (tree.GenerateCase place subject arms other) x = tt

item_stated : (i : tree.Item) → IsItem i → IsStated i
item_stated (tree.SignalsItem t) x = names_stated t.kind t.names x.names
item_stated (tree.ParametersItem t) x = tt
item_stated (tree.AssignsItem place assigns) x = some_assigns assigns x
item_stated (tree.AlwaysItem b) x = x.1
item_stated (tree.InitialItem b) x = x
item_stated (tree.GenvarsItem place names) x = tt
item_stated (tree.IntegersItem place names) x = tt
item_stated (tree.FunctionItem f) x = tt
item_stated (tree.InstancesItem t) x = x
item_stated (tree.GenerateFor head block) x = tt
item_stated (tree.GenerateIf place c taken other) x = tt
item_stated (tree.GenerateCase place subject arms other) x = tt

generates_stated : (is : List tree.Item) → Each IsGenerateItem is → AreStated is
generates_stated [] x = tt
generates_stated (i ∷ is) x = (generate_stated i x.0, generates_stated is x.1)

items_stated : (is : tree.Items) → AreItems is → AreStated (items_list is)
items_stated tree.NoItem x = tt
items_stated (tree.AndItem i rest) x = (item_stated i x.0, items_stated rest x.1)

-- the items of a scope
pub scope_stated : (c : Contents) → IsShapedScope c → AreStated (contents_items c)
scope_stated (Module m) x = items_stated (view.items m.now.items.items) x.items
scope_stated (Block b) x = generates_stated _ x

-- ---- headers

ports_stated : (ts : List tree.Signals) → Each ArePorts ts → Each IsDeclared ts
ports_stated [] x = tt
ports_stated (t ∷ ts) x = (names_stated t.kind t.names x.0.0.names, ports_stated ts x.1)

some_ports_stated : (ts : List tree.Signals) → OneOrMore ArePorts ts → Each IsDeclared ts
some_ports_stated [] x = tt
some_ports_stated (t ∷ ts) x = ports_stated (t ∷ ts) x

stated_header : (h : tree.Header) → IsHeader h → IsStatedHeader h
stated_header tree.NoPorts x = tt
stated_header (tree.PlainPorts names) x = tt
stated_header (tree.DeclaredPorts ports) x = some_ports_stated ports x

-- the header of a scope
pub header_stated : (c : Contents) → IsShapedScope c → IsStatedHeader (contents_header c)
header_stated (Module m) x = stated_header (view.module_tree m.now).header x.header
header_stated (Block b) x = tt

-- ---- depths

pub list_depth : (is : tree.Items) → deepest item_depth (items_list is) ≡ items_depth is
list_depth tree.NoItem = refl
list_depth (tree.AndItem i rest) = ap (max (item_depth i)) (list_depth rest)
