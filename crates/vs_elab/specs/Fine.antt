-- Parts of a scope that break no rule, whatever the design that they are built in.
use Rattle.std.specs.Prelude.{◌≡◌, ◌≤◌, ◌+◌, ◌++◌, Bool, true, false, List, [], ◌∷◌, map, Some}
use Rattle.vs_grammar.specs.Trees as tree
use Rattle.vs_grammar.specs.Shapes.{Each, Given, IsAssign, IsStatement, AreConnections, IsGenerateItem}
use Rattle.vs_grammar.specs.Depths.{deepest, assign_depth, statement_depth, connections_depth, item_depth}
use Rattle.vs_grammar.specs.Spelled.{depth_limit}
use Rattle.vs_ast.specs.Views as view
use Rattle.vs_const.specs.Expressions.{typed}
use Rattle.vs_elaborated.specs.Environments.{Env, named}
use Rattle.vs_elaborated.specs.Targets.{typed_target}
use Rattle.vs_elaborated.specs.Limits.{the_limits}
use Rattle.vs_elaborated.specs.Statements.{typed_control, typed_statement}
use Rattle.vs_elaborated.specs.Generate.{Nested, Made}
use Rattle.vs_elaborated.specs.Ports.{find_module}
use Rattle.vs_elaborated.specs.Instances.{Around, said_overrides, said_connections}
use Rattle.vs_elaborated.specs.Signals.{is_reg}
use Rattle.vs_elaborated.specs.NamedBlocks.{NamedBlock, named_blocks}
use Rattle.vs_elaborated.specs.Pieces.{Own, OfScopes, Initially, Said, nothing_said, one_said, both_said}
use Rattle.vs_elaborated.specs.Surveys.{no_loops, block_body, initial_body, ports_said, item_said}
use Rattle.vs_build.specs.Writable.{wire_assign}
use Rattle.vs_build.specs.Executable.{barred, block_process, begun, value_assignment}
use Rattle.vs_items.specs.Stated.{IsStated, AreStated}
use Rattle.vs_elab.specs.declared.pending.Part.{Part}
use Rattle.vs_elab.specs.declared.pending.Part.TheVariants.{Wire, Value, Assigned, Always, Scoped, Initial, Instance, Block}

-- ---- parts

-- an assign (6.1)
pub record IsFineAssign (env : Env) (a : tree.Assign) : Type 0 where
  pub shaped : IsAssign a
  pub clean : (typed_target a.target (named env) false).faults ++ (typed a.e (named env) false).faults ≡ []
  pub shallow : assign_depth a ≤ depth_limit

-- the statement of an initial process, with its loops unrolled (9.9.1): that of a value is one level deeper than the value
pub record IsFineBegun (env : Env) (s : tree.Statement) : Type 0 where
  pub shaped : IsStatement s
  pub clean : (typed_statement s initial_body (named env)).faults ≡ []
  pub shallow : statement_depth s ≤ depth_limit + 1

-- a value of a variable is an initial one (6.2.1), and of a net the assign of it (6.1.1)
abbrev pub IsFineValue : Env → (variable : Bool) → tree.Name → tree.Expr → Type 0
IsFineValue env true name e = IsFineBegun env (value_assignment name e)
IsFineValue env false name e = IsFineAssign env (wire_assign name e)

-- a declared name, with its value, if it has one
abbrev pub IsFineDeclarator : Env → tree.SignalKind → tree.Declarator → Type 0
IsFineDeclarator env kind d = Given (IsFineValue env (is_reg kind) d.name) d.value

-- a declaration
abbrev pub AreFineSignals : Env → tree.Signals → Type 0
AreFineSignals env t = Each (IsFineDeclarator env t.kind) t.names

-- a header
abbrev pub IsFineHeader : Env → tree.Header → Type 0
IsFineHeader env (tree.DeclaredPorts ports) = Each (AreFineSignals env) ports
IsFineHeader env _ = Unit {0}

-- an always block, with its loops unrolled (9.9.2)
pub record IsFineBlock (env : Env) (b : tree.AlwaysBlock) : Type 0 where
  pub shaped : IsStatement b.statement
  pub clean : (typed_control b.control (named env)).faults ++ (typed_statement b.statement (block_body b) (named env)).faults ≡ []
  pub shallow : statement_depth b.statement ≤ depth_limit

-- one whose named blocks are scopes (9.8.2)
pub record IsFineScoped (env : Env) (b : tree.AlwaysBlock) : Type 0 where
  pub shaped : IsStatement b.statement
  pub clean : (typed_control b.control (named env)).faults ≡ []
  pub shallow : statement_depth b.statement ≤ depth_limit

-- an instance of an item, whose module the text has (12.1.2)
pub record IsFineInstance (source : tree.Source) (env : Env) (t : tree.Instances) (i : tree.Instance) : Type 0 where
  pub of : tree.Module
  pub found : find_module source t.of.bytes ≡ Some of
  pub overrides : AreConnections t.overrides
  pub connections : AreConnections i.connections
  pub overridden : (said_overrides t.of (Some of) t.overrides env).faults ≡ []
  pub connected : (said_connections (Some of) i.name i.connections env).faults ≡ []
  pub shallow : connections_depth i.connections ≤ depth_limit

-- the items of a generate block (12.4)
pub record AreFineInside (items : List tree.Item) : Type 0 where
  pub shaped : Each IsGenerateItem items
  pub shallow : deepest item_depth items ≤ depth_limit

-- a part of a scope, where this stands around it
abbrev pub IsFinePart : tree.Source → Env → Part → Type 0
IsFinePart source env (Wire place name value) = IsFineAssign env (wire_assign (view.name name.now) (view.expr value.now))
IsFinePart source env (Value name value) = IsFineBegun env (value_assignment (view.name name.now) (view.expr value.now))
IsFinePart source env (Assigned place a) = IsFineAssign env (view.assign a.now)
IsFinePart source env (Always b) = IsFineBlock env (view.always_block b.now)
IsFinePart source env (Scoped b) = IsFineScoped env (view.always_block b.now)
IsFinePart source env (Initial b) = IsFineBegun env (view.initial_block b.now).statement
IsFinePart source env (Instance t i) = IsFineInstance source env (view.instances t.now) (view.instance i.now)
IsFinePart source env (Block name items t) = AreFineInside (map view.item items.now)

abbrev pub AreFineParts : tree.Source → Env → List Part → Type 0
AreFineParts source env ps = Each (IsFinePart source env) ps

-- ---- items

-- what an always block says where it breaks no rule, by its named blocks that are scopes: its loops are unrolled, whatever loops did before
abbrev pub plain_block : List NamedBlock → Around → tree.AlwaysBlock → Said
plain_block [] around b = one_said (Own (block_process barred b (named around.env))) ((typed_control b.control (named around.env)).faults ++ (typed_statement b.statement (block_body b) (named around.env)).faults)
plain_block (n ∷ ns) around b = one_said (OfScopes (record { scope = around.scope; env = around.env; block = b })) (typed_control b.control (named around.env)).faults

-- and so an item
abbrev pub plain_said : tree.Source → Around → tree.Item → Made → Said
plain_said source around (tree.AlwaysItem b) made = plain_block (named_blocks b.statement) around b
plain_said source around (tree.InitialItem b) made = one_said (Initially b.place (begun b.statement (named around.env))) (typed_statement b.statement initial_body (named around.env)).faults
plain_said source around item made = item_said the_limits source around no_loops item made

-- each with what it makes
abbrev pub plains_said : tree.Source → Around → List tree.Item → List Made → Said
plains_said source around (i ∷ is) (m ∷ ms) = both_said (plain_said source around i m) (plains_said source around is ms)
plains_said source around _ _ = nothing_said []

-- the header before the items
abbrev pub scope_plain : tree.Source → Around → tree.Header → List tree.Item → List Made → Said
scope_plain source around header items ms = both_said (ports_said around.env header) (plains_said source around items ms)

-- the blocks that an item makes
abbrev pub MakesFine : Made → Type 0
MakesFine m = Each (λ (b : Nested). AreFineInside b.items) m.blocks

-- an item that makes this breaks no rule
pub record IsFineItem (source : tree.Source) (around : Around) (item : tree.Item) (m : Made) : Type 0 where
  pub stated : IsStated item
  pub shallow : item_depth item ≤ depth_limit
  pub made : MakesFine m
  pub clean : (plain_said source around item m).faults ≡ []

-- items that make these break no rule
pub record AreFineItems (source : tree.Source) (around : Around) (items : List tree.Item) (ms : List Made) : Type 0 where
  pub stated : AreStated items
  pub shallow : deepest item_depth items ≤ depth_limit
  pub made : Each MakesFine ms
  pub clean : (plains_said source around items ms).faults ≡ []
