-- What the items of a scope add to a design (IEEE 1364-2005, 6.1, 9.9 and 10.4): processes, initial processes and functions.
use Rattle.std.specs.Prelude.{◌≡◌, ◌≤◌, ℕ, false, List, [], ◌∷◌, ◌++◌, map, flat_map, Option, Some, None}
use Rattle.vs_design.specs.Designs.{Process, Design}
use Rattle.vs_grammar.specs.Trees as tree
use Rattle.vs_grammar.specs.Trees.{Wire}
use Rattle.vs_grammar.specs.Shapes.{IsAssign, IsDeclarator, IsStatement, IsFunction, Each}
use Rattle.vs_grammar.specs.Depths.{deepest, assign_depth, declarator_depth, statement_depth}
use Rattle.vs_const.specs.Meanings.{Meaning, Find}
use Rattle.vs_const.specs.Sound.{IsSound, AreSound}
use Rattle.vs_elaborated.specs.Numbers.{AreNumbered}
use Rattle.vs_elaborated.specs.Sound.{SeesSound}
use Rattle.vs_elaborated.specs.Limits.{Limits}
use Rattle.vs_elaborated.specs.Environments.{Env, named}
use Rattle.vs_elaborated.specs.Statements.{typed_control, typed_statement}
use Rattle.vs_elaborated.specs.Functions.{locals_in, header_of, function_names, function_body, said_function, meaning_or, signal_at}
use Rattle.vs_elaborated.specs.Pieces.{ScopedBlock, Own, Initially, all_said}
use Rattle.vs_elaborated.specs.Surveys.{Loops, Totals, assign_said, declarator_said, plain_block_said, scoped_signals, scoped_statement, initial_body, initial_said}
use Rattle.vs_elaborated.specs.Elaborated.{scoped_design}
use Rattle.vs_build.specs.Drafts.{Draft, home_in}
use Rattle.vs_build.specs.Writable.{IsAssignable, wire_assign, assign_process}
use Rattle.vs_build.specs.Executable.{IsExecutable, IsRunnable, barred, block_process, begun}

abbrev pub and_processes : Draft → List Process → Draft
and_processes s ps = record s { design = record s.design { processes = s.design.processes ++ ps } }

-- the assigns of an item
abbrev pub assign_processes : ℕ → List tree.Assign → Find → List Process
assign_processes place assigns find = map (λ (a : tree.Assign). assign_process place a find) assigns

-- a declared name with this value, if it has one (6.1.1)
abbrev pub value_processes : ℕ → tree.Name → Option tree.Expr → Find → List Process
value_processes place name None find = []
value_processes place name (Some e) find = assign_process place (wire_assign name e) find ∷ []

-- the names of a declaration of nets
abbrev pub wire_processes : ℕ → List tree.Declarator → Find → List Process
wire_processes place names find = flat_map (λ (d : tree.Declarator). value_processes place d.name d.value find) names

-- a value without a fault
abbrev pub IsAssigned : Design → Find → tree.Name → Option tree.Expr → Type 0
IsAssigned d find name None = Unit {0}
IsAssigned d find name (Some e) = IsAssignable d find (wire_assign name e)

abbrev pub IsDeclared : Design → Find → tree.Declarator → Type 0
IsDeclared d find n = IsAssigned d find n.name n.value

-- ---- what a scope's survey says of its items, where it has no fault

-- of assigns: they can be built, and the processes built are its pieces
abbrev pub AssignsAreFine : Type 0
AssignsAreFine = (d : Design) (env : Env) (place : ℕ) (assigns : List tree.Assign) → Each IsAssign assigns → AreSound d false (named env) → AreNumbered d (named env) → deepest assign_depth assigns ≤ 253 → (all_said (assign_said env place) assigns).faults ≡ []
    → Each (IsAssignable d (named env)) assigns × ((all_said (assign_said env place) assigns).pieces ≡ map Own (assign_processes place assigns (named env)))

-- of a declaration of nets with values
abbrev pub WiresAreFine : Type 0
WiresAreFine = (d : Design) (env : Env) (place : ℕ) (names : List tree.Declarator) → Each IsDeclarator names → AreSound d false (named env) → AreNumbered d (named env) → deepest declarator_depth names ≤ 253 → (all_said (declarator_said env place Wire) names).faults ≡ []
    → Each (IsDeclared d (named env)) names × ((all_said (declarator_said env place Wire) names).pieces ≡ map Own (wire_processes place names (named env)))

-- of an always block: its loops are unrolled
abbrev pub BlocksAreFine : Type 0
BlocksAreFine = (d : Design) (env : Env) (limits : Limits) (loops : Loops) (b : tree.AlwaysBlock) → IsStatement b.statement → AreSound d false (named env) → AreNumbered d (named env) → statement_depth b.statement ≤ 253
    → (plain_block_said limits env loops b).faults ≡ [] → IsRunnable d barred (named env) b × ((plain_block_said limits env loops b).pieces ≡ Own (block_process barred b (named env)) ∷ [])

-- what the variables of its named blocks mean where these are scopes
abbrev pub scoped_declared : ScopedBlock → Totals → ℕ → Meaning
scoped_declared b t place = meaning_or (signal_at (scoped_signals b t) place)

-- and of one whose named blocks are scopes, behind all that was read
abbrev pub ScopedBlocksAreFine : Type 0
ScopedBlocksAreFine = (d : Design) (limits : Limits) (b : ScopedBlock) (t : Totals) → IsStatement b.block.statement → AreSound d false (named b.env) → AreNumbered d (named b.env) → ((place : ℕ) → IsSound d false (scoped_declared b t place))
    → statement_depth b.block.statement ≤ 253 → (typed_control b.block.control (named b.env)).faults ≡ [] → (scoped_statement limits b t).faults ≡ []
    → IsRunnable d (scoped_declared b t) (named b.env) b.block × ((scoped_design b t (scoped_signals b t) (scoped_statement limits b t)).processes ≡ block_process (scoped_declared b t) b.block (named b.env) ∷ [])

-- and of an initial block
abbrev pub InitialsAreFine : Type 0
InitialsAreFine = (d : Design) (env : Env) (limits : Limits) (loops : Loops) (b : tree.InitialBlock) → IsStatement b.statement → AreSound d false (named env) → AreNumbered d (named env) → statement_depth b.statement ≤ 253
    → (initial_said limits env loops b).faults ≡ [] → IsExecutable d initial_body (named env) b.statement × ((initial_said limits env loops b).pieces ≡ Initially b.place (begun b.statement (named env)) ∷ [])

-- what a function says: in it its statement can be built, which is that of its meaning
pub record IsFineFunction (d : Design) (number most scope : ℕ) (env : Env) (f : tree.Function) : Type 0 where
  pub executable : IsExecutable (home_in d (Some (header_of f (locals_in scope env f)))) (function_body (locals_in scope env f)) (function_names scope env f) f.statement
  pub statement : (said_function number most scope env f).meaning.statement ≡ (typed_statement f.statement (function_body (locals_in scope env f)) (function_names scope env f)).statement

-- of a function without a fault (10.4)
abbrev pub FunctionsAreFine : Type 0
FunctionsAreFine = (d : Design) (number most scope : ℕ) (env : Env) (f : tree.Function) → IsFunction f → SeesSound d scope env f → AreNumbered d (function_names scope env f) → statement_depth f.statement ≤ 253
    → (said_function number most scope env f).faults ≡ [] → IsFineFunction d number most scope env f
