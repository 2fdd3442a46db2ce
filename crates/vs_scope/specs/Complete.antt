-- The functions of a scope that are complete, and what the code keeps of them.
use Rattle.std.specs.Prelude.{◌≡◌, ◌+◌, ℕ, Bool, Vec, List, [], ◌∷◌, ◌++◌, map, take, drop, length, Option, Some, None}
use Rattle.std.specs.Borrow.{Bor}
use Rattle.std.specs.Global.{Global}
use Rattle.vs_four.specs.declared.Range.{Range}
use Rattle.vs_ast.specs.Views as view
use Rattle.vs_ast.specs.declared.items.Function.{Function}
use Rattle.vs_const.specs.Meanings.{FunctionMeaning}
use Rattle.vs_const.specs.MentionViews.{Kept, kept, kept_of}
use Rattle.vs_const.specs.CallDepths.{calls_in}
use Rattle.vs_const.specs.declared.names.FunctionShape.{FunctionShape}
use Rattle.vs_const.specs.declared.names.SignalShape.{SignalShape}
use Rattle.vs_elaborated.specs.Limits.{the_limits}
use Rattle.vs_elaborated.specs.Environments as environment
use Rattle.vs_elaborated.specs.Environments.{Env}
use Rattle.vs_elaborated.specs.Declarations.{Declaration, FunctionOf}
use Rattle.vs_elaborated.specs.Functions.{SaidFunctions, said_functions}
use Rattle.vs_scope.specs.declared.names.Declared.{Declared}
use Rattle.vs_scope.specs.declared.names.Declared.TheVariants as states
use Rattle.vs_scope.specs.declared.names.Entry.{Entry}
use Rattle.vs_scope.specs.declared.names.Names.{Names}
use Rattle.vs_maps.specs.Maps.{Pair, value_at}
use Rattle.vs_maps.specs.MapViews.{pairs}
use Rattle.vs_scope.specs.Counts.{counted}
use Rattle.vs_scope.specs.Views.{entries}

-- ---- what the names of a scope mean once these functions are complete

-- the declaration of a function
abbrev pub function_declaration : Bor Function → Declaration
function_declaration f = record { name = (view.function f.now).name; sort = FunctionOf (view.function f.now) }

-- the functions that are complete, by what is seen around the scope
unfoldable pub completed : (outer : Env) → Names → SaidFunctions
completed outer names = said_functions the_limits names.scope outer (counted names.counts) (map function_declaration names.functions.items) (take names.plain (entries names))

-- all names of the scope
unfoldable pub complete : (outer : Env) → Names → List environment.Entry
complete outer names = (completed outer names).entries ++ drop names.plain (entries names)

-- ---- what is kept of a function

-- the bounds of a range
pub record Ends : Type 0 where
  pub left : ℕ
  pub right : ℕ

abbrev pub ends : Range → Ends
ends r = record { left = r.left; right = r.right }

-- its number, how many inputs it has and how many of them it doesn't declare, the range and the sign of its result, whether it is known, how deep calls nest in it, the words of its
-- result, and the signals that it reads
pub record Shape : Type 0 where
  pub number : ℕ
  pub inputs : ℕ
  pub passed : ℕ
  pub range : Option Ends
  pub signed : Bool
  pub known : Bool
  pub depth : ℕ
  pub words : Option Ends
  pub reads : List Kept

-- by what the code keeps of it
abbrev pub kept_shape : List SignalShape → FunctionShape → Shape
kept_shape reads f =
    record { number = f.number; inputs = f.inputs + f.passed; passed = f.passed; range = view.option ends f.range; signed = f.signed; known = f.known; depth = f.depth; words = None; reads = map kept reads }

-- by what it means
abbrev pub said_shape : FunctionMeaning → Shape
said_shape g = record { number = g.number; inputs = length g.header.inputs; passed = length g.passed; range = view.option ends g.header.result.range; signed = g.header.result.signed; known = g.known; depth = calls_in g.statement; words = view.option ends g.header.result.words; reads = map kept_of g.passed }

-- what the function of this name reads
abbrev pub reads_in : Option (Vec SignalShape Global) → List SignalShape
reads_in None = []
reads_in (Some list) = list.items

abbrev pub reads_at : List (Pair (Vec SignalShape Global)) → List ℕ → List SignalShape
reads_at rs name = reads_in (value_at name rs)

-- of a name, if it is a function that is complete
abbrev pub shape_kept : List SignalShape → Declared → Option Shape
shape_kept reads (states.Function (Some f)) = Some (kept_shape reads f)
shape_kept reads _ = None

abbrev pub shape_said : environment.Declared → Option Shape
shape_said (environment.OfFunction (Some g)) = Some (said_shape g)
shape_said _ = None

-- of all names, in order
abbrev pub shapes_by : (reads : List ℕ → List SignalShape) → List (Pair Entry) → List (Option Shape)
shapes_by reads ps = map (λ (p : Pair Entry). shape_kept (reads p.name) p.value.declared) ps

abbrev pub shapes_in : Names → List (Option Shape)
shapes_in names = shapes_by (reads_at (pairs names.reads)) (pairs names.map)

abbrev pub shapes_of : List environment.Entry → List (Option Shape)
shapes_of es = map (λ (e : environment.Entry). shape_said e.declared) es

-- what a scope keeps is what its functions mean
abbrev pub KeepsShapes : (outer : Env) → Names → Type 0
KeepsShapes outer names = shapes_in names ≡ shapes_of (complete outer names)

-- ---- before any function is complete

abbrev pub ArePairsIncomplete : List (Pair Entry) → Type 0
ArePairsIncomplete [] = Unit {0}
ArePairsIncomplete (p ∷ ps) = (shape_kept [] p.value.declared ≡ None) × ArePairsIncomplete ps

pub record IsIncomplete (names : Names) : Type 0 where
  pub functions : names.functions.items ≡ []
  pub each : ArePairsIncomplete (pairs names.map)

-- the same scope, of which no function more is complete
pub record IsStill (old new : Names) : Type 0 where
  pub scope : new.scope ≡ old.scope
  pub counts : new.counts ≡ old.counts
  pub incomplete : IsIncomplete old → IsIncomplete new
