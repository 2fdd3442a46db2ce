-- The names that the functions of a scope see, while one function after the other is complete again.
use Rattle.std.specs.Prelude.{◌≡◌, Bool, true, false, if◌then◌else◌, List, ◌++◌, length, map, take, Option, Some, None}
use Rattle.vs_const.specs.declared.names.FunctionShape.{FunctionShape}
use Rattle.vs_elaborated.specs.Environments.{Env}
use Rattle.vs_elaborated.specs.Declarations.{Declaration}
use Rattle.vs_elaborated.specs.Functions.{Counts}
use Rattle.vs_elaborated.specs.Pieces.{Contents}
use Rattle.vs_elaborated.specs.Signals.{Start}
use Rattle.vs_elaborated.specs.Surveys.{overrides_of, declarations_of}
use Rattle.vs_scope.specs.declared.names.Declared.{Declared}
use Rattle.vs_scope.specs.declared.names.Declared.TheVariants as states
use Rattle.vs_scope.specs.declared.names.Entry.{Entry}
use Rattle.vs_scope.specs.declared.names.Names.{Names}
use Rattle.vs_maps.specs.Maps.{Pair}
use Rattle.vs_scope.specs.Complete.{KeepsShapes, function_declaration}
use Rattle.vs_scope.specs.Counts.{counted}
use Rattle.vs_scope.specs.Functions.{is_incomplete}
use Rattle.vs_scope.specs.Scopes.{said_entries}
use Rattle.vs_scope.specs.Views.{entries}

-- before any function is complete
abbrev pub is_function : Declared → Bool
is_function (states.Function f) = true
is_function _ = false

abbrev pub kept_declared : Declared → Declared
kept_declared d = if is_function d then states.Function None else d

abbrev pub kept_pair : Entry → Entry
kept_pair e = record { first = e.first; second = e.second; declared = kept_declared e.declared }

abbrev pub kept_pairs : List (Pair Entry) → List (Pair Entry)
kept_pairs ps = map (λ (p : Pair Entry). record { name = p.name; value = kept_pair p.value }) ps

-- whether a name is one of a function that isn't complete
abbrev pub is_awaited : Option Entry → Bool
is_awaited None = false
is_awaited (Some e) = is_incomplete e.declared

-- what is kept of the function of a name
abbrev pub shape_in : Declared → Option FunctionShape
shape_in (states.Function shape) = shape
shape_in _ = None

abbrev pub shape_at : Option Entry → Option FunctionShape
shape_at None = None
shape_at (Some e) = shape_in e.declared

-- the names of a scope but for those of its blocks, of whose functions all but these are complete
pub record IsPart (outer : Env) (names whole : Names) (rest : List Declaration) : Type 0 where
  pub names_are : entries names ≡ take whole.plain (entries whole)
  pub scope : names.scope ≡ whole.scope
  pub counts : names.counts ≡ whole.counts
  pub plain : names.plain ≡ length (entries names)
  pub functions : map function_declaration whole.functions.items ≡ map function_declaration names.functions.items ++ rest
  pub kept : KeepsShapes outer names

-- the names of a scope but for those of its blocks, before its functions: they see these, behind these counts
pub record AreSeen (names : Names) (env : Env) (c : Contents) (start : Start) (before : Counts) : Type 0 where
  pub scope : names.scope ≡ start.scope
  pub counts : counted names.counts ≡ before
  pub names_are : take names.plain (entries names) ≡ said_entries env (overrides_of c) start (declarations_of c)
