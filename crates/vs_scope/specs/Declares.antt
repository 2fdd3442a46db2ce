-- The names of a scope, one declaration after the other.
use Rattle.std.specs.Prelude.{◌≡◌, ℕ, Bool, true, false, not, ◌&&◌, ◌||◌, List, [], ◌∷◌, map, is_some, Option, Some, None, if◌then◌else◌}
use Rattle.vs_ast.specs.Views.{option}
use Rattle.vs_design.specs.Clocks.{same_name}
use Rattle.vs_grammar.specs.Trees as tree
use Rattle.vs_grammar.specs.Trees.{SignalKind}
use Rattle.vs_elaborated.specs.Environments as environment
use Rattle.vs_elaborated.specs.Declarations.{Sort, SignalOf, FunctionOf, GenvarSort, InstanceSort, has_addresses, integer_sort, Declaration, Named, are_kinds_of_one, are_sorts_of_one}
use Rattle.vs_elaborated.specs.Parameters.{first_declared}
use Rattle.vs_scope.specs.declared.names.Declaration.{Declaration as DeclarationOf}
use Rattle.vs_scope.specs.declared.names.Entry.{Entry}
use Rattle.vs_scope.specs.declared.names.Names.{Names}
use Rattle.vs_maps.specs.Maps.{Pair}
use Rattle.vs_maps.specs.MapViews.{pairs}
use Rattle.vs_scope.specs.Views.{declaration, pair_entry}

-- ---- of an item

abbrev pub genvar_declared : tree.Name → Declaration
genvar_declared n = record { name = n; sort = GenvarSort }

abbrev pub integer_declared : (is_variable : List ℕ → Bool) → tree.Name → Declaration
integer_declared is_variable n = record { name = n; sort = integer_sort (is_variable n.bytes) }

abbrev pub function_declared : tree.Function → Declaration
function_declared f = record { name = f.name; sort = FunctionOf f }

abbrev pub instance_declared : tree.Instance → Declaration
instance_declared i = record { name = i.name; sort = InstanceSort }

-- ---- of a scope

-- the declarations of a name
abbrev pub entry_named : Entry → Named
entry_named e = record { first = declaration e.first; second = option declaration e.second }

-- of a map's pair
abbrev pub named_of : Pair Entry → Named
named_of p = entry_named p.value

-- of all names, in order
abbrev pub named_list : Names → List Named
named_list names = map named_of (pairs names.map)

-- a name before anything is known of values, ranges and functions
abbrev pub first_entry : (scope : ℕ) → Named → environment.Entry
first_entry scope n = record { name = n.first.name.bytes; place = n.first.name.place; declared = first_declared scope n.first.sort }

-- of each name no more is known
abbrev pub ArePairsFirst : (scope : ℕ) → List (Pair Entry) → Type 0
ArePairsFirst scope [] = Unit {0}
ArePairsFirst scope (p ∷ ps) = (pair_entry p ≡ first_entry scope (named_of p)) × ArePairsFirst scope ps

-- of each name of the scope
pub record AreFirst (names : Names) : Type 0 where
  pub each : ArePairsFirst names.scope (pairs names.map)

-- the second declaration of a signal, if it has none yet
abbrev pub with_second : (is_second : Bool) → Declaration → Named → Named
with_second true a n = record { first = n.first; second = Some a }
with_second false a n = n

-- the kind of a declaration that may be one of two of a signal
abbrev pub open_kind : Sort → Option SignalKind
open_kind (SignalOf s) = if not s.header && not (has_addresses s) then Some s.kind else None
open_kind _ = None

-- whether those of these kinds, if they may be, are of one signal
abbrev pub both_kinds : Option SignalKind → Option SignalKind → Bool
both_kinds (Some a) (Some b) = are_kinds_of_one a b
both_kinds _ _ = false

-- one of its name, of the same signal and without a second one
abbrev pub is_open : Named → Declaration → Bool
is_open n a = not (not (are_sorts_of_one n.first.sort a.sort) || is_some n.second)

-- one declaration more
abbrev pub with_named : Declaration → List Named → List Named
with_named a [] = record { first = a; second = None } ∷ []
with_named a (n ∷ ns) = if same_name n.first.name.bytes a.name.bytes then with_second (is_open n a) a n ∷ ns else n ∷ with_named a ns

-- whether it is one too many
abbrev pub is_one_too_many : List Named → Declaration → Bool
is_one_too_many [] a = false
is_one_too_many (n ∷ ns) a = if same_name n.first.name.bytes a.name.bytes then not (are_sorts_of_one n.first.sort a.sort) || is_some n.second else is_one_too_many ns a

-- the entry of a first declaration, behind which this one may come
abbrev pub IsOpenAt : DeclarationOf → DeclarationOf → Option Entry → Type 0
IsOpenAt first d None = ⊥
IsOpenAt first d (Some e) = (e.first ≡ first) × (is_open (entry_named e) (declaration d) ≡ true)
