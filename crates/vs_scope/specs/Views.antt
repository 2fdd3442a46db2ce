-- What the names of the code stand for.
use Rattle.std.specs.Prelude.{ℕ, Bool, true, false, List, map, Some, None}
use Rattle.vs_grammar.specs.Trees as tree
use Rattle.vs_ast.specs.Views as view
use Rattle.vs_const.specs.declared.names.Role.TheVariants.{InModule}
use Rattle.vs_const.specs.Meanings.{SignalMeaning}
use Rattle.vs_elaborated.specs.Environments as environment
use Rattle.vs_elaborated.specs.Declarations as declarations
use Rattle.vs_elaborated.specs.Targets.{no_signal}
use Rattle.vs_scope.specs.declared.names.Sort.{Sort}
use Rattle.vs_scope.specs.declared.names.Sort.TheVariants as sorts
use Rattle.vs_scope.specs.declared.names.Declaration.{Declaration}
use Rattle.vs_scope.specs.declared.names.Signal.{Signal}
use Rattle.vs_scope.specs.declared.names.Evaluated.{Evaluated}
use Rattle.vs_scope.specs.declared.names.Evaluated.TheVariants.{Value, Undefined}
use Rattle.vs_scope.specs.declared.names.Declared.{Declared}
use Rattle.vs_scope.specs.declared.names.Declared.TheVariants as states
use Rattle.vs_scope.specs.declared.names.Entry.{Entry}
use Rattle.vs_scope.specs.declared.names.Names.{Names}
use Rattle.vs_maps.specs.Maps.{Pair}
use Rattle.vs_maps.specs.MapViews.{pairs}

-- what a declaration declares
abbrev pub sort : Sort → declarations.Sort
sort (sorts.Signal s addresses header) = declarations.SignalOf (record { kind = view.signal_kind s.now.kind; value_type = tree.RangeType s.now.signed (view.option view.range s.now.range); addresses = view.option view.range addresses.now; header = header })
sort (sorts.Parameter p value) = declarations.ParameterOf (record { is_local = p.now.is_local; value_type = view.value_type p.now.value_type; value = view.expr value.now })
sort (sorts.Function f) = declarations.FunctionOf (view.function f.now)
sort sorts.Genvar = declarations.GenvarSort
sort sorts.Variable = declarations.integer_sort true
sort sorts.Integer = declarations.IntegerSort
sort sorts.Scope = declarations.InstanceSort

-- with its name
abbrev pub declaration : Declaration → declarations.Declaration
declaration d = record { name = view.name d.name.now; sort = sort d.sort }

-- a signal
abbrev pub signal_meaning : Signal → SignalMeaning
signal_meaning s = record { signal = record { name = s.name.now; scope = s.scope; number = s.number; net = s.net; input = s.input; range = s.range; signed = s.signed; first = s.first; words = s.words; integer = s.integer }; input = s.is_input; role = InModule; known = s.known }

-- a signal of which nothing is known
abbrev pub unknown_signal : SignalMeaning
unknown_signal = record { signal = no_signal; input = false; role = InModule; known = false }

-- what a parameter is found to be
abbrev pub evaluated : Evaluated → environment.Declared
evaluated (Value p) = environment.OfParameter (Some (record { bits = p.value.bits; signed = p.value.signed })) (Some p.range)
evaluated (Undefined range) = environment.OfParameter None range

-- what is known of a name before functions are complete
abbrev pub declared : Declared → environment.Declared
declared states.Later = environment.Later
declared states.Announced = environment.OfSignal unknown_signal
declared (states.Signal s) = environment.OfSignal (signal_meaning s)
declared (states.Parameter value) = evaluated value
declared (states.Function f) = environment.OfFunction None
declared states.Genvar = environment.OfGenvar
declared (states.Integer scope) = environment.OfInteger (Some scope)
declared states.Scope = environment.OfScope

-- a name, where it is first declared
abbrev pub entry_of : List ℕ → Entry → environment.Entry
entry_of name e = record { name = name; place = e.first.name.now.place; declared = declared e.declared }

-- of a map's pair
abbrev pub pair_entry : Pair Entry → environment.Entry
pair_entry p = entry_of p.name p.value

-- the names of a scope
abbrev pub entries : Names → List environment.Entry
entries names = map pair_entry (pairs names.map)

-- whether it is a parameter that wasn't evaluated yet
abbrev pub is_later : environment.Declared → Bool
is_later environment.Later = true
is_later _ = false
