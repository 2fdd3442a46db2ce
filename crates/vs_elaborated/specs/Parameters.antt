-- The values of a scope's parameters (IEEE 1364-2005, 4.10 and 12.2).
use Rattle.std.specs.Prelude.{ℕ, ◌-◌, Bool, true, false, ◌||◌, List, [], ◌∷◌, ◌++◌, map, max, min, if◌then◌else◌, Option, Some, None}
use Rattle.vs_four.specs.declared.Bit4.TheVariants.{X}
use Rattle.vs_four.specs.declared.Range.{Range}
use Rattle.vs_four.specs.Selects.{range_length}
use Rattle.vs_design.specs.Expressions.{width, sign}
use Rattle.vs_design.specs.Values.{constant_value, assigned_value}
use Rattle.vs_design.specs.Clocks.{same_name}
use Rattle.vs_grammar.specs.Trees.{Name, RangeTree, ValueType, IntegerType, RangeType, expr_place}
use Rattle.vs_const.specs.declared.faults.Fault.{Fault}
use Rattle.vs_const.specs.declared.names.Role.TheVariants.{InModule}
use Rattle.vs_const.specs.Typed.{Typed}
use Rattle.vs_const.specs.Selects.{bounds, address_bounds}
use Rattle.vs_const.specs.Expressions.{constant}
use Rattle.vs_elaborated.specs.Environments.{Declared, Later, OfSignal, OfParameter, OfGenvar, OfInteger, OfFunction, OfScope, Entry, Env, within, up_to, named}
use Rattle.vs_elaborated.specs.Declarations.{ParameterSort, Sort, SignalOf, ParameterOf, FunctionOf, GenvarSort, IntegerSort, InstanceSort, Declaration, Named}
use Rattle.vs_elaborated.specs.Targets.{no_signal}

-- ---- ranges

-- a declared range, None for a scalar; `known` says that no fault leaves it undefined
pub record SaidRange : Type 0 where
  pub range : Option Range
  pub known : Bool
  pub faults : List Fault

-- known where both bounds are
abbrev pub of_bounds : Option Range → List Fault → SaidRange
of_bounds None faults = record { range = None; known = false; faults = faults }
of_bounds (Some r) faults = record { range = Some r; known = true; faults = faults }

-- each bound is a constant
abbrev pub said_range : Option RangeTree → Env → SaidRange
said_range None env = record { range = None; known = true; faults = [] }
said_range (Some t) env =
    let b = bounds t.bracket (expr_place t.left) (constant t.left (named env)) (expr_place t.right) (constant t.right (named env)) in
    of_bounds b.range b.faults

-- addresses in descending order: nothing tells `[0:3]` from `[3:0]`
abbrev pub descending : Range → Range
descending r = record { left = max r.left r.right; right = min r.left r.right }

-- known where both bounds are; those that a fault leaves undefined are taken as 0 alone
abbrev pub of_addresses : Option Range → List Fault → SaidRange
of_addresses None faults = record { range = Some (record { left = 0; right = 0 }); known = false; faults = faults }
of_addresses (Some r) faults = record { range = Some (descending r); known = true; faults = faults }

-- the addresses of a memory (4.9); each bound is a constant
abbrev pub said_addresses : Option RangeTree → Env → SaidRange
said_addresses None env = record { range = None; known = true; faults = [] }
said_addresses (Some t) env =
    let b = address_bounds t.bracket (expr_place t.left) (constant t.left (named env)) (expr_place t.right) (constant t.right (named env)) in
    of_addresses b.range b.faults

-- ---- types (A.2)

-- an integer has 32 bits, signed (4.8)
abbrev pub integer_range : Range
integer_range = record { left = 31; right = 0 }

abbrev pub said_type : ValueType → Env → SaidRange
said_type IntegerType env = record { range = Some integer_range; known = true; faults = [] }
said_type (RangeType signed range) env = said_range range env

abbrev pub is_signed : ValueType → Bool
is_signed IntegerType = true
is_signed (RangeType signed range) = signed

abbrev pub is_integer_type : ValueType → Bool
is_integer_type IntegerType = true
is_integer_type (RangeType signed range) = false

-- ---- one parameter

-- an override, by what it says where its instance stands
pub record Override : Type 0 where
  pub name : List ℕ
  pub typed : Typed

-- the override of this parameter, if there is one
abbrev pub override_of : List Override → List ℕ → Option Typed
override_of [] name = None
override_of (o ∷ os) name = if same_name o.name name then Some o.typed else override_of os name

-- a local parameter isn't overridden (4.10.2)
abbrev pub chosen : ParameterSort → List Override → List ℕ → Typed → Typed
chosen p overrides name default = elim p.is_local [ true ↦ default | false ↦ elim (override_of overrides name) [ None ↦ default | Some t ↦ t ] ]

-- a value converted to the declared range and sign, or else with its own length, and its own sign unless one is declared (12.2.2.1)
abbrev pub converted : Bool → Option Range → Typed → Declared
converted signed (Some r) t = OfParameter (Some (record { bits = assigned_value t.expression (range_length r) (λ b. X); signed = signed })) (Some r)
converted signed None t = OfParameter (Some (record { bits = constant_value t.expression; signed = signed || sign t.expression })) (Some (record { left = width t.expression - 1; right = 0 }))

-- undefined where the range or the value is; then only a known range is kept
abbrev pub declared_if : (known good : Bool) → Bool → Option Range → Typed → Declared
declared_if false good signed range t = OfParameter None None
declared_if true false signed range t = OfParameter None range
declared_if true true signed range t = converted signed range t

-- a parameter of this range and value
abbrev pub parameter_declared : Bool → SaidRange → Typed → Declared
parameter_declared signed r t = declared_if r.known t.good signed r.range t

-- what a parameter is, and the faults of its range and default
pub record SaidParameter : Type 0 where
  pub declared : Declared
  pub faults : List Fault

-- the default is checked also where it is overridden
abbrev pub said_parameter : Env → List Override → Name → ParameterSort → SaidParameter
said_parameter env overrides name p =
    let r = said_type p.value_type env in
    let t = constant p.value (named env) in
    record { declared = parameter_declared (is_signed p.value_type) r (chosen p overrides name.bytes t); faults = r.faults ++ t.faults }

-- ---- all of them

-- the first declaration of a name gives it its value
abbrev pub valued : Declared → Declared → Declared
valued value Later = value
valued value declared = declared

-- this parameter is evaluated now
abbrev pub put_value : List ℕ → Declared → List Entry → List Entry
put_value name value es = map (λ (e : Entry). if same_name e.name name then record e { declared = valued value e.declared } else e) es

-- before anything is known of values, ranges and functions
abbrev pub first_declared : (scope : ℕ) → Sort → Declared
first_declared scope (SignalOf s) = OfSignal (record { signal = no_signal; input = false; role = InModule; known = false })
first_declared scope (ParameterOf p) = Later
first_declared scope (FunctionOf f) = OfFunction None
first_declared scope GenvarSort = OfGenvar
first_declared scope IntegerSort = OfInteger (Some scope)
first_declared scope InstanceSort = OfScope

-- the names in order of declaration
abbrev pub first_entries : (scope : ℕ) → List Named → List Entry
first_entries scope names = map (λ (n : Named). record { name = n.first.name.bytes; place = n.first.name.place; declared = first_declared scope n.first.sort }) names

-- all names with the values so far, and the faults
pub record SaidEntries : Type 0 where
  pub entries : List Entry
  pub faults : List Fault

-- the parameters in text order, each one by those before it
abbrev pub said_parameters : Env → List Override → List Declaration → List Entry → SaidEntries
said_parameters outer overrides [] entries = record { entries = entries; faults = [] }
said_parameters outer overrides (d ∷ ds) entries =
    let s = said d.sort in
    let r = said_parameters outer overrides ds s.entries in
    record { entries = r.entries; faults = s.faults ++ r.faults }
  where
    said : Sort → SaidEntries
    said (ParameterOf p) =
        let v = said_parameter (up_to (within outer entries) d.name.place) overrides d.name p in
        record { entries = put_value d.name.bytes v.declared entries; faults = v.faults }
    said _ = record { entries = entries; faults = [] }
