-- Generate loops (IEEE 1364-2005, 12.4.1).
use Rattle.std.specs.Prelude.{ℕ, zero, suc, ◌+◌, Bool, true, false, not, ◌&&◌, ◌||◌, List, [], ◌∷◌, ◌++◌, codes, if◌then◌else◌, ◌==◌, nat_lt, ℤ, pos, negsuc, Option, Some, None}
use Rattle.std.specs.List.{list_any}
use Rattle.vs_four.specs.declared.Bit4.TheVariants.{X}
use Rattle.vs_four.specs.Logic.{BitList, all_known}
use Rattle.vs_four.specs.Numbers.{integer}
use Rattle.vs_design.specs.Values.{constant_value, assigned_value}
use Rattle.vs_design.specs.Clocks.{same_name}
use Rattle.vs_grammar.specs.Trees.{Name, Expr, LoopHead, expr_place}
use Rattle.vs_const.specs.declared.faults.Fault.{Fault}
use Rattle.vs_const.specs.Faults.{fault}
use Rattle.vs_const.specs.declared.rules.Rule.TheVariants.{UnknownConstant, UnknownName, DuplicateName, GenerateTurns, WrongKind}
use Rattle.vs_const.specs.Typed.{Typed, Natural, natural_within}
use Rattle.vs_const.specs.Expressions.{constant, number}
use Rattle.vs_elaborated.specs.Limits.{Limits}
use Rattle.vs_elaborated.specs.Environments.{Declared, OfGenvar, Entry, Env, with_turn, find_name, named}
use Rattle.vs_elaborated.specs.Generate.{Nested, BlockName, Made, nothing_made, after_faults, decimal, Block}

-- ---- values

-- a value assigned to a genvar: converted to 32 bits, signed, and not negative
abbrev pub genvar_number : ℕ → Typed → Natural
genvar_number place t = elim t.good [ false ↦ record { number = None; faults = t.faults } | true ↦ checked (constant_value t.expression) (assigned_value t.expression 32 (λ b. X)) ]
  where
    checked : BitList → BitList → Natural
    checked own bits =
        if all_known own && all_known bits
        then (let n = natural_within 0 2147483647 place (Some (integer true bits)) in record { number = n.number; faults = t.faults ++ n.faults })
        else record { number = None; faults = t.faults ++ fault UnknownConstant place }

-- of an expression where the loop stands
abbrev pub genvar_value : Expr → Env → Natural
genvar_value e env = genvar_number (expr_place e) (constant e (named env))

-- a condition is a number that isn't 0
abbrev pub is_zero : ℤ → Bool
is_zero (pos n) = n == 0
is_zero (negsuc n) = false

-- whether a condition holds; a number that is left undefined holds no condition
abbrev pub holds : Option ℤ → Bool
holds None = false
holds (Some z) = not (is_zero z)

-- ---- turns

-- the values that the variable takes, and the count of all loops' turns behind them
pub record Turns : Type 0 where
  pub values : List ℕ
  pub faults : List Fault
  pub count : ℕ

-- the loop ends
abbrev pub no_turn : List Fault → ℕ → Turns
no_turn faults count = record { values = []; faults = faults; count = count }

-- one turn before others
abbrev pub and_turn : ℕ → List Fault → Turns → Turns
and_turn v faults t = record { values = v ∷ t.values; faults = faults ++ t.faults; count = t.count }

-- the value of the next turn; where the second assignment is to another variable, it has none
abbrev pub step : (is_same : Bool) → LoopHead → Env → Natural
step false head inside = record { number = None; faults = [] }
step true head inside = genvar_value head.next inside

-- the turns from value v on. `seen` are the values before it, `total` counts the turns of all loops so far, and `left` those that this loop may still take
abbrev pub turns_from : (left : ℕ) → Limits → LoopHead → (is_same : Bool) → (genvar : ℕ) → Env → (seen : List ℕ) → (total v : ℕ) → Turns
turns_from zero limits head is_same genvar env seen total v = no_turn (fault GenerateTurns head.place) total
turns_from (suc left) limits head is_same genvar env seen total v =
    let inside = with_turn env (record { genvar = genvar; value = v }) in
    let test = number head.test (named inside) in
    elim (list_any (λ u. u == v) seen) [
      | true ↦ no_turn (fault DuplicateName head.place) total
      | false ↦ elim (holds test.number) [
        | false ↦ no_turn test.faults total
        | true ↦ elim ((left == 0) || nat_lt limits.all_turns (total + 1)) [
          | true ↦ no_turn (test.faults ++ fault GenerateTurns head.place) (total + 1)
          | false ↦ let next = step is_same head inside in
              and_turn v (test.faults ++ next.faults) (elim next.number [ None ↦ no_turn [] (total + 1) | Some u ↦ turns_from left limits head is_same genvar env (v ∷ seen) (total + 1) u ])
        ]
      ]
    ]

-- ---- blocks

-- `name[v]`
abbrev pub indexed : List ℕ → ℕ → List ℕ
indexed name v = name ++ (codes "[" ++ (decimal v ++ codes "]"))

-- a block for each value
abbrev pub turn_blocks : Block → (genvar : ℕ) → List ℕ → List Nested
turn_blocks b genvar [] = []
turn_blocks b genvar (v ∷ vs) = record { name = indexed b.name.name v; items = b.items; turn = Some (record { genvar = genvar; value = v }) } ∷ turn_blocks b genvar vs

-- a loop without a turn declares no name
abbrev pub turn_names : BlockName → List ℕ → List BlockName
turn_names name [] = []
turn_names name (v ∷ vs) = name ∷ []

-- a loop over `;` makes none
abbrev pub loop_blocks : Option Block → (genvar : ℕ) → Turns → Made
loop_blocks None genvar t = nothing_made t.faults t.count
loop_blocks (Some b) genvar t = record { blocks = turn_blocks b genvar t.values; names = turn_names b.name t.values; faults = t.faults; turns = t.count }

-- ---- the head

-- where the loop's variable is declared, if it is a genvar
pub record Variable : Type 0 where
  pub genvar : Option ℕ
  pub faults : List Fault

-- a loop's variable is a genvar
abbrev pub variable_of : ℕ → Option Entry → Variable
variable_of place None = record { genvar = None; faults = fault UnknownName place }
variable_of place (Some e) = of_declared e.declared
  where
    of_declared : Declared → Variable
    of_declared OfGenvar = record { genvar = Some e.place; faults = [] }
    of_declared _ = record { genvar = None; faults = fault WrongKind place }

-- a name that is declared is of the wrong kind
abbrev pub declared_or : ℕ → Option Entry → List Fault
declared_or place None = fault UnknownName place
declared_or place (Some e) = fault WrongKind place

-- the second assignment is to the same variable
abbrev pub again_faults : Name → Name → Env → List Fault
again_faults variable again env = if same_name variable.bytes again.bytes then [] else declared_or again.place (find_name env.frames again.bytes)

-- the blocks of a loop whose variable is a genvar with a first value
abbrev pub loop_from : Limits → LoopHead → Option ℕ → Option ℕ → List Fault → Option Block → Env → ℕ → Made
loop_from limits head (Some genvar) (Some v) faults block env total =
    after_faults faults (loop_blocks block genvar (turns_from (suc limits.turns) limits head (same_name head.variable.bytes head.again.bytes) genvar env [] total v))
loop_from limits head _ _ faults block env total = nothing_made faults total

-- `for (variable = first; test; again = next) block`
abbrev pub loop_made : Limits → LoopHead → Option Block → Env → ℕ → Made
loop_made limits head block env total =
    let v = variable_of head.variable.place (find_name env.frames head.variable.bytes) in
    let first = genvar_value head.first env in
    loop_from limits head v.genvar first.number (v.faults ++ (again_faults head.variable head.again env ++ first.faults)) block env total
