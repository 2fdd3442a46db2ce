-- What a generate loop does at one value of its variable (IEEE 1364-2005, 12.4.1).
use Rattle.std.specs.Prelude.{◌≡◌, ℕ, ◌+◌, Bool, true, false, ◌&&◌, ◌||◌, List, ◌++◌, nat_lt, Option, Some, None, if◌then◌else◌}
use Rattle.vs_four.specs.Logic.{BitList, all_known}
use Rattle.vs_four.specs.Numbers.{integer}
use Rattle.vs_grammar.specs.Trees.{LoopHead}
use Rattle.vs_const.specs.declared.faults.Fault.{Fault}
use Rattle.vs_const.specs.Faults.{fault, least}
use Rattle.vs_const.specs.declared.rules.Rule.TheVariants.{UnknownConstant, DuplicateName, GenerateTurns}
use Rattle.vs_const.specs.Typed.{Natural, natural_within}
use Rattle.vs_const.specs.Expressions.{number}
use Rattle.vs_elaborated.specs.Limits.{the_limits}
use Rattle.vs_elaborated.specs.Environments.{Env, named}
use Rattle.vs_elaborated.specs.Loops as spec
use Rattle.vs_elaborated.specs.Loops.{holds, step}
use Rattle.vs_scope.specs.declared.turns.Turned.{Turned as TurnedOf}
use Rattle.vs_scope.specs.declared.turns.Turns.{Turns}

-- the number of a value that is assigned to a genvar, by its own bits and those that the genvar gets
abbrev pub assigned_natural : ℕ → BitList → BitList → Natural
assigned_natural place own bits = if all_known own && all_known bits then natural_within 0 2147483647 place (Some (integer true bits)) else (record { number = None; faults = fault UnknownConstant place })

-- whether a turn is taken, the value that the loop goes on with, and the count of all turns then
pub record Turned : Type 0 where
  pub taken : Bool
  pub next : Option ℕ
  pub faults : List Fault
  pub count : ℕ

-- the loop ends
abbrev pub ended : List Fault → ℕ → Turned
ended faults count = record { taken = false; next = None; faults = faults; count = count }

-- where the test holds; `is_last`: the loop may take no more turns
abbrev pub taken_turn : (is_last : Bool) → LoopHead → (is_same : Bool) → (inside : Env) → (test : List Fault) → (total : ℕ) → Turned
taken_turn is_last head is_same inside test total =
    elim (is_last || nat_lt the_limits.all_turns (total + 1)) [
      | true ↦ ended (test ++ fault GenerateTurns head.place) (total + 1)
      | false ↦ let next = step is_same head inside in record { taken = true; next = next.number; faults = test ++ next.faults; count = total + 1 }
    ]

-- at one value; `again`: the loop had it before
abbrev pub turned : (again is_last : Bool) → LoopHead → (is_same : Bool) → (inside : Env) → (total : ℕ) → Turned
turned again is_last head is_same inside total =
    let test = number head.test (named inside) in
    elim again [
      | true ↦ ended (fault DuplicateName head.place) total
      | false ↦ elim (holds test.number) [ false ↦ ended test.faults total | true ↦ taken_turn is_last head is_same inside test.faults total ]
    ]

-- as the code finds it
pub record IsTurned (c : TurnedOf) (t : Turned) : Type 0 where
  pub taken : c.taken ≡ t.taken
  pub next : c.next ≡ t.next
  pub fault : c.fault ≡ least t.faults
  pub count : c.count ≡ t.count

-- of all turns
pub record AreTurns (c : Turns) (t : spec.Turns) : Type 0 where
  pub values : c.values.items ≡ t.values
  pub fault : c.fault ≡ least t.faults
  pub count : c.count ≡ t.count
