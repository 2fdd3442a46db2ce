-- Values of constant expressions (IEEE 1364-2005, 4.10 and 5.4.1).
use Rattle.std.specs.Prelude.{◌≡◌, ◌≤◌, ℕ, Bool, true, false, ℤ, Option, Some, None, Result, Ok, Err}
use Rattle.vs_four.specs.declared.Bit4.TheVariants.{X}
use Rattle.vs_design.specs.Expressions.{Expression, width, sign}
use Rattle.vs_design.specs.Values.{constant_value, value}
use Rattle.vs_grammar.specs.Trees.{Expr}
use Rattle.vs_base.specs.declared.contexts.Context.{Context}
use Rattle.vs_const.specs.declared.error.ConstError.{ConstError}
use Rattle.vs_const.specs.declared.error.ConstError.TheVariants.{Broken, Memory}
use Rattle.vs_const.specs.declared.faults.Fault.{Fault}
use Rattle.vs_const.specs.declared.names.Constant.{Constant}
use Rattle.vs_const.specs.Faults.{least}
use Rattle.vs_const.specs.Meanings.{ConstantValue, Find}
use Rattle.vs_const.specs.Typed.{Typed}
use Rattle.vs_const.specs.Expressions.{constant, number}

-- ---- contexts

-- an expression may stand by itself, or in a length and a sign
abbrev pub width_in : Expression → Option Context → ℕ
width_in e None = width e
width_in e (Some s) = s.width

-- its value and sign there
abbrev pub value_in : Expression → Option Context → ConstantValue
value_in e None = record { bits = constant_value e; signed = sign e }
value_in e (Some s) = record { bits = value e s.width s.signed (λ b. X); signed = s.signed }

-- a context has at most 64 bits, and is no shorter than the expression
pub record HasRoom (t : Typed) (s : Context) : Type 0 where
  pub most : s.width ≤ 64
  pub fits : t.good ≡ true → width t.expression ≤ s.width

-- ---- answers

-- the first fault, or what is found where there is none
abbrev pub unless_fault : {A : Type 0} → Option Fault → A → Result A Fault
unless_fault None found = Ok found
unless_fault (Some fault) found = Err fault

-- no value where the names leave it undefined
abbrev pub value_if : (good : Bool) → Expression → Option Context → Option ConstantValue
value_if false e context = None
value_if true e context = Some (value_in e context)

-- of a needed constant
abbrev pub constant_answer : Expr → Find → Option Context → Result (Option ConstantValue) Fault
constant_answer e find context = let t = constant e find in unless_fault (least t.faults) (value_if t.good t.expression context)

-- no number where the names leave the value undefined
abbrev pub number_answer : Expr → Find → Result (Option ℤ) Fault
number_answer e find = let n = number e find in unless_fault (least n.faults) n.number

-- ---- what the calls answer

-- a value, of which there may be none
abbrev pub value_of : Option Constant → Option ConstantValue
value_of None = None
value_of (Some c) = Some (record { bits = c.bits; signed = c.signed })

-- an error is the fault of the answer; want of memory says nothing
abbrev pub IsErrorOf : {A : Type 0} → ConstError → Result A Fault → Type 0
IsErrorOf (Broken fault) answer = answer ≡ Err fault
IsErrorOf Memory answer = Unit {0}
