-- What a part of an expression says: the expression of a design that it stands for, its length, and its faults.
use Rattle.std.specs.Prelude.{ℕ, ◌+◌, ◌*◌, Bool, true, false, not, ◌&&◌, List, [], ◌++◌, max, if◌then◌else◌, nat_lt, nat_le, ◌==◌, ℤ, pos, negsuc, Option, Some, None}
use Rattle.vs_four.specs.Logic.{BitList, all_known}
use Rattle.vs_four.specs.Numbers.{integer}
use Rattle.vs_design.specs.Expressions.{Expression, Literal, Unary, Binary, Choice, Join, Repeat, At, UnaryOp, unary_length, BinaryOp, Way, InContext, Shifted, Raised, way, width, sign}
use Rattle.vs_design.specs.Values.{constant_value}
use Rattle.vs_const.specs.declared.faults.Fault.{Fault}
use Rattle.vs_const.specs.Faults.{fault, fault_if, names_signal, BadRange, UnknownConstant}

-- a fault may leave the length or the value undefined; `good` says that the value isn't
pub record Typed : Type 0 where
  pub expression : Expression
  pub length : Option ℕ
  pub good : Bool
  pub faults : List Fault

-- what stands for an expression that a fault leaves undefined
abbrev pub nothing : Expression
nothing = Literal [] false true

-- an expression without a value
abbrev pub broken : Option ℕ → List Fault → Typed
broken length faults = record { expression = nothing; length = length; good = false; faults = faults }

-- an expression with a value
abbrev pub fine : Expression → List Fault → Typed
fine e faults = record { expression = e; length = Some (width e); good = true; faults = faults }

-- ---- where it begins, and how long it may be

-- an expression begins at its outermost bracket
abbrev pub begins_at : ℕ → Expression → Expression
begins_at place (At inner e) = At place e
begins_at place e = At place e

-- a known length over so many
abbrev pub is_over : ℕ → Option ℕ → Bool
is_over most None = false
is_over most (Some n) = nat_lt most n

-- an expression that begins at this place; where a constant is needed it has at most 64 bits, but what names a signal is no constant, whatever its length
abbrev pub noted : Bool → ℕ → Typed → Typed
noted needed place t =
    let long = needed && is_over 64 t.length in
    record { expression = begins_at place t.expression; length = t.length; good = t.good && not long; faults = t.faults ++ fault_if (long && not (names_signal t.faults)) BadRange place }

-- ---- numbers

-- the number of a needed constant; none where a fault leaves it undefined
pub record Numbered : Type 0 where
  pub number : Option ℤ
  pub faults : List Fault

-- the number of bits that are known, or a fault
abbrev pub number_known : (known : Bool) → BitList → Bool → ℕ → Numbered
number_known true bits signed place = record { number = Some (integer signed bits); faults = [] }
number_known false bits signed place = record { number = None; faults = fault UnknownConstant place }

-- of bits
abbrev pub known_number : BitList → Bool → ℕ → Numbered
known_number bits signed place = number_known (all_known bits) bits signed place

-- of an expression with a value
abbrev pub number_if : (good : Bool) → ℕ → Typed → Numbered
number_if false place t = record { number = None; faults = t.faults }
number_if true place t = let n = known_number (constant_value t.expression) (sign t.expression) place in record { number = n.number; faults = t.faults ++ n.faults }

-- of an expression at this place
abbrev pub number_of : ℕ → Typed → Numbered
number_of place t = number_if t.good place t

-- a number from `low` to `high`
pub record Natural : Type 0 where
  pub number : Option ℕ
  pub faults : List Fault

-- the number, if it is within the bounds
abbrev pub natural_if : (within : Bool) → ℕ → ℕ → Natural
natural_if true place n = record { number = Some n; faults = [] }
natural_if false place n = record { number = None; faults = fault BadRange place }

-- of a number that may be undefined
abbrev pub natural_within : (low high place : ℕ) → Option ℤ → Natural
natural_within low high place None = record { number = None; faults = [] }
natural_within low high place (Some (pos n)) = natural_if (nat_le low n && nat_le n high) place n
natural_within low high place (Some (negsuc n)) = record { number = None; faults = fault BadRange place }

-- of an expression at this place
abbrev pub natural : (low high place : ℕ) → Typed → Natural
natural low high place t =
    let n = number_of place t in
    let r = natural_within low high place n.number in
    record { number = r.number; faults = n.faults ++ r.faults }

-- ---- operators

-- a length of two, where both are known
abbrev pub both_lengths : (ℕ → ℕ → ℕ) → Option ℕ → Option ℕ → Option ℕ
both_lengths f (Some m) (Some n) = Some (f m n)
both_lengths f _ _ = None

-- a length of one, where it is known
abbrev pub length_map : (ℕ → ℕ) → Option ℕ → Option ℕ
length_map f (Some m) = Some (f m)
length_map f None = None

-- an operator that gives one bit gives it whatever its operand
abbrev pub unary_op_length : UnaryOp → Option ℕ → Option ℕ
unary_op_length op None = if unary_length op 0 == 1 then Some 1 else None
unary_op_length op (Some n) = Some (unary_length op n)

-- an operator on one operand
abbrev pub unary_typed : UnaryOp → Typed → Typed
unary_typed op a = record { expression = Unary op a.expression; length = unary_op_length op a.length; good = a.good; faults = a.faults }

-- the length of an operator on two operands, by how it takes them (table 5-22)
abbrev pub binary_way_length : Way → Option ℕ → Option ℕ → Option ℕ
binary_way_length InContext m n = both_lengths max m n
binary_way_length Shifted m n = m
binary_way_length Raised m n = m
binary_way_length _ m n = Some 1

-- an operator on two operands
abbrev pub binary_typed : BinaryOp → Typed → Typed → Typed
binary_typed op a b = record { expression = Binary op a.expression b.expression; length = binary_way_length (way op) a.length b.length; good = a.good && b.good; faults = a.faults ++ b.faults }

-- `c ? p : q` (5.1.13)
abbrev pub choice_typed : Typed → Typed → Typed → Typed
choice_typed c p q =
    record { expression = Choice c.expression p.expression q.expression; length = both_lengths max p.length q.length; good = c.good && (p.good && q.good); faults = c.faults ++ (p.faults ++ q.faults) }

-- `{high, low}` (5.1.14)
abbrev pub join_typed : Typed → Typed → Typed
join_typed high low = record { expression = Join high.expression low.expression; length = both_lengths ◌+◌ high.length low.length; good = high.good && low.good; faults = high.faults ++ low.faults }

-- `{n{..}}`, and `{..}` with n = 1
abbrev pub copies_typed : ℕ → Typed → Typed
copies_typed n t = record { expression = Repeat n t.expression; length = length_map (λ m. n * m) t.length; good = t.good; faults = t.faults }
