-- Worked sizes: what each kind of expression, assignment, statement and process weighs, and what bits of inputs and registers do.
use Rattle.std.specs.Prelude.{◌≡◌, ℕ, List, [], ◌∷◌, None, codes, map, replicate}
use Rattle.vs_four.specs.Selects.{one_bit}
use Rattle.vs_design.specs.Expressions.{Signal, OfSignal, UnaryOp, Plus, Minus, BitNot, LogicalNot, ReduceAnd, ReduceNand, ReduceOr, ReduceNor, ReduceXor, ReduceXnor, Signed, Unsigned, BinaryOp, Add, Subtract, Multiply, BitAnd, BitOr, BitXor, BitXnor, Less, LessEqual, Greater, GreaterEqual, Equal, NotEqual, CaseEqual, CaseNotEqual, LogicalAnd, LogicalOr, ShiftLeft, ShiftRight, ShiftLeftArith, ShiftRightArith, Expression, Name, Select, Unary, Binary, Choice, Join, Repeat, At, items_of}
use Rattle.vs_design.specs.Statements.{Whole, PartOf, Both, Exact, Statement, Then, If, Case, Arm, Default}
use Rattle.vs_design.specs.Designs.{InputPort, Continuous, Design}
use Rattle.vs_design.specs.Sizes.{weight, assignment_weight, statement_weight, process_weight, size}
use Rattle.vs_design.specs.ExampleParts.{input_of, reg_of, range_of, to_zero, clk_signal, dec, plain, upward, blocking, nonblocking, assign, on_posedge, on_star, design_of}

-- ---- signals of 2, 3, 4 and 8 bits

abbrev pub c2 : Signal
c2 = input_of (codes "c") 1 (to_zero 1) 1

abbrev pub i3 : Signal
i3 = input_of (codes "i") 2 (to_zero 2) 3

abbrev pub a4 : Signal
a4 = input_of (codes "a") 3 (to_zero 3) 6

abbrev pub b8 : Signal
b8 = input_of (codes "b") 4 (to_zero 7) 10

abbrev pub d8 : Signal
d8 = input_of (codes "d") 5 (to_zero 7) 18

abbrev pub y4 : Signal
y4 = reg_of (codes "y") 6 (to_zero 3) 26

abbrev pub z8 : Signal
z8 = reg_of (codes "z") 7 (to_zero 7) 30

abbrev pub of_b : UnaryOp → Expression
of_b op = Unary op (Name b8)

abbrev pub b_and_d : BinaryOp → Expression
b_and_d op = Binary op (Name b8) (Name d8)

abbrev pub b_by_a : BinaryOp → Expression
b_by_a op = Binary op (Name b8) (Name a4)

abbrev pub b_by_i : BinaryOp → Expression
b_by_i op = Binary op (Name b8) (Name i3)

-- what each weighs in a context of 8 bits
abbrev pub in_eight : List Expression → List ℕ
in_eight es = map (λ e. weight e 8) es

-- `case (b) d, 8'd1: y = a; 8'd2: y = a; default: y = a; endcase`
abbrev pub a_case : Statement
a_case = Case Exact (Name b8) (Arm (items_of (Name d8 ∷ dec 8 1 ∷ [])) (blocking 0 y4 (Name a4)) (Arm (items_of (dec 8 2 ∷ [])) (blocking 0 y4 (Name a4)) (Default (blocking 0 y4 (Name a4)))))

abbrev pub d1_input : Signal
d1_input = input_of (codes "d") 1 None 1

abbrev pub q2_register : Signal
q2_register = reg_of (codes "q") 2 None 2

abbrev pub y3_variable : Signal
y3_variable = reg_of (codes "y") 3 None 3

-- `always @(posedge clk) q <= d; always @* y = q & (q & 1'b0);`: the block waits on one bit, though it names it twice
abbrev pub waits_once : Design
waits_once = design_of (clk_signal ∷ d1_input ∷ q2_register ∷ y3_variable ∷ [])
    (on_posedge 60 clk_signal (nonblocking 82 q2_register (Name d1_input)) ∷ on_star 90 (blocking 100 y3_variable (Binary BitAnd (Name q2_register) (Binary BitAnd (Name q2_register) (dec 1 0)))) ∷ [])

pub record SizesComputed : Type 0 where
  -- names, literals, constant expressions, selects and shifts by a constant, concatenations, `$signed`, `$unsigned` and unary `+` weigh nothing
  pub nothing : in_eight (Name b8 ∷ dec 8 5 ∷ Binary Add (dec 8 1) (dec 8 2) ∷ Select (OfSignal b8) (upward (range_of 7 0) 4) (plain 2) ∷ Binary ShiftLeft (Name b8) (plain 3) ∷ Join (Name a4) (Name a4) ∷ of_b Signed ∷ of_b Unsigned ∷ of_b Plus ∷ []) ≡ replicate 9 0
  -- but their operands do: `{b & d, ~b}`, and `{3{b & d}}` once
  pub joined : weight (Join (b_and_d BitAnd) (of_b BitNot)) 16 ≡ 16
  pub repeated : weight (Repeat 3 (b_and_d BitAnd)) 24 ≡ 8
  pub shifted_by_constant : weight (Binary ShiftRight (b_and_d BitXor) (plain 1)) 8 ≡ 8
  -- `& | ^ ~^ ~` one a bit
  pub bitwise : in_eight (b_and_d BitAnd ∷ b_and_d BitOr ∷ b_and_d BitXor ∷ b_and_d BitXnor ∷ of_b BitNot ∷ []) ≡ replicate 5 8
  pub bitwise_wider : weight (b_and_d BitAnd) 9 ≡ 9
  -- a reduction two a bit of its operand
  pub reductions : in_eight (of_b ReduceAnd ∷ of_b ReduceNand ∷ of_b ReduceOr ∷ of_b ReduceNor ∷ of_b ReduceXor ∷ of_b ReduceXnor ∷ []) ≡ replicate 6 16
  -- `!` one a bit of its operand, `&&` and `||` one a bit of both and one more
  pub logical : in_eight (of_b LogicalNot ∷ b_by_a LogicalAnd ∷ b_by_a LogicalOr ∷ []) ≡ 8 ∷ 13 ∷ 13 ∷ []
  -- equalities two a bit of the longer operand, orders three
  pub equalities : in_eight (b_by_a Equal ∷ b_by_a NotEqual ∷ b_by_a CaseEqual ∷ b_by_a CaseNotEqual ∷ []) ≡ replicate 4 16
  pub orders : in_eight (b_by_a Less ∷ b_by_a LessEqual ∷ b_by_a Greater ∷ b_by_a GreaterEqual ∷ []) ≡ replicate 4 24
  -- sums and differences four a bit of the context, a product four for each pair of bits
  pub sums : in_eight (b_and_d Add ∷ b_and_d Subtract ∷ of_b Minus ∷ []) ≡ replicate 3 32
  pub sum_wider : weight (b_and_d Add) 9 ≡ 36
  pub products : weight (b_and_d Multiply) 8 ≡ 256
  -- a shift by m bits: the context's length times m + 1, and m
  pub shifts : in_eight (b_by_i ShiftLeft ∷ b_by_i ShiftRight ∷ b_by_i ShiftLeftArith ∷ b_by_i ShiftRightArith ∷ []) ≡ replicate 4 35
  -- a select of k bits from n by an index of m: k n m
  pub selects : in_eight (Select (OfSignal b8) (one_bit (range_of 7 0)) (Name i3) ∷ Select (OfSignal b8) (upward (range_of 7 0) 4) (Name i3) ∷ []) ≡ 24 ∷ 96 ∷ []
  -- `c ? b : d`: the context's length and the condition's
  pub choice : weight (Choice (Name c2) (Name b8) (Name d8)) 8 ≡ 10
  -- operands are added: `(b & d) + ~b`
  pub operands : weight (Binary Add (b_and_d BitAnd) (of_b BitNot)) 8 ≡ 48
  -- an assignment one a bit of its target, and what its right side weighs in the longer of both
  pub assignment : assignment_weight (Whole z8) (Name b8) ≡ 8
  pub assigned : assignment_weight (Whole z8) (Binary BitAnd (Name a4) (Name a4)) ≡ 16
  -- with a variable index k n (m + 1) more for each selected part: `z[i]`, `z[i +: 4]`, `{y, z[i]}`
  pub indexed : assignment_weight (PartOf z8 (one_bit (range_of 7 0)) (Name i3)) (Name b8) ≡ 33
  pub indexed_part : assignment_weight (PartOf z8 (upward (range_of 7 0) 4) (Name i3)) (Name b8) ≡ 132
  pub indexed_by_constant : assignment_weight (PartOf z8 (upward (range_of 7 0) 4) (plain 1)) (Name b8) ≡ 4
  pub joined_target : assignment_weight (Both (Whole y4) (PartOf z8 (one_bit (range_of 7 0)) (Name i3))) (Name b8) ≡ 37
  -- an `if`: its condition, the bits that either branch writes, and both branches: `if (c) y = a; else z = b;`, `if (c) y = a; else y = a;`
  pub if_apart : statement_weight (If (Name c2) (blocking 0 y4 (Name a4)) (blocking 0 z8 (Name b8))) ≡ 26
  pub if_alike : statement_weight (If (Name c2) (blocking 0 y4 (Name a4)) (blocking 0 y4 (Name a4))) ≡ 14
  -- a case: 9 for each of three items of 8 bits, the 4 bits that it writes for each of two arms with items, and three assignments
  pub cases : statement_weight a_case ≡ 47
  -- an assign, also of a port; a combinational block, and the bits that it writes besides; a clocked one
  pub of_assign : process_weight (assign 0 (Whole y4) (Name a4)) ≡ 4
  pub of_port : process_weight (Continuous 0 InputPort 0 (Whole y4) (At 0 (Name a4))) ≡ 4
  pub of_block : process_weight (on_star 0 (Then (blocking 0 y4 (Name a4)) (blocking 0 y4 (Name a4)))) ≡ 12
  pub of_clocked : process_weight (on_posedge 0 clk_signal (nonblocking 0 y4 (Name a4))) ≡ 4
  -- a bit of an input 1, the clock's too; a register's bit 2
  pub of_input : size (design_of (clk_signal ∷ d1_input ∷ []) []) ≡ 2
  pub of_register : size (design_of (clk_signal ∷ d1_input ∷ q2_register ∷ []) (on_posedge 60 clk_signal (nonblocking 82 q2_register (Name d1_input)) ∷ [])) ≡ 5
  -- a sleeping block: each bit that it waits on, 1, and the bits that it writes once more
  pub of_sleeper : size waits_once ≡ 12
