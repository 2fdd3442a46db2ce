-- Worked functions and calls.
use Rattle.std.specs.Prelude.{◌≡◌, ℕ, true, false, List, [], ◌∷◌, ◌++◌, replicate, ◌&&◌, nat_le, if◌then◌else◌, Option, Some, None, codes}
use Rattle.vs_four.specs.declared.Bit4.TheVariants.{Zero, One, X}
use Rattle.vs_four.specs.declared.Range.{Range}
use Rattle.vs_four.specs.Numbers.{bits_of}
use Rattle.vs_design.specs.Expressions.{Signal, Add, Divide, Greater, ShiftRight, Expression, Name, Binary, Choice, Join, At, Call, items_of, is_constant}
use Rattle.vs_design.specs.Statements.{Whole, Exact, Statement, Empty, Then, If, Case, Arm, Default, Function}
use Rattle.vs_design.specs.Values.{own_value, assigned_value}
use Rattle.vs_design.specs.Designs.{Process, Design}
use Rattle.vs_design.specs.Footprints.{read_bits}
use Rattle.vs_design.specs.Sizes.{weight, size}
use Rattle.vs_design.specs.Sets.{only, known_set}
use Rattle.vs_design.specs.Lifted.{Family, own_sets}
use Rattle.vs_design.specs.Resets.{is_fixed}
use Rattle.vs_design.specs.Accepted.{IsAcceptedDesign}
use Rattle.vs_design.specs.Refusals.{Division, width_refusal, FunctionLatch, block_refusal}
use Rattle.vs_design.specs.ExampleParts.{input_of, wire_of, reg_of, to_zero, clk, clk_signal, lit, dec, sdec, blocking, nonblocking, assign, top_scope, slot_ends}
use Rattle.vs_design.specs.ExampleValues.{all_unknown}

-- ---- local signals by number and first bit; a function's result and its own variables are as variables of the top

abbrev pub local_input : List ℕ → ℕ → Option Range → ℕ → Signal
local_input name number range first = record { name = name; scope = 0; number = number; net = false; input = true; range = range; signed = false; first = first; words = None; integer = false }

abbrev pub function_of : ℕ → List Signal → Signal → List Signal → Statement → Function
function_of place inputs result own statement = record { header = record { place = place; inputs = inputs; result = result; own = own }; statement = statement }

abbrev pub call : Function → List Expression → Expression
call f arguments = Call f.header f.statement (items_of arguments)

abbrev pub design_with : List Function → List Signal → List Process → Design
design_with functions signals processes = record { scopes = top_scope ∷ []; signals = signals; processes = processes; initials = []; functions = functions }

-- ---- `function [3:0] max(input [3:0] u, input [3:0] v); if (u > v) max = u; else max = v; endfunction assign y = max(a, b);`

abbrev pub u4 : Signal
u4 = local_input (codes "u") 0 (to_zero 3) 0

abbrev pub v4 : Signal
v4 = local_input (codes "v") 1 (to_zero 3) 4

abbrev pub max4 : Signal
max4 = reg_of (codes "max") 2 (to_zero 3) 8

abbrev pub max_function : Function
max_function = function_of 69 (u4 ∷ v4 ∷ []) max4 [] (If (Binary Greater (Name u4) (Name v4)) (blocking 130 max4 (Name u4)) (blocking 144 max4 (Name v4)))

abbrev pub a4 : Signal
a4 = input_of (codes "a") 1 (to_zero 3) 1

abbrev pub b4 : Signal
b4 = input_of (codes "b") 2 (to_zero 3) 5

abbrev pub y4 : Signal
y4 = wire_of (codes "y") 3 (to_zero 3) 9

abbrev pub greatest : Design
greatest = design_with (max_function ∷ []) (clk_signal ∷ a4 ∷ b4 ∷ y4 ∷ []) (assign 165 (Whole y4) (call max_function (Name a4 ∷ Name b4 ∷ [])) ∷ [])

-- ---- `function [1:0] half(input [2:0] n); half = n >> 1; endfunction`, and a function that calls it, with a case and a variable of its own:
-- `function [3:0] coded(input [3:0] s, input e); reg [1:0] t; begin t = half(s); case (t) 2'd0: coded = 4'd1; 2'd1, 2'd2: coded = {t, t}; default: coded = e ? 4'd9 : s; endcase end endfunction`

abbrev pub n3 : Signal
n3 = local_input (codes "n") 0 (to_zero 2) 0

abbrev pub half2 : Signal
half2 = reg_of (codes "half") 1 (to_zero 1) 3

abbrev pub half : Function
half = function_of 0 (n3 ∷ []) half2 [] (blocking 0 half2 (Binary ShiftRight (Name n3) (dec 1 1)))

abbrev pub s4 : Signal
s4 = local_input (codes "s") 0 (to_zero 3) 0

abbrev pub e1 : Signal
e1 = local_input (codes "e") 1 None 4

abbrev pub coded4 : Signal
coded4 = reg_of (codes "coded") 2 (to_zero 3) 5

abbrev pub t2 : Signal
t2 = reg_of (codes "t") 3 (to_zero 1) 9

abbrev pub coded : Function
coded = function_of 0 (s4 ∷ e1 ∷ []) coded4 (t2 ∷ [])
    (Then (blocking 0 t2 (call half (Name s4 ∷ [])))
    (Case Exact (Name t2)
    (Arm (items_of (dec 2 0 ∷ [])) (blocking 0 coded4 (dec 4 1))
    (Arm (items_of (dec 2 1 ∷ dec 2 2 ∷ [])) (blocking 0 coded4 (Join (Name t2) (Name t2)))
    (Default (blocking 0 coded4 (Choice (Name e1) (dec 4 9) (Name s4))))))))

-- ---- `function signed [3:0] same(input signed [3:0] n); same = n;`: its input and its result extend by their sign

abbrev pub n4_signed : Signal
n4_signed = record { name = codes "n"; scope = 0; number = 0; net = false; input = true; range = to_zero 3; signed = true; first = 0; words = None; integer = false }

abbrev pub same4 : Signal
same4 = record { name = codes "same"; scope = 0; number = 1; net = false; input = false; range = to_zero 3; signed = true; first = 4; words = None; integer = false }

abbrev pub same : Function
same = function_of 0 (n4_signed ∷ []) same4 [] (blocking 0 same4 (Name n4_signed))

-- ---- `function [3:0] plus(input [3:0] u); plus = u + q; endfunction` reads q of its module: each call passes it

abbrev pub q_passed : Signal
q_passed = record { name = codes "q"; scope = 0; number = 1; net = true; input = true; range = to_zero 3; signed = false; first = 4; words = None; integer = false }

abbrev pub plus4 : Signal
plus4 = reg_of (codes "plus") 2 (to_zero 3) 8

abbrev pub plus : Function
plus = function_of 0 (u4 ∷ q_passed ∷ []) plus4 [] (blocking 0 plus4 (Binary Add (Name u4) (Name q_passed)))

-- ---- refused: `function f(input u); if (u) f = 1'b1; endfunction`, whether or not it is called

abbrev pub u1 : Signal
u1 = local_input (codes "u") 0 None 0

abbrev pub f1 : Signal
f1 = reg_of (codes "f") 1 None 1

abbrev pub latching : Function
latching = function_of 42 (u1 ∷ []) f1 [] (If (Name u1) (blocking 70 f1 (dec 1 1)) Empty)

abbrev pub a1 : Signal
a1 = input_of (codes "a") 1 None 1

abbrev pub y2 : Signal
y2 = wire_of (codes "y") 2 None 2

abbrev pub uncalled_latch : Design
uncalled_latch = design_with (latching ∷ []) (clk_signal ∷ a1 ∷ y2 ∷ []) (assign 92 (Whole y2) (Name a1) ∷ [])

-- `function [3:0] quotient(input [3:0] u, input [3:0] v); quotient = u / v; endfunction assign y = a; assign z = quotient(a, b);`
abbrev pub quotient4 : Signal
quotient4 = reg_of (codes "quotient") 2 (to_zero 3) 8

abbrev pub quotient : Function
quotient = function_of 85 (u4 ∷ v4 ∷ []) quotient4 [] (blocking 140 quotient4 (At 151 (Binary Divide (At 151 (Name u4)) (At 155 (Name v4)))))

abbrev pub z4 : Signal
z4 = wire_of (codes "z") 4 (to_zero 3) 13

abbrev pub divided_by_call : Design
divided_by_call = design_with (quotient ∷ []) (clk_signal ∷ a4 ∷ b4 ∷ y4 ∷ z4 ∷ []) (assign 170 (Whole y4) (Name a4) ∷ assign 184 (Whole z4) (At 195 (call quotient (Name a4 ∷ Name b4 ∷ []))) ∷ [])

-- the same without the call
abbrev pub undivided : Design
undivided = design_with (quotient ∷ []) (clk_signal ∷ a4 ∷ b4 ∷ y4 ∷ []) (assign 170 (Whole y4) (Name a4) ∷ [])

-- the sets {0, 1} for the bits of a, and {0} for those of b
abbrev pub some_sets : Family
some_sets b = if nat_le 1 b && nat_le b 4 then known_set else only Zero

pub record CallsComputed : Type 0 where
  -- its arguments 0, its inputs 8, its `if` 1 and 4, its condition 12, its two assignments 8; with the inputs' 9 bits and the assign's 4 the design has 46
  pub max_weighs : weight (call max_function (Name a4 ∷ Name b4 ∷ [])) 4 ≡ 33
  pub greatest_size : size greatest ≡ 46
  pub greatest_accepted : IsAcceptedDesign greatest clk
  -- of a = 3 and b = 5 it is 5, in both slots
  pub greatest_ends : slot_ends greatest (Zero ∷ bits_of 4 3 ++ bits_of 4 5) [] ≡ (Zero ∷ bits_of 4 3 ++ (bits_of 4 5 ++ bits_of 4 5)) ∷ (One ∷ bits_of 4 3 ++ (bits_of 4 5 ++ bits_of 4 5)) ∷ []
  -- of an unknown argument the test is x, so the second branch is taken
  pub max_of_unknown : own_value (call max_function (lit (X ∷ Zero ∷ Zero ∷ Zero ∷ []) ∷ dec 4 5 ∷ [])) all_unknown ≡ bits_of 4 5
  -- what is read is what the arguments read
  pub max_reads : read_bits (call max_function (Name a4 ∷ Name b4 ∷ [])) ≡ 1 ∷ 2 ∷ 3 ∷ 4 ∷ 5 ∷ 6 ∷ 7 ∷ 8 ∷ []
  -- an argument is converted as by an assignment: `half(4'd9)` has an n of `3'd1`, `half(4'd13)` one of `3'd5`
  pub argument_cut : own_value (call half (dec 4 9 ∷ [])) all_unknown ≡ bits_of 2 0
  pub argument_kept : own_value (call half (dec 4 13 ∷ [])) all_unknown ≡ bits_of 2 2
  -- each arm of `coded`: t is 0, 2, 3, and x, which no item matches
  pub coded_first : own_value (call coded (dec 4 8 ∷ dec 1 0 ∷ [])) all_unknown ≡ bits_of 4 1
  pub coded_second : own_value (call coded (dec 4 4 ∷ dec 1 0 ∷ [])) all_unknown ≡ bits_of 4 10
  pub coded_default : own_value (call coded (dec 4 7 ∷ dec 1 1 ∷ [])) all_unknown ≡ bits_of 4 9
  pub coded_of_unknown : own_value (call coded (lit (X ∷ X ∷ X ∷ X ∷ []) ∷ dec 1 1 ∷ [])) all_unknown ≡ bits_of 4 9
  -- a call within a call: `max(half(3'd7), 2'd2)`
  pub called_in_argument : own_value (call max_function (call half (dec 3 7 ∷ []) ∷ dec 2 2 ∷ [])) all_unknown ≡ bits_of 4 3
  -- an argument is extended by its own sign, and a call by its function's: `same(2'sb11)` is `4'sb1111`, and into six bits all ones
  pub argument_extended : own_value (call same (sdec 2 3 ∷ [])) all_unknown ≡ bits_of 4 15
  pub result_extended : assigned_value (call same (sdec 2 3 ∷ [])) 6 all_unknown ≡ bits_of 6 63
  pub result_in_unsigned : assigned_value (Binary Add (call same (sdec 2 3 ∷ [])) (dec 6 0)) 6 all_unknown ≡ bits_of 6 15
  pub argument_unsigned : own_value (call same (dec 2 3 ∷ [])) all_unknown ≡ bits_of 4 3
  -- with q in b: the input's 4 bits and the assignment's 4 and 16, and nothing for q, which is read where the call stands
  pub passed_weighs : weight (call plus (Name a4 ∷ Name b4 ∷ [])) 4 ≡ 24
  pub passed_reads : read_bits (call plus (Name a4 ∷ Name b4 ∷ [])) ≡ 1 ∷ 2 ∷ 3 ∷ 4 ∷ 5 ∷ 6 ∷ 7 ∷ 8 ∷ []
  pub passed_value : own_value (call plus (dec 4 9 ∷ dec 4 3 ∷ [])) all_unknown ≡ bits_of 4 12
  -- a result that isn't assigned is x
  pub result_unassigned : own_value (call latching (dec 1 0 ∷ [])) all_unknown ≡ X ∷ []
  -- a call isn't constant, and a reset's branch may have none
  pub never_constant : is_constant (call half (dec 3 1 ∷ [])) ≡ false
  pub never_fixed : is_fixed (nonblocking 0 y4 (call half (dec 3 1 ∷ []))) ≡ false
  -- the sets of a call are those that its statement leaves: where a may be any known number and b is 0, either branch may be taken
  pub call_sets : own_sets (call max_function (Name a4 ∷ Name b4 ∷ [])) some_sets ≡ replicate 4 known_set
  pub call_of_zeros : own_sets (call max_function (Name b4 ∷ Name b4 ∷ [])) some_sets ≡ replicate 4 (only Zero)
  -- a function that may latch is refused at its place, though nothing calls it
  pub uncalled_latch_refused : block_refusal uncalled_latch ≡ Some (FunctionLatch 42)
  -- a division in a function counts with the first process that calls it, and with none where none does
  pub divided_by_call_refused : width_refusal divided_by_call ≡ Some (Division 151)
  pub undivided_passes : width_refusal undivided ≡ None
