-- Worked designs: their sizes, that they are accepted, and the values at the end of each slot.
use Rattle.std.specs.Prelude.{◌≡◌, ℕ, true, false, List, [], ◌∷◌, None, Some, codes, map, drop, replicate}
use Rattle.vs_four.specs.declared.Bit4.TheVariants.{Zero, One, X, Z}
use Rattle.vs_four.specs.Selects.{one_bit}
use Rattle.vs_design.specs.Expressions.{Signal, BitNot, LogicalNot, Add, Multiply, BitAnd, BitOr, BitXor, Name, Unary, Binary, Choice, At}
use Rattle.vs_design.specs.Statements.{Whole, PartOf, Empty, If}
use Rattle.vs_design.specs.Designs.{Posedge, Negedge, InputPort, OutputPort, Process, Continuous, Always, Design}
use Rattle.vs_design.specs.Footprints.{reads_of, writes_of}
use Rattle.vs_design.specs.Sizes.{size}
use Rattle.vs_design.specs.Levels.{level_order}
use Rattle.vs_design.specs.Clocks.{clock_nets, root_of}
use Rattle.vs_design.specs.Dead.{dead_nets, is_dead, without_dead}
use Rattle.vs_design.specs.Sets.{only, union, known_set}
use Rattle.vs_design.specs.TimeZero.{families}
use Rattle.vs_design.specs.Accepted.{IsAcceptedDesign}
use Rattle.vs_design.specs.ExampleParts.{input_of, wire_of, reg_of, range_of, to_zero, clk, clk_signal, dec, plain, bit, blocking, nonblocking, assign, on_posedge, on_star, top_scope, design_of, slot_ends_by, slot_ends, free_ends}

-- inputs and registers of one bit that several examples have
abbrev pub a1 : Signal
a1 = input_of (codes "a") 1 None 1

abbrev pub d1 : Signal
d1 = input_of (codes "d") 1 None 1

abbrev pub b2 : Signal
b2 = input_of (codes "b") 2 None 2

abbrev pub y2_net : Signal
y2_net = wire_of (codes "y") 2 None 2

abbrev pub y2 : Signal
y2 = reg_of (codes "y") 2 None 2

abbrev pub q2 : Signal
q2 = reg_of (codes "q") 2 None 2

abbrev pub y3 : Signal
y3 = reg_of (codes "y") 3 None 3

abbrev pub y3_net : Signal
y3_net = wire_of (codes "y") 3 None 3

abbrev pub w3 : Signal
w3 = wire_of (codes "w") 3 None 3

-- `assign y = a & b;`
abbrev pub and_gate : Design
and_gate = design_of (clk_signal ∷ a1 ∷ b2 ∷ y3_net ∷ []) (assign 51 (Whole y3_net) (Binary BitAnd (Name a1) (Name b2)) ∷ [])

-- `module top(input a, input b, output y); assign y = a & b; endmodule`, which has no clock
abbrev pub a0 : Signal
a0 = input_of (codes "a") 0 None 0

abbrev pub b1 : Signal
b1 = input_of (codes "b") 1 None 1

abbrev pub free_gate : Design
free_gate = design_of (a0 ∷ b1 ∷ y2_net ∷ []) (assign 43 (Whole y2_net) (Binary BitAnd (Name a0) (Name b1)) ∷ [])

-- `always @(posedge clk) if (rst) q <= 4'd0; else q <= q + 4'd1;`
abbrev pub rst1 : Signal
rst1 = input_of (codes "rst") 1 None 1

abbrev pub q2_wide : Signal
q2_wide = reg_of (codes "q") 2 (to_zero 3) 2

abbrev pub counter : Design
counter = design_of (clk_signal ∷ rst1 ∷ q2_wide ∷ []) (on_posedge 54 clk_signal (If (Name rst1) (nonblocking 85 q2_wide (dec 4 0)) (nonblocking 101 q2_wide (Binary Add (Name q2_wide) (dec 4 1)))) ∷ [])

-- `always @* if (r) y = 1'b1; else y = 1'b0; assign v = r ? 1'b1 : 1'b0;`
abbrev pub r1 : Signal
r1 = input_of (codes "r") 1 None 1

abbrev pub v3_net : Signal
v3_net = wire_of (codes "v") 3 None 3

abbrev pub if_and_choice : Design
if_and_choice = design_of (clk_signal ∷ r1 ∷ y2 ∷ v3_net ∷ [])
    (on_star 56 (If (Name r1) (blocking 73 y2 (dec 1 1)) (blocking 88 y2 (dec 1 0))) ∷ assign 98 (Whole v3_net) (Choice (Name r1) (dec 1 1) (dec 1 0)) ∷ [])

-- `always @(posedge clk) c <= b;`, and the same for `b <= a` and `a <= d`
abbrev pub a2 : Signal
a2 = reg_of (codes "a") 2 None 2

abbrev pub b3 : Signal
b3 = reg_of (codes "b") 3 None 3

abbrev pub c4 : Signal
c4 = reg_of (codes "c") 4 None 4

abbrev pub three_registers : Design
three_registers = design_of (clk_signal ∷ d1 ∷ a2 ∷ b3 ∷ c4 ∷ []) (on_posedge 73 clk_signal (nonblocking 95 c4 (Name b3)) ∷ on_posedge 103 clk_signal (nonblocking 125 b3 (Name a2)) ∷ on_posedge 133 clk_signal (nonblocking 155 a2 (Name d1)) ∷ [])

-- `wire w; assign w = 1'b0; always @* y = w | a;`
abbrev pub woken : Design
woken = design_of (clk_signal ∷ a1 ∷ y2 ∷ w3 ∷ []) (assign 54 (Whole w3) (dec 1 0) ∷ on_star 71 (blocking 81 y2 (Binary BitOr (Name w3) (Name a1))) ∷ [])

-- `always @(posedge clk) q <= 1'b1;`
abbrev pub q1 : Signal
q1 = reg_of (codes "q") 1 None 1

abbrev pub set_once : Design
set_once = design_of (clk_signal ∷ q1 ∷ []) (on_posedge 36 clk_signal (nonblocking 58 q1 (dec 1 1)) ∷ [])

-- `assign y = v; assign v = ~u; assign u = ~a;`
abbrev pub u3 : Signal
u3 = wire_of (codes "u") 3 None 3

abbrev pub v4 : Signal
v4 = wire_of (codes "v") 4 None 4

abbrev pub chain : Design
chain = design_of (clk_signal ∷ a1 ∷ y2_net ∷ u3 ∷ v4 ∷ []) (assign 58 (Whole y2_net) (Name v4) ∷ assign 72 (Whole v4) (Unary BitNot (Name u3)) ∷ assign 87 (Whole u3) (Unary BitNot (Name a1)) ∷ [])

-- `always @(posedge clk) q <= d; always @* y = ~q;`
abbrev pub quiet : Design
quiet = design_of (clk_signal ∷ d1 ∷ q2 ∷ y3 ∷ []) (on_posedge 60 clk_signal (nonblocking 82 q2 (Name d1)) ∷ on_star 90 (blocking 100 y3 (Unary BitNot (Name q2))) ∷ [])

-- `inv g(a, y);` of `module inv(input p, output q); assign q = ~p; endmodule`
abbrev pub p3_inner : Signal
p3_inner = record { name = codes "p"; scope = 1; number = 3; net = true; input = false; range = None; signed = false; first = 3; words = None; integer = false }

abbrev pub q4_inner : Signal
q4_inner = record { name = codes "q"; scope = 1; number = 4; net = true; input = false; range = None; signed = false; first = 4; words = None; integer = false }

abbrev pub port : Design
port = record {
  scopes = top_scope ∷ record { name = codes "g"; parent = Some 0; instance = true } ∷ [];
  signals = clk_signal ∷ a1 ∷ y2_net ∷ p3_inner ∷ q4_inner ∷ [];
  processes = Continuous 100 InputPort 100 (Whole p3_inner) (Name a1) ∷ Continuous 100 OutputPort 109 (Whole y2_net) (Name q4_inner) ∷ assign 36 (Whole q4_inner) (Unary BitNot (Name p3_inner)) ∷ [];
  initials = [];
  functions = [];
}

-- `reg1 r((clk), d, y);` of `module reg1(input c, input d, output reg q); always @(posedge c) q <= d; endmodule`: its net c is a clock net
abbrev pub c3_inner : Signal
c3_inner = record { name = codes "c"; scope = 1; number = 3; net = true; input = false; range = None; signed = false; first = 3; words = None; integer = false }

abbrev pub d4_inner : Signal
d4_inner = record { name = codes "d"; scope = 1; number = 4; net = true; input = false; range = None; signed = false; first = 4; words = None; integer = false }

abbrev pub q5_inner : Signal
q5_inner = record { name = codes "q"; scope = 1; number = 5; net = false; input = false; range = None; signed = false; first = 5; words = None; integer = false }

abbrev pub clocked_instance : Design
clocked_instance = record {
  scopes = top_scope ∷ record { name = codes "r"; parent = Some 0; instance = true } ∷ [];
  signals = clk_signal ∷ d1 ∷ y2_net ∷ c3_inner ∷ d4_inner ∷ q5_inner ∷ [];
  processes = Continuous 130 InputPort 130 (Whole c3_inner) (At 138 (At 139 (Name clk_signal))) ∷ Continuous 130 InputPort 130 (Whole d4_inner) (Name d1) ∷ Continuous 130 OutputPort 145 (Whole y2_net) (Name q5_inner) ∷ on_posedge 47 c3_inner (nonblocking 67 q5_inner (Name d4_inner)) ∷ [];
  initials = [];
  functions = [];
}

abbrev pub a_wide : Signal
a_wide = input_of (codes "a") 1 (to_zero 3) 1

abbrev pub b_wide : Signal
b_wide = input_of (codes "b") 2 (to_zero 3) 5

-- `assign y = a + b;` of four bits
abbrev pub y9_wide : Signal
y9_wide = wire_of (codes "y") 3 (to_zero 3) 9

abbrev pub sum : Design
sum = design_of (clk_signal ∷ a_wide ∷ b_wide ∷ y9_wide ∷ []) (assign 0 (Whole y9_wide) (Binary Add (Name a_wide) (Name b_wide)) ∷ [])

-- `assign s[i] = a[i] ^ b[i] ^ c[i]; assign c[i+1] = a[i] & b[i] | c[i] & (a[i] | b[i]);` for i from 0 to 3
abbrev pub s_wide : Signal
s_wide = wire_of (codes "s") 3 (to_zero 3) 9

abbrev pub c_wide : Signal
c_wide = wire_of (codes "c") 4 (to_zero 4) 13

abbrev pub sum_bit : ℕ → Process
sum_bit i = assign 0 (PartOf s_wide (one_bit (range_of 3 0)) (plain i)) (Binary BitXor (Binary BitXor (bit a_wide 3 (plain i)) (bit b_wide 3 (plain i))) (bit c_wide 4 (plain i)))

abbrev pub carry_bit : ℕ → Process
carry_bit i = assign 0 (PartOf c_wide (one_bit (range_of 4 0)) (Binary Add (plain i) (plain 1)))
    (Binary BitOr (Binary BitAnd (bit a_wide 3 (plain i)) (bit b_wide 3 (plain i))) (Binary BitAnd (bit c_wide 4 (plain i)) (Binary BitOr (bit a_wide 3 (plain i)) (bit b_wide 3 (plain i)))))

abbrev pub adder : Design
adder = design_of (clk_signal ∷ a_wide ∷ b_wide ∷ s_wide ∷ c_wide ∷ [])
    (assign 0 (PartOf c_wide (one_bit (range_of 4 0)) (plain 0)) (dec 1 0) ∷ sum_bit 0 ∷ carry_bit 0 ∷ sum_bit 1 ∷ carry_bit 1 ∷ sum_bit 2 ∷ carry_bit 2 ∷ sum_bit 3 ∷ carry_bit 3 ∷ [])

-- `assign y = a * b;` of 64 bits
abbrev pub a64 : Signal
a64 = input_of (codes "a") 1 (to_zero 63) 1

abbrev pub b64 : Signal
b64 = input_of (codes "b") 2 (to_zero 63) 65

abbrev pub y64 : Signal
y64 = wire_of (codes "y") 3 (to_zero 63) 129

abbrev pub product : Design
product = design_of (clk_signal ∷ a64 ∷ b64 ∷ y64 ∷ []) (assign 0 (Whole y64) (Binary Multiply (Name a64) (Name b64)) ∷ [])

abbrev pub e1 : Signal
e1 = input_of (codes "e") 1 None 1

abbrev pub d2_input : Signal
d2_input = input_of (codes "d") 2 None 2

abbrev pub q3_register : Signal
q3_register = reg_of (codes "q") 3 None 3

abbrev pub y4_variable : Signal
y4_variable = reg_of (codes "y") 4 None 4

-- `always @(posedge clk) if (e) q <= d; always @* y = q & 1'b0;`
abbrev pub sleeper : Design
sleeper = design_of (clk_signal ∷ e1 ∷ d2_input ∷ q3_register ∷ y4_variable ∷ []) (on_posedge 62 clk_signal (If (Name e1) (nonblocking 84 q3_register (Name d2_input)) Empty) ∷ on_star 92 (blocking 102 y4_variable (Binary BitAnd (Name q3_register) (dec 1 0))) ∷ [])

-- `always @* y = 1'b0;`
abbrev pub never_run : Design
never_run = design_of (clk_signal ∷ q1 ∷ []) (on_star 36 (blocking 46 q1 (dec 1 0)) ∷ [])

-- `always @(posedge clk or posedge r) if (r) q <= 1'b0; else q <= d;`
abbrev pub resettable : Design
resettable = design_of (clk_signal ∷ r1 ∷ d2_input ∷ q3_register ∷ [])
    (Always 60 false (record { signal = clk_signal; edge = Posedge } ∷ record { signal = r1; edge = Posedge } ∷ []) (If (Name r1) (nonblocking 98 q3_register (dec 1 0)) (nonblocking 115 q3_register (Name d2_input))) ∷ [])

-- `leaf u(clk, r, d, y);` of `module leaf(input clk, input r, input d, output reg q); always @(posedge clk or negedge r) begin if (!r) q <= 1'b1; else q <= d; end endmodule`
abbrev pub y3_output : Signal
y3_output = wire_of (codes "y") 3 None 3

abbrev pub c4_leaf : Signal
c4_leaf = record { name = codes "clk"; scope = 1; number = 4; net = true; input = false; range = None; signed = false; first = 4; words = None; integer = false }

abbrev pub r5_leaf : Signal
r5_leaf = record { name = codes "r"; scope = 1; number = 5; net = true; input = false; range = None; signed = false; first = 5; words = None; integer = false }

abbrev pub d6_leaf : Signal
d6_leaf = record { name = codes "d"; scope = 1; number = 6; net = true; input = false; range = None; signed = false; first = 6; words = None; integer = false }

abbrev pub q7_leaf : Signal
q7_leaf = record { name = codes "q"; scope = 1; number = 7; net = false; input = false; range = None; signed = false; first = 7; words = None; integer = false }

abbrev pub reset_through_port : Design
reset_through_port = record {
  scopes = top_scope ∷ record { name = codes "u"; parent = Some 0; instance = true } ∷ [];
  signals = clk_signal ∷ r1 ∷ d2_input ∷ y3_output ∷ c4_leaf ∷ r5_leaf ∷ d6_leaf ∷ q7_leaf ∷ [];
  processes =
      Continuous 130 InputPort 130 (Whole c4_leaf) (Name clk_signal) ∷ Continuous 130 InputPort 130 (Whole r5_leaf) (At 133 (Name r1)) ∷ Continuous 130 InputPort 130 (Whole d6_leaf) (Name d2_input) ∷ Continuous 130 OutputPort 145 (Whole y3_output) (Name q7_leaf)
      ∷ Always 47 false (record { signal = r5_leaf; edge = Negedge } ∷ record { signal = c4_leaf; edge = Posedge } ∷ []) (If (Unary LogicalNot (Name r5_leaf)) (nonblocking 67 q7_leaf (dec 1 1)) (nonblocking 80 q7_leaf (Name d6_leaf))) ∷ [];
  initials = [];
  functions = [];
}

-- `wire c; assign c = clk; always @(posedge c) q <= d;`: its net c is a clock net too
abbrev pub c3_net : Signal
c3_net = wire_of (codes "c") 3 None 3

abbrev pub clock_alias : Design
clock_alias = design_of (clk_signal ∷ d1 ∷ q2 ∷ c3_net ∷ []) (assign 54 (Whole c3_net) (Name clk_signal) ∷ on_posedge 70 c3_net (nonblocking 90 q2 (Name d1)) ∷ [])

-- `assign e = c; assign c = clk; assign s = r; always @(posedge e or posedge s) if (s) q <= 1'b0; else q <= d;`: a clock net behind another, and a reset net
abbrev pub c4_net : Signal
c4_net = wire_of (codes "c") 4 None 4

abbrev pub e5_net : Signal
e5_net = wire_of (codes "e") 5 None 5

abbrev pub s6_net : Signal
s6_net = wire_of (codes "s") 6 None 6

abbrev pub reset_alias : Design
reset_alias = design_of (clk_signal ∷ r1 ∷ d2_input ∷ q3_register ∷ c4_net ∷ e5_net ∷ s6_net ∷ [])
    (assign 69 (Whole e5_net) (Name c4_net) ∷ assign 83 (Whole c4_net) (Name clk_signal) ∷ assign 99 (Whole s6_net) (Name r1)
    ∷ Always 113 false (record { signal = e5_net; edge = Posedge } ∷ record { signal = s6_net; edge = Posedge } ∷ []) (If (Name s6_net) (nonblocking 153 q3_register (dec 1 0)) (nonblocking 169 q3_register (Name d2_input))) ∷ [])

-- `module top(input c, input e, input d, output reg p, output reg q); always @(posedge c) p <= d; always @(posedge e) q <= p; endmodule`, whose clocks are c and e
abbrev pub c0 : Signal
c0 = input_of (codes "c") 0 None 0

abbrev pub p3 : Signal
p3 = reg_of (codes "p") 3 None 3

abbrev pub q4 : Signal
q4 = reg_of (codes "q") 4 None 4

abbrev pub two_clocks : Design
two_clocks = design_of (c0 ∷ e1 ∷ d2_input ∷ p3 ∷ q4 ∷ []) (on_posedge 67 c0 (nonblocking 87 p3 (Name d2_input)) ∷ on_posedge 95 e1 (nonblocking 115 q4 (Name p3)) ∷ [])

-- the names of both
abbrev pub c_and_e : List (List ℕ)
c_and_e = codes "c" ∷ codes "e" ∷ []

-- `module top(input a, output reg q); wire c; always @(posedge c) q <= a; endmodule`: nothing drives c, so its block never runs
abbrev pub c2_net : Signal
c2_net = wire_of (codes "c") 2 None 2

abbrev pub dead_clock : Design
dead_clock = design_of (a0 ∷ q1 ∷ c2_net ∷ []) (on_posedge 43 c2_net (nonblocking 63 q1 (Name a0)) ∷ [])

-- without it
abbrev pub dead_clock_left : Design
dead_clock_left = design_of (a0 ∷ q1 ∷ c2_net ∷ []) (on_star 43 Empty ∷ [])

-- `wire n; reg1 r(n, d, y);` of the module `reg1` of above: its net c copies n, which nothing drives
abbrev pub n3_net : Signal
n3_net = wire_of (codes "n") 3 None 3

abbrev pub c4_instance : Signal
c4_instance = record { name = codes "c"; scope = 1; number = 4; net = true; input = false; range = None; signed = false; first = 4; words = None; integer = false }

abbrev pub d5_instance : Signal
d5_instance = record { name = codes "d"; scope = 1; number = 5; net = true; input = false; range = None; signed = false; first = 5; words = None; integer = false }

abbrev pub q6_instance : Signal
q6_instance = record { name = codes "q"; scope = 1; number = 6; net = false; input = false; range = None; signed = false; first = 6; words = None; integer = false }

abbrev pub dead_instance : Design
dead_instance = record {
  scopes = top_scope ∷ record { name = codes "r"; parent = Some 0; instance = true } ∷ [];
  signals = clk_signal ∷ d1 ∷ y2_net ∷ n3_net ∷ c4_instance ∷ d5_instance ∷ q6_instance ∷ [];
  processes = Continuous 130 InputPort 130 (Whole c4_instance) (Name n3_net) ∷ Continuous 130 InputPort 130 (Whole d5_instance) (Name d1) ∷ Continuous 130 OutputPort 145 (Whole y2_net) (Name q6_instance) ∷ on_posedge 47 c4_instance (nonblocking 67 q6_instance (Name d5_instance)) ∷ [];
  initials = [];
  functions = [];
}

-- `wire c, d; assign d = c; always @(posedge c or negedge e) q <= a; always @(posedge d) p <= a; always @(posedge r) s <= a;`: of the nets c, d and e, and of the variable r, c and e are dead
abbrev pub d3_net : Signal
d3_net = wire_of (codes "d") 3 None 3

abbrev pub e4_net : Signal
e4_net = wire_of (codes "e") 4 None 4

abbrev pub p5 : Signal
p5 = reg_of (codes "p") 5 None 5

abbrev pub r6 : Signal
r6 = reg_of (codes "r") 6 None 6

abbrev pub s7 : Signal
s7 = reg_of (codes "s") 7 None 7

abbrev pub half_dead : Design
half_dead = design_of (a0 ∷ q1 ∷ c2_net ∷ d3_net ∷ e4_net ∷ p5 ∷ r6 ∷ s7 ∷ [])
    (assign 60 (Whole d3_net) (Name c2_net)
    ∷ Always 70 false (record { signal = c2_net; edge = Posedge } ∷ record { signal = e4_net; edge = Negedge } ∷ []) (nonblocking 100 q1 (Name a0))
    ∷ on_posedge 110 d3_net (nonblocking 130 p5 (Name a0)) ∷ on_posedge 140 r6 (nonblocking 160 s7 (Name a0)) ∷ [])

pub record DesignsComputed : Type 0 where
  -- nothing drives the clock of the block: bits a, q, c. It is left out, and its register stays x
  pub dead_clock_size : size dead_clock ≡ 4
  pub dead_clock_nets : dead_nets dead_clock ≡ 2 ∷ []
  pub dead_clock_without : without_dead dead_clock ≡ dead_clock_left
  pub dead_clock_accepted : IsAcceptedDesign dead_clock_left []
  pub dead_clock_ends : free_ends dead_clock_left (One ∷ []) ((Zero ∷ []) ∷ []) ≡
      ((One ∷ X ∷ Z ∷ []) ∷ (One ∷ X ∷ Z ∷ []) ∷ (Zero ∷ X ∷ Z ∷ []) ∷ (Zero ∷ X ∷ Z ∷ []) ∷ [])
  -- through a port
  pub dead_instance_nets : dead_nets dead_instance ≡ 3 ∷ 4 ∷ []
  pub dead_instance_blocks : map (is_dead (dead_nets dead_instance)) dead_instance.processes ≡ false ∷ false ∷ false ∷ true ∷ []
  -- all events are edges of dead nets, and a dead net is no variable and no copy by a written assign
  pub half_dead_nets : dead_nets half_dead ≡ 2 ∷ 4 ∷ []
  pub half_dead_blocks : map (is_dead (dead_nets half_dead)) half_dead.processes ≡ false ∷ true ∷ false ∷ false ∷ []
  -- a reset by a falling edge, through a port: bits clk, r, d, y of the top, clk, r, d and q within it
  pub reset_through_port_accepted : IsAcceptedDesign reset_through_port clk
  pub reset_through_port_late : (families reset_through_port (0 ∷ []) (level_order reset_through_port)).late 7 ≡ union (only One) (only X)
  pub reset_through_port_ends : map (drop 3) (slot_ends reset_through_port (Zero ∷ One ∷ Zero ∷ []) ((Zero ∷ Zero ∷ Zero ∷ []) ∷ [])) ≡
      ((X ∷ Zero ∷ One ∷ Zero ∷ X ∷ []) ∷ (Zero ∷ One ∷ One ∷ Zero ∷ Zero ∷ []) ∷ (One ∷ Zero ∷ Zero ∷ Zero ∷ One ∷ []) ∷ (One ∷ One ∷ Zero ∷ Zero ∷ One ∷ []) ∷ [])
  -- a block that sleeps until the register is known: bits clk, e, d, q, y
  pub sleeper_size : size sleeper ≡ 14
  pub sleeper_accepted : IsAcceptedDesign sleeper clk
  pub sleeper_asleep : slot_ends sleeper (Zero ∷ Zero ∷ One ∷ []) [] ≡
      ((Zero ∷ Zero ∷ One ∷ X ∷ X ∷ []) ∷ (One ∷ Zero ∷ One ∷ X ∷ X ∷ []) ∷ [])
  pub sleeper_woken : slot_ends sleeper (Zero ∷ One ∷ One ∷ []) [] ≡
      ((Zero ∷ One ∷ One ∷ X ∷ X ∷ []) ∷ (One ∷ One ∷ One ∷ One ∷ Zero ∷ []) ∷ [])
  -- a block that waits on nothing never runs: bits clk, y
  pub never_run_size : size never_run ≡ 5
  pub never_run_accepted : IsAcceptedDesign never_run clk
  pub never_run_ends : slot_ends never_run (Zero ∷ []) [] ≡ ((Zero ∷ X ∷ []) ∷ (One ∷ X ∷ []) ∷ [])
  -- an asynchronous reset: bits clk, r, d, q
  pub resettable_size : size resettable ≡ 9
  pub resettable_accepted : IsAcceptedDesign resettable clk
  pub resettable_ends : slot_ends resettable (Zero ∷ Zero ∷ One ∷ []) ((Zero ∷ One ∷ One ∷ []) ∷ (Zero ∷ Zero ∷ One ∷ []) ∷ []) ≡
      ((Zero ∷ Zero ∷ One ∷ X ∷ []) ∷ (One ∷ Zero ∷ One ∷ One ∷ []) ∷ (Zero ∷ One ∷ One ∷ Zero ∷ []) ∷ (One ∷ One ∷ One ∷ Zero ∷ []) ∷ (Zero ∷ Zero ∷ One ∷ Zero ∷ []) ∷ (One ∷ Zero ∷ One ∷ One ∷ []) ∷ [])
  -- `y = a & b`: bits clk, a, b, y
  pub and_gate_size : size and_gate ≡ 5
  pub and_gate_accepted : IsAcceptedDesign and_gate clk
  pub and_gate_ends : slot_ends and_gate (Zero ∷ One ∷ Zero ∷ []) ((Zero ∷ One ∷ One ∷ []) ∷ []) ≡
      ((Zero ∷ One ∷ Zero ∷ Zero ∷ []) ∷ (One ∷ One ∷ Zero ∷ Zero ∷ []) ∷ (Zero ∷ One ∷ One ∷ One ∷ []) ∷ (One ∷ One ∷ One ∷ One ∷ []) ∷ [])
  -- the same without a clock: bits a, b, y. No clock is named, and both inputs are data
  pub free_gate_size : size free_gate ≡ 4
  pub free_gate_accepted : IsAcceptedDesign free_gate []
  pub free_gate_ends : free_ends free_gate (One ∷ Zero ∷ []) ((One ∷ One ∷ []) ∷ []) ≡
      ((One ∷ Zero ∷ Zero ∷ []) ∷ (One ∷ Zero ∷ Zero ∷ []) ∷ (One ∷ One ∷ One ∷ []) ∷ (One ∷ One ∷ One ∷ []) ∷ [])
  -- an input `clk` that nothing reads may stand there and be data
  pub and_gate_free : IsAcceptedDesign and_gate []
  -- a counter that `rst` clears: bits clk, rst and the four of q
  pub counter_size : size counter ≡ 39
  pub counter_accepted : IsAcceptedDesign counter clk
  pub counter_ends : slot_ends counter (Zero ∷ One ∷ []) ((Zero ∷ Zero ∷ []) ∷ []) ≡
      ((Zero ∷ One ∷ X ∷ X ∷ X ∷ X ∷ []) ∷ (One ∷ One ∷ Zero ∷ Zero ∷ Zero ∷ Zero ∷ []) ∷ (Zero ∷ Zero ∷ Zero ∷ Zero ∷ Zero ∷ Zero ∷ []) ∷ (One ∷ Zero ∷ One ∷ Zero ∷ Zero ∷ Zero ∷ []) ∷ [])
  -- under an unknown condition `if` takes its other branch, and `?:` gives x: bits clk, r, y, v
  pub if_and_choice_size : size if_and_choice ≡ 10
  pub if_and_choice_accepted : IsAcceptedDesign if_and_choice clk
  pub if_and_choice_ends : slot_ends if_and_choice (Zero ∷ One ∷ []) ((Zero ∷ X ∷ []) ∷ []) ≡
      ((Zero ∷ One ∷ One ∷ One ∷ []) ∷ (One ∷ One ∷ One ∷ One ∷ []) ∷ (Zero ∷ X ∷ Zero ∷ X ∷ []) ∷ (One ∷ X ∷ Zero ∷ X ∷ []) ∷ [])
  -- each register takes the old value of the one before it: bits clk, d, a, b, c
  pub three_registers_size : size three_registers ≡ 11
  pub three_registers_accepted : IsAcceptedDesign three_registers clk
  pub three_registers_ends : slot_ends three_registers (Zero ∷ One ∷ []) ((Zero ∷ Zero ∷ []) ∷ (Zero ∷ One ∷ []) ∷ []) ≡
      ((Zero ∷ One ∷ X ∷ X ∷ X ∷ []) ∷ (One ∷ One ∷ One ∷ X ∷ X ∷ []) ∷ (Zero ∷ Zero ∷ One ∷ X ∷ X ∷ []) ∷ (One ∷ Zero ∷ Zero ∷ One ∷ X ∷ []) ∷ (Zero ∷ One ∷ Zero ∷ One ∷ X ∷ []) ∷ (One ∷ One ∷ One ∷ Zero ∷ One ∷ []) ∷ [])
  -- a block that an input wakes at time zero: bits clk, a, y, w
  pub woken_size : size woken ≡ 6
  pub woken_accepted : IsAcceptedDesign woken clk
  pub woken_ends : slot_ends woken (Zero ∷ One ∷ []) [] ≡
      ((Zero ∷ One ∷ One ∷ Zero ∷ []) ∷ (One ∷ One ∷ One ∷ Zero ∷ []) ∷ [])
  -- a register that is set, without data inputs: bits clk, q
  pub set_once_size : size set_once ≡ 4
  pub set_once_accepted : IsAcceptedDesign set_once clk
  pub set_once_ends : slot_ends set_once (Zero ∷ []) ((Zero ∷ []) ∷ []) ≡
      ((Zero ∷ X ∷ []) ∷ (One ∷ One ∷ []) ∷ (Zero ∷ One ∷ []) ∷ (One ∷ One ∷ []) ∷ [])
  -- assigns settle in level order, whatever the order of the text: bits clk, a, y, u, v
  pub chain_size : size chain ≡ 7
  pub chain_accepted : IsAcceptedDesign chain clk
  pub chain_ends : slot_ends chain (Zero ∷ One ∷ []) ((Zero ∷ Zero ∷ []) ∷ []) ≡
      ((Zero ∷ One ∷ One ∷ Zero ∷ One ∷ []) ∷ (One ∷ One ∷ One ∷ Zero ∷ One ∷ []) ∷ (Zero ∷ Zero ∷ Zero ∷ One ∷ Zero ∷ []) ∷ (One ∷ Zero ∷ Zero ∷ One ∷ Zero ∷ []) ∷ [])
  -- a block that is quiet at time zero: bits clk, d, q, y
  pub quiet_size : size quiet ≡ 8
  pub quiet_accepted : IsAcceptedDesign quiet clk
  pub quiet_ends : slot_ends quiet (Zero ∷ One ∷ []) [] ≡
      ((Zero ∷ One ∷ X ∷ X ∷ []) ∷ (One ∷ One ∷ One ∷ Zero ∷ []) ∷ [])
  -- an instance: bits clk, a, y of the top, p and q within it
  pub port_size : size port ≡ 6
  pub port_accepted : IsAcceptedDesign port clk
  pub port_ends : slot_ends port (Zero ∷ One ∷ []) [] ≡
      ((Zero ∷ One ∷ Zero ∷ One ∷ Zero ∷ []) ∷ (One ∷ One ∷ Zero ∷ One ∷ Zero ∷ []) ∷ [])
  pub chain_order : level_order chain ≡ 2 ∷ 1 ∷ 0 ∷ []
  -- a ripple adder of four bits: 0111 and 0011 give 1010, with the carries 1110 above the first; bits clk, a, b, s, c
  pub adder_size : size adder ≡ 42
  pub adder_reads : reads_of (carry_bit 1) ≡ 2 ∷ 6 ∷ 14 ∷ 2 ∷ 6 ∷ []
  pub adder_writes : writes_of (carry_bit 1) ≡ 15 ∷ []
  pub adder_accepted : IsAcceptedDesign adder clk
  pub adder_ends : map (drop 9) (slot_ends adder (Zero ∷ One ∷ One ∷ One ∷ Zero ∷ One ∷ One ∷ Zero ∷ Zero ∷ []) []) ≡ ((Zero ∷ One ∷ Zero ∷ One ∷ Zero ∷ One ∷ One ∷ One ∷ Zero ∷ []) ∷ (Zero ∷ One ∷ Zero ∷ One ∷ Zero ∷ One ∷ One ∷ One ∷ Zero ∷ []) ∷ [])
  -- the size of a product of 64 bits
  pub product_size : size product ≡ 16577
  -- a register in an instance, on a clock net of its own: bits clk, d, y of the top, c, d and q within it
  pub clocked_instance_size : size clocked_instance ≡ 8
  pub clocked_instance_accepted : IsAcceptedDesign clocked_instance clk
  pub clocked_instance_nets : clock_nets clocked_instance (0 ∷ []) ≡ 0 ∷ 3 ∷ []
  pub clocked_instance_ends : slot_ends clocked_instance (Zero ∷ One ∷ []) ((Zero ∷ Zero ∷ []) ∷ []) ≡
      ((Zero ∷ One ∷ X ∷ Zero ∷ One ∷ X ∷ []) ∷ (One ∷ One ∷ One ∷ One ∷ One ∷ One ∷ []) ∷ (Zero ∷ Zero ∷ One ∷ Zero ∷ Zero ∷ One ∷ []) ∷ (One ∷ Zero ∷ Zero ∷ One ∷ Zero ∷ Zero ∷ []) ∷ [])
  -- a register on an assign's copy of the clock: bits clk, d, q, c
  pub clock_alias_size : size clock_alias ≡ 6
  pub clock_alias_accepted : IsAcceptedDesign clock_alias clk
  pub clock_alias_nets : clock_nets clock_alias (0 ∷ []) ≡ 0 ∷ 3 ∷ []
  pub clock_alias_ends : slot_ends clock_alias (Zero ∷ One ∷ []) ((Zero ∷ Zero ∷ []) ∷ []) ≡
      ((Zero ∷ One ∷ X ∷ Zero ∷ []) ∷ (One ∷ One ∷ One ∷ One ∷ []) ∷ (Zero ∷ Zero ∷ One ∷ Zero ∷ []) ∷ (One ∷ Zero ∷ Zero ∷ One ∷ []) ∷ [])
  -- two clocks in step, where q takes what p was: bits c, e, d, p, q
  pub two_clocks_size : size two_clocks ≡ 9
  pub two_clocks_accepted : IsAcceptedDesign two_clocks c_and_e
  pub two_clocks_nets : clock_nets two_clocks (0 ∷ 1 ∷ []) ≡ 0 ∷ 1 ∷ []
  pub two_clocks_ends : slot_ends_by two_clocks (0 ∷ 1 ∷ []) (Zero ∷ Zero ∷ One ∷ []) ((Zero ∷ Zero ∷ Zero ∷ []) ∷ []) ≡
      ((Zero ∷ Zero ∷ One ∷ X ∷ X ∷ []) ∷ (One ∷ One ∷ One ∷ One ∷ X ∷ []) ∷ (Zero ∷ Zero ∷ Zero ∷ One ∷ X ∷ []) ∷ (One ∷ One ∷ Zero ∷ Zero ∷ One ∷ []) ∷ [])
  -- copies of a copy, and of a reset: bits clk, r, d, q, c, e, s
  pub reset_alias_size : size reset_alias ≡ 12
  pub reset_alias_accepted : IsAcceptedDesign reset_alias clk
  pub reset_alias_nets : clock_nets reset_alias (0 ∷ []) ≡ 0 ∷ 5 ∷ 4 ∷ []
  pub reset_alias_root : root_of reset_alias (0 ∷ []) 6 ≡ Some 1
  pub reset_alias_ends : slot_ends reset_alias (Zero ∷ Zero ∷ One ∷ []) ((Zero ∷ One ∷ One ∷ []) ∷ (Zero ∷ Zero ∷ One ∷ []) ∷ []) ≡
      ((Zero ∷ Zero ∷ One ∷ X ∷ Zero ∷ Zero ∷ Zero ∷ []) ∷ (One ∷ Zero ∷ One ∷ One ∷ One ∷ One ∷ Zero ∷ []) ∷ (Zero ∷ One ∷ One ∷ Zero ∷ Zero ∷ Zero ∷ One ∷ []) ∷ (One ∷ One ∷ One ∷ Zero ∷ One ∷ One ∷ One ∷ []) ∷ (Zero ∷ Zero ∷ One ∷ Zero ∷ Zero ∷ Zero ∷ Zero ∷ []) ∷ (One ∷ Zero ∷ One ∷ One ∷ One ∷ One ∷ Zero ∷ []) ∷ [])
  -- an x bit of one operand makes the whole sum x, and a known vector gives the sum: bits clk, a, b, y
  pub sum_size : size sum ≡ 29
  pub sum_accepted : IsAcceptedDesign sum clk
  pub sum_ends : slot_ends sum (Zero ∷ Zero ∷ Zero ∷ Zero ∷ Zero ∷ One ∷ Zero ∷ Zero ∷ Zero ∷ []) ((Zero ∷ One ∷ Zero ∷ X ∷ Zero ∷ One ∷ Zero ∷ Zero ∷ Zero ∷ []) ∷ (Zero ∷ One ∷ Zero ∷ One ∷ Zero ∷ One ∷ Zero ∷ Zero ∷ Zero ∷ []) ∷ []) ≡
      ((Zero ∷ Zero ∷ Zero ∷ Zero ∷ Zero ∷ One ∷ Zero ∷ Zero ∷ Zero ∷ One ∷ Zero ∷ Zero ∷ Zero ∷ []) ∷ (One ∷ Zero ∷ Zero ∷ Zero ∷ Zero ∷ One ∷ Zero ∷ Zero ∷ Zero ∷ One ∷ Zero ∷ Zero ∷ Zero ∷ []) ∷ (Zero ∷ One ∷ Zero ∷ X ∷ Zero ∷ One ∷ Zero ∷ Zero ∷ Zero ∷ X ∷ X ∷ X ∷ X ∷ []) ∷ (One ∷ One ∷ Zero ∷ X ∷ Zero ∷ One ∷ Zero ∷ Zero ∷ Zero ∷ X ∷ X ∷ X ∷ X ∷ []) ∷ (Zero ∷ One ∷ Zero ∷ One ∷ Zero ∷ One ∷ Zero ∷ Zero ∷ Zero ∷ Zero ∷ One ∷ One ∷ Zero ∷ []) ∷ (One ∷ One ∷ Zero ∷ One ∷ Zero ∷ One ∷ Zero ∷ Zero ∷ Zero ∷ Zero ∷ One ∷ One ∷ Zero ∷ []) ∷ [])
  -- sets at time zero: a register that a quiet block reads, and what the block writes; a net that is 0
  pub quiet_register : (families quiet (0 ∷ []) (level_order quiet)).early 2 ≡ only X
  pub quiet_block : (families quiet (0 ∷ []) (level_order quiet)).early 3 ≡ only X
  pub woken_input : (families woken (0 ∷ []) (level_order woken)).late 1 ≡ known_set
  pub woken_net : (families woken (0 ∷ []) (level_order woken)).early 3 ≡ only Zero
  pub product_ends : map (drop 129) (slot_ends product (Zero ∷ replicate 128 One) []) ≡ (One ∷ replicate 63 Zero) ∷ (One ∷ replicate 63 Zero) ∷ []
