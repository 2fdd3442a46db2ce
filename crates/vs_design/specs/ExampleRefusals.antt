-- Worked designs that are refused, and with what.
use Rattle.std.specs.Prelude.{◌≡◌, true, false, List, [], ◌∷◌, None, Some, codes, replicate}
use Rattle.vs_four.specs.declared.Bit4.TheVariants.{Zero, One}
use Rattle.vs_design.specs.Expressions.{Signal, BitNot, Multiply, Divide, BitAnd, BitOr, Equal, CaseEqual, Expression, Literal, Name, Unary, Binary, Join, Repeat, At, items_of}
use Rattle.vs_design.specs.Statements.{Whole, Both, Statement, Exact, Empty, If, Then, Case, Arm, Default}
use Rattle.vs_design.specs.Designs.{Edge, Any, Posedge, Negedge, Always, Process, Design}
use Rattle.vs_design.specs.Levels.{has_no_cycle}
use Rattle.vs_design.specs.Cycles.{IsCycle}
use Rattle.vs_design.specs.Refusals.{TooWide, Division, TooLarge, width_refusal, MixedAssign, Sensitivity, Latch, block_refusal, TwoDrivers, driver_refusal, NoClock, ClockRead, NotTheClock, ResetForm, clock_refusal, TimeZero, zero_refusal, IsUnrefused}
use Rattle.vs_design.specs.ExampleParts.{input_of, wire_of, reg_of, clk, clk_signal, dec, blocking, nonblocking, assign, on_posedge, on_star, design_of}
use Rattle.vs_design.specs.ExampleDesigns.{a1, d1, b2, y2, y2_net, y3, q2, and_gate, counter, c0, e1, p3, q4, d2_input, two_clocks, c_and_e, a64, b64, y64}

abbrev pub y1 : Signal
y1 = reg_of (codes "y") 1 None 1

abbrev pub w2 : Signal
w2 = wire_of (codes "w") 2 None 2

-- `assign w = 1'b0; always @* y = w;`
abbrev pub on_net : Design
on_net = design_of (clk_signal ∷ y1 ∷ w2 ∷ []) (assign 45 (Whole w2) (dec 1 0) ∷ on_star 62 (blocking 72 y1 (Name w2)) ∷ [])

-- `always @(posedge clk) begin q <= 1'b1; q <= d; end always @* y = q & 1'b0;`
abbrev pub stirred : Design
stirred = design_of (clk_signal ∷ d1 ∷ q2 ∷ y3 ∷ []) (on_posedge 60 clk_signal (Then (nonblocking 71 q2 (dec 1 1)) (nonblocking 82 q2 (Name d1))) ∷ on_star 90 (blocking 100 y3 (Binary BitAnd (Name q2) (dec 1 0))) ∷ [])

-- `always @(posedge clk or posedge d) if (d) q <= d; else q <= 1'b1;`
abbrev pub unformed : Design
unformed = design_of (clk_signal ∷ d1 ∷ q2 ∷ []) (Always 60 false (record { signal = clk_signal; edge = Posedge } ∷ record { signal = d1; edge = Posedge } ∷ []) (If (Name d1) (nonblocking 90 q2 (Name d1)) (nonblocking 95 q2 (dec 1 1))) ∷ [])

-- `if (c) q <= 1'b0; else q <= 1'b1;` on clk and this edge of d
abbrev pub reset_when : Edge → Signal → Expression → Design
reset_when edge d c = design_of (clk_signal ∷ d ∷ q2 ∷ []) (Always 60 false (record { signal = clk_signal; edge = Posedge } ∷ record { signal = d; edge = edge } ∷ []) (If c (nonblocking 90 q2 (dec 1 0)) (nonblocking 95 q2 (dec 1 1))) ∷ [])

abbrev pub d1_signed : Signal
d1_signed = record d1 { signed = true }

-- `always @(posedge clk or posedge q) if (q) q <= 1'b0;`
abbrev pub own_reset : Design
own_reset = design_of (clk_signal ∷ d1 ∷ q2 ∷ []) (Always 60 false (record { signal = clk_signal; edge = Posedge } ∷ record { signal = q2; edge = Posedge } ∷ []) (If (Name q2) (nonblocking 90 q2 (dec 1 0)) Empty) ∷ [])

abbrev pub a1_net : Signal
a1_net = wire_of (codes "a") 1 None 1

abbrev pub b2_net : Signal
b2_net = wire_of (codes "b") 2 None 2

abbrev pub loop : Design
loop = design_of (clk_signal ∷ a1_net ∷ b2_net ∷ []) (assign 43 (Whole a1_net) (Name b2_net) ∷ assign 57 (Whole b2_net) (Name a1_net) ∷ [])

abbrev pub en1 : Signal
en1 = input_of (codes "en") 1 None 1

abbrev pub d2 : Signal
d2 = input_of (codes "d") 2 None 2

abbrev pub q3 : Signal
q3 = reg_of (codes "q") 3 None 3

abbrev pub c4_net : Signal
c4_net = wire_of (codes "c2") 4 None 4

abbrev pub gated : Design
gated = design_of (clk_signal ∷ en1 ∷ d2 ∷ q3 ∷ c4_net ∷ []) (assign 65 (Whole c4_net) (Binary BitAnd (Name clk_signal) (Name en1)) ∷ on_posedge 87 c4_net (nonblocking 108 q3 (Name d2)) ∷ [])

abbrev pub other_clock : Design
other_clock = design_of (clk_signal ∷ en1 ∷ d2 ∷ q3 ∷ c4_net ∷ []) (assign 65 (Whole c4_net) (Name en1) ∷ on_posedge 87 c4_net (nonblocking 108 q3 (Name d2)) ∷ [])

-- `always @(posedge c) p <= d; always @(posedge c) q <= e;`
abbrev pub clock_value_read : Design
clock_value_read = design_of (c0 ∷ e1 ∷ d2_input ∷ p3 ∷ q4 ∷ []) (on_posedge 67 c0 (nonblocking 87 p3 (Name d2_input)) ∷ on_posedge 95 c0 (nonblocking 115 q4 (Name e1)) ∷ [])

-- a register that reads a copy of the clock
abbrev pub alias_read : Design
alias_read = design_of (clk_signal ∷ en1 ∷ d2 ∷ q3 ∷ c4_net ∷ []) (assign 65 (Whole c4_net) (Name clk_signal) ∷ on_posedge 82 c4_net (nonblocking 103 q3 (Name c4_net)) ∷ [])

-- `assign c2 = {clk};`
abbrev pub joined_alias : Design
joined_alias = design_of (clk_signal ∷ en1 ∷ d2 ∷ q3 ∷ c4_net ∷ []) (assign 65 (Whole c4_net) (Repeat 1 (Name clk_signal)) ∷ on_posedge 84 c4_net (nonblocking 105 q3 (Name d2)) ∷ [])

abbrev pub y65 : Signal
y65 = wire_of (codes "y") 2 None 65

abbrev pub too_wide : Design
too_wide = design_of (clk_signal ∷ a64 ∷ y65 ∷ []) (assign 49 (Whole y65) (At 60 (Join (At 61 (Name a64)) (At 64 (dec 1 0)))) ∷ [])

abbrev pub divided : Design
divided = design_of (clk_signal ∷ a1 ∷ b2 ∷ y3 ∷ []) (on_star 50 (blocking 56 y3 (At 60 (At 61 (Binary Divide (At 62 (Name a1)) (At 66 (Name b2)))))) ∷ [])

abbrev pub wide_division : Design
wide_division = design_of (clk_signal ∷ a64 ∷ y65 ∷ []) (assign 49 (Whole y65) (At 60 (Binary Divide (At 60 (Join (At 61 (Name a64)) (At 64 (dec 1 0)))) (At 72 (dec 1 1)))) ∷ [])

abbrev pub by_process : Design
by_process = design_of (clk_signal ∷ a64 ∷ y65 ∷ []) (assign 70 (Whole y65) (At 80 (Binary Divide (At 80 (Name a64)) (At 84 (dec 1 1)))) ∷ assign 49 (Whole y65) (At 60 (Join (At 61 (Name a64)) (At 64 (dec 1 0)))) ∷ [])

abbrev pub driven_twice : Design
driven_twice = design_of (clk_signal ∷ a1 ∷ y2_net ∷ []) (assign 42 (Whole y2_net) (Name a1) ∷ assign 56 (Whole y2_net) (Unary BitNot (Name a1)) ∷ [])

abbrev pub twice_in_one : Design
twice_in_one = design_of (clk_signal ∷ a1 ∷ y2_net ∷ []) (assign 42 (Both (Whole y2_net) (Whole y2_net)) (Name a1) ∷ [])

abbrev pub latch : Design
latch = design_of (clk_signal ∷ a1 ∷ y2 ∷ []) (on_star 46 (If (Name a1) (blocking 63 y2 (dec 1 1)) Empty) ∷ [])

-- `always @(a)`
abbrev pub on_a : Statement → Process
on_a s = Always 0 false (record { signal = a1; edge = Any } ∷ []) s

abbrev pub blocks : List Process → Design
blocks ps = design_of (clk_signal ∷ a1 ∷ b2 ∷ y3 ∷ []) ps

abbrev pub unlisted : Design
unlisted = blocks (on_a (blocking 10 y3 (Binary BitOr (Name a1) (Name b2))) ∷ [])

abbrev pub mixed_first : Design
mixed_first = blocks (on_a (Then (If (Name b2) (blocking 20 y3 (Name a1)) Empty) (nonblocking 30 y3 (Name a1))) ∷ [])

abbrev pub list_second : Design
list_second = blocks (on_a (If (Name b2) (blocking 20 y3 (Name a1)) Empty) ∷ [])

abbrev pub lesser_block : Design
lesser_block = blocks (on_star 0 (If (Name a1) (blocking 20 y3 (Name b2)) Empty) ∷ on_star 40 (nonblocking 50 y3 (Name a1)) ∷ [])

abbrev pub first_in_text : Design
first_in_text = blocks (on_star 0 (Case Exact (Name a1) (Arm (items_of (dec 1 1 ∷ [])) (nonblocking 30 y3 (Name b2)) (Default (nonblocking 20 y3 (Name a1))))) ∷ [])

pub record RefusalsComputed : Type 0 where
  -- 1,024 products of 64 bits are too large
  pub too_large_refused : width_refusal (design_of (clk_signal ∷ a64 ∷ b64 ∷ y64 ∷ []) (replicate 1024 (assign 0 (Whole y64) (Binary Multiply (Name a64) (Name b64))))) ≡ Some (TooLarge 16842881)
  -- a block that waits on a net: `assign w = 1'b0; always @* y = w;`
  pub unformed_refused : clock_refusal unformed clk ≡ Some (ResetForm 0 60)
  -- `d == 1'b1` of posedge, and `0 === d` of negedge; `d == 1'b0` of posedge isn't one, nor `d == 2'sb01` of a signed d, which is -1 where it is 1
  pub compared_passes : clock_refusal (reset_when Posedge d1 (Binary Equal (Name d1) (dec 1 1))) clk ≡ None
  pub turned_passes : clock_refusal (reset_when Negedge d1 (Binary CaseEqual (dec 32 0) (Name d1))) clk ≡ None
  pub compared_refused : clock_refusal (reset_when Posedge d1 (Binary Equal (Name d1) (dec 1 0))) clk ≡ Some (ResetForm 0 60)
  pub signed_refused : clock_refusal (reset_when Posedge d1_signed (Binary Equal (Name d1_signed) (Literal (One ∷ Zero ∷ []) true true))) clk ≡ Some (ResetForm 0 60)
  pub own_reset_refused : clock_refusal own_reset clk ≡ Some (NotTheClock 0 60)
  pub on_net_refused : zero_refusal on_net clk ≡ Some (TimeZero 1 62)
  -- a block that waits on a register that may be written twice in a run
  pub stirred_refused : zero_refusal stirred clk ≡ Some (TimeZero 1 90)
  -- `assign a = b; assign b = a;` is a cycle
  pub loop_refused : has_no_cycle loop ≡ false
  pub loop_is_one : IsCycle loop (0 ∷ 1 ∷ [])
  -- `assign c2 = clk & en; always @(posedge c2) q <= d;` reads the clock
  pub gated_refused : clock_refusal gated clk ≡ Some (ClockRead 0 65)
  -- a copy of the clock is a clock net, and no value either
  pub alias_read_refused : clock_refusal alias_read clk ≡ Some (ClockRead 1 82)
  -- a concatenation is no name alone
  pub joined_alias_refused : clock_refusal joined_alias clk ≡ Some (ClockRead 0 65)
  -- a clocked block on another net
  pub other_clock_refused : clock_refusal other_clock clk ≡ Some (NotTheClock 1 87)
  pub no_clock_refused : clock_refusal gated (codes "clock" ∷ []) ≡ Some NoClock
  -- of two clocks neither is a value; where one of them isn't named it is one
  pub clock_value_refused : clock_refusal clock_value_read c_and_e ≡ Some (ClockRead 1 95)
  pub clock_value_passes : clock_refusal clock_value_read (codes "c" ∷ []) ≡ None
  -- and a clocked block on it is on another net
  pub unnamed_clock_refused : clock_refusal two_clocks (codes "c" ∷ []) ≡ Some (NotTheClock 1 95)
  -- each name is a one-bit input's, and none is there twice
  pub no_second_clock_refused : clock_refusal two_clocks (codes "c" ∷ codes "p" ∷ []) ≡ Some NoClock
  pub clock_twice_refused : clock_refusal two_clocks (codes "c" ∷ codes "e" ∷ codes "c" ∷ []) ≡ Some NoClock
  -- without a clock a clocked block is on none
  pub free_counter_refused : clock_refusal counter [] ≡ Some (NotTheClock 0 54)
  -- `assign y = {a, 1'b0};` with an a of 64 bits
  pub too_wide_refused : width_refusal too_wide ≡ Some (TooWide 60)
  -- a division stands within the brackets round it: in `((a / b))` at 60 it is at 62
  pub divided_refused : width_refusal divided ≡ Some (Division 62)
  -- at one place TooWide comes before Division, and a lesser process before both
  pub wide_division_refused : width_refusal wide_division ≡ Some (TooWide 60)
  pub by_process_refused : width_refusal by_process ≡ Some (Division 80)
  -- `assign y = a; assign y = ~a;` has two drivers
  pub driven_twice_refused : driver_refusal driven_twice ≡ Some (TwoDrivers 2 0 1 56)
  -- an assign that has a bit twice is two
  pub twice_in_one_refused : driver_refusal twice_in_one ≡ Some (TwoDrivers 2 0 0 42)
  -- `always @* if (a) y = 1'b1;` has a latch
  pub latch_refused : block_refusal latch ≡ Some (Latch 0 2 46)
  -- `always @(a) y = a | b;` waits on a alone
  pub unlisted_refused : block_refusal unlisted ≡ Some (Sensitivity 0 2 0)
  -- of one block a mixed assignment comes first, then the event list, then a latch; of two blocks that of the lesser
  pub mixed_first_refused : block_refusal mixed_first ≡ Some (MixedAssign 30)
  pub list_second_refused : block_refusal list_second ≡ Some (Sensitivity 0 2 0)
  pub lesser_block_refused : block_refusal lesser_block ≡ Some (Latch 0 3 0)
  -- of two mixed assignments the first in the text is answered, also where it stands in the default
  pub first_in_text_refused : block_refusal first_in_text ≡ Some (MixedAssign 20)
  -- nothing refuses the others
  pub and_gate_passes : IsUnrefused and_gate clk
