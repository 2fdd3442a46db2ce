-- Worked full cases: which patterns cover, which blocks are accepted, their select inputs, sets and values at the end of each slot, and what is refused.
use Rattle.std.specs.Prelude.{◌≡◌, ℕ, true, false, List, [], ◌∷◌, ◌++◌, None, Some, codes}
use Rattle.vs_four.specs.declared.Bit4.TheVariants.{Zero, One, X, Z}
use Rattle.vs_four.specs.Logic.{BitList}
use Rattle.vs_design.specs.Expressions.{Signal, BitNot, Name, Unary, Join, Expression, items_of}
use Rattle.vs_design.specs.Statements.{CaseKind, Exact, CaseZ, CaseX, Whole, Statement, Empty, Then, Case, Arms, Arm, Default}
use Rattle.vs_design.specs.Designs.{InputPort, Continuous, Design}
use Rattle.vs_design.specs.Sizes.{size}
use Rattle.vs_design.specs.Latches.{latch_bits}
use Rattle.vs_design.specs.Sets.{any_value, known_set}
use Rattle.vs_design.specs.Levels.{level_order}
use Rattle.vs_design.specs.TimeZero.{families}
use Rattle.vs_design.specs.Covers.{Pattern, patterns_of, splits, covers}
use Rattle.vs_design.specs.Selects.{select_root, is_lenient, selectors_at, select_inputs, select_bits}
use Rattle.vs_design.specs.Refusals.{Latch, block_refusal, ClockRead, clock_refusal}
use Rattle.vs_design.specs.Accepted.{IsAcceptedDesign}
use Rattle.vs_design.specs.ExampleParts.{input_of, reg_of, clk, clk_signal, dec, plain, blocking, on_star, design_of, free_ends}

-- the patterns of these items, least significant bit first
abbrev pub patterns : CaseKind → ℕ → List BitList → List Pattern
patterns kind n [] = []
patterns kind n (v ∷ vs) = patterns_of kind n v ++ patterns kind n vs

-- `module top(input s, input a, input b, output reg y); always @* case (s) 1'b0: y = a; 1'b1: y = b; endcase endmodule`
abbrev pub s0 : Signal
s0 = input_of (codes "s") 0 None 0

abbrev pub a1 : Signal
a1 = input_of (codes "a") 1 None 1

abbrev pub b2 : Signal
b2 = input_of (codes "b") 2 None 2

abbrev pub y3 : Signal
y3 = reg_of (codes "y") 3 None 3

-- an arm of one item
abbrev pub arm : Expression → Statement → Arms → Arms
arm e st rest = Arm (items_of (e ∷ [])) st rest

abbrev pub two_arms : Arms
two_arms = arm (dec 1 0) (blocking 75 y3 (Name a1)) (arm (dec 1 1) (blocking 88 y3 (Name b2)) (Default Empty))

abbrev pub selecting : Expression → Design
selecting subject = design_of (s0 ∷ a1 ∷ b2 ∷ y3 ∷ []) (on_star 53 (Case Exact subject two_arms) ∷ [])

abbrev pub select : Design
select = selecting (Name s0)

-- an arm is missing
abbrev pub one_arm : Design
one_arm = design_of (s0 ∷ a1 ∷ b2 ∷ y3 ∷ []) (on_star 53 (Case Exact (Name s0) (arm (dec 1 0) (blocking 75 y3 (Name a1)) (Default Empty))) ∷ [])

-- `reg t; always @* begin case (s) 0: t = a; 1: t = b; endcase y = t; end`
abbrev pub t4 : Signal
t4 = reg_of (codes "t") 4 None 4

abbrev pub through : Design
through = design_of (s0 ∷ a1 ∷ b2 ∷ y3 ∷ t4 ∷ []) (on_star 60 (Then (Case Exact (Name s0) (arm (plain 0) (blocking 80 t4 (Name a1)) (arm (plain 1) (blocking 90 t4 (Name b2)) (Default Empty)))) (blocking 105 y3 (Name t4))) ∷ [])

-- `begin case (s) 0: t = a; 1: y = b; endcase y = t; end`: t is left as it was where s is 1
abbrev pub half_open : Design
half_open = design_of (s0 ∷ a1 ∷ b2 ∷ y3 ∷ t4 ∷ []) (on_star 60 (Then (Case Exact (Name s0) (arm (plain 0) (blocking 80 t4 (Name a1)) (arm (plain 1) (blocking 90 y3 (Name b2)) (Default Empty)))) (blocking 105 y3 (Name t4))) ∷ [])

-- the selector is a net that an input port copies
abbrev pub n5 : Signal
n5 = record { name = codes "s"; scope = 0; number = 4; net = true; input = false; range = None; signed = false; first = 4; words = None; integer = false }

abbrev pub copied : Design
copied = design_of (s0 ∷ a1 ∷ b2 ∷ y3 ∷ n5 ∷ []) (Continuous 40 InputPort 44 (Whole n5) (Name s0) ∷ on_star 53 (Case Exact (Name n5) two_arms) ∷ [])

-- the clock as a selector
abbrev pub clocked : Design
clocked = design_of (clk_signal ∷ a1 ∷ b2 ∷ y3 ∷ []) (on_star 53 (Case Exact (Name clk_signal) two_arms) ∷ [])

pub record SelectsComputed : Type 0 where
  -- `casez (v) 4'b1???: .. 4'b01??: .. 4'b001?: .. 4'b000?: ..`, and with `4'b0001` at the end
  pub priority : covers 4 (patterns CaseZ 4 ((Z ∷ Z ∷ Z ∷ One ∷ []) ∷ (Z ∷ Z ∷ One ∷ Zero ∷ []) ∷ (Z ∷ One ∷ Zero ∷ Zero ∷ []) ∷ (Z ∷ Zero ∷ Zero ∷ Zero ∷ []) ∷ [])) ≡ true
  pub priority_splits : splits 4 (patterns CaseZ 4 ((Z ∷ Z ∷ Z ∷ One ∷ []) ∷ (Z ∷ Z ∷ One ∷ Zero ∷ []) ∷ (Z ∷ One ∷ Zero ∷ Zero ∷ []) ∷ (Z ∷ Zero ∷ Zero ∷ Zero ∷ []) ∷ [])) ≡ Some 3
  pub but_zero : covers 4 (patterns CaseZ 4 ((Z ∷ Z ∷ Z ∷ One ∷ []) ∷ (Z ∷ Z ∷ One ∷ Zero ∷ []) ∷ (Z ∷ One ∷ Zero ∷ Zero ∷ []) ∷ (One ∷ Zero ∷ Zero ∷ Zero ∷ []) ∷ [])) ≡ false
  -- `4'b1??0, 4'b0??0, 4'b?0?1, 4'b?1?1`
  pub crossed : covers 4 (patterns CaseZ 4 ((Zero ∷ Z ∷ Z ∷ One ∷ []) ∷ (Zero ∷ Z ∷ Z ∷ Zero ∷ []) ∷ (One ∷ Z ∷ Zero ∷ Z ∷ []) ∷ (One ∷ Z ∷ One ∷ Z ∷ []) ∷ [])) ≡ true
  -- an x matches known bits in a `casex` alone, and a z in both
  pub exact_unknown : patterns_of Exact 1 (X ∷ []) ≡ []
  pub casez_unknown : patterns_of CaseZ 1 (X ∷ []) ≡ []
  pub casez_free : patterns_of CaseZ 1 (Z ∷ []) ≡ (known_set ∷ []) ∷ []
  pub casex_free : patterns_of CaseX 1 (X ∷ []) ≡ (known_set ∷ []) ∷ []
  -- beyond the selector's bits an item has to match 0
  pub long_matches : patterns_of CaseZ 1 (Z ∷ Zero ∷ []) ≡ (known_set ∷ []) ∷ []
  pub long_differs : patterns_of CaseZ 1 (Z ∷ One ∷ []) ≡ []
  -- the row of two arms: bits s, a, b, y
  pub select_size : size select ≡ 12
  pub select_as_it_stands : latch_bits (Case Exact (Name s0) two_arms) ≡ 3 ∷ 3 ∷ []
  pub select_lenient : is_lenient (Case Exact (Name s0) two_arms) ≡ true
  pub select_accepted : IsAcceptedDesign select []
  pub select_is : select_inputs select ≡ s0 ∷ []
  pub select_selectors : selectors_at select 0 ≡ 0 ∷ []
  pub select_early : (families select (4 ∷ []) (level_order select)).early 3 ≡ any_value
  pub select_late : (families select (4 ∷ []) (level_order select)).late 3 ≡ known_set
  pub select_ends : free_ends select (Zero ∷ One ∷ Zero ∷ []) ((One ∷ One ∷ X ∷ []) ∷ []) ≡
      ((Zero ∷ One ∷ Zero ∷ One ∷ []) ∷ (Zero ∷ One ∷ Zero ∷ One ∷ []) ∷ (One ∷ One ∷ X ∷ X ∷ []) ∷ (One ∷ One ∷ X ∷ X ∷ []) ∷ [])
  -- an operator makes no selector, and an arm may be missing
  pub inverted_refused : block_refusal (selecting (Unary BitNot (Name s0))) ≡ Some (Latch 0 3 53)
  pub one_arm_refused : block_refusal one_arm ≡ Some (Latch 0 3 53)
  -- literals of the selector count among its bits: `{1'b0, s}` has four values
  pub joined_open : block_refusal (selecting (Join (dec 1 0) (Name s0))) ≡ Some (Latch 0 3 53)
  -- what is read behind a full case is assigned there; bits s, a, b, y, t
  pub through_accepted : IsAcceptedDesign through []
  pub through_ends : free_ends through (Zero ∷ One ∷ Zero ∷ []) ((One ∷ One ∷ Zero ∷ []) ∷ []) ≡
      ((Zero ∷ One ∷ Zero ∷ One ∷ One ∷ []) ∷ (Zero ∷ One ∷ Zero ∷ One ∷ One ∷ []) ∷ (One ∷ One ∷ Zero ∷ Zero ∷ Zero ∷ []) ∷ (One ∷ One ∷ Zero ∷ Zero ∷ Zero ∷ []) ∷ [])
  -- the bit that the second search finds is told
  pub half_open_refused : block_refusal half_open ≡ Some (Latch 0 4 60)
  -- a net's root is the input that it copies
  pub copied_root : select_root copied n5 ≡ Some s0
  pub copied_is : select_inputs copied ≡ s0 ∷ []
  pub copied_bits : select_bits copied ≡ 0 ∷ 4 ∷ []
  pub copied_accepted : IsAcceptedDesign copied []
  -- the clock is read there
  pub clocked_passes : block_refusal clocked ≡ None
  pub clocked_refused : clock_refusal clocked clk ≡ Some (ClockRead 0 53)
