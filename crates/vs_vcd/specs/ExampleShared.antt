-- Worked texts with one code for each class.
use Rattle.std.specs.Prelude.{◌≡◌, ℕ, true, List, [], ◌∷◌, map, codes, None, Some}
use Rattle.vs_four.specs.declared.Bit4.TheVariants.{Zero, One}
use Rattle.vs_net.specs.Network.{State}
use Rattle.vs_design.specs.Expressions.{Signal, Name, At, Unary, BitNot}
use Rattle.vs_design.specs.Statements.{Whole}
use Rattle.vs_design.specs.Designs.{Scope, Port, Written, InputPort, OutputPort, Process, Continuous, Design}
use Rattle.vs_design.specs.ExampleParts.{input_of, wire_of, to_zero, clk_signal, bit, plain}
use Rattle.vs_vcd.specs.ExampleTexts.{lines, state_of, top, and_design, and_ends}
use Rattle.vs_vcd.specs.Texts.{vcd}
use Rattle.vs_vcd.specs.Shared.{join_of, class_code, vcd_shared}

-- an instance of the top
abbrev pub instance_of_top : List ℕ → Scope
instance_of_top name = record { name = name; parent = Some 0; instance = true }

-- a signal of scope 1
abbrev pub inner : Signal → Signal
inner s = record s { scope = 1 }

-- ---- `module inv(input p, output q); assign q = ~p; endmodule module top(input clk, input a, output y); inv g(a, y); endmodule`

abbrev a : Signal
a = input_of (codes "a") 1 None 1

abbrev y : Signal
y = wire_of (codes "y") 2 None 2

abbrev p : Signal
p = inner (wire_of (codes "p") 3 None 3)

abbrev q : Signal
q = inner (wire_of (codes "q") 4 None 4)

abbrev port : Port → Signal → Signal → Process
port kind from to = Continuous 0 kind 0 (Whole to) (At 0 (Name from))

abbrev pub ported_design : Design
ported_design = record {
  scopes = top ∷ instance_of_top (codes "g") ∷ [];
  signals = clk_signal ∷ a ∷ y ∷ p ∷ q ∷ [];
  processes = port InputPort a p ∷ port OutputPort q y ∷ Continuous 0 Written 0 (Whole q) (At 0 (Unary BitNot (At 0 (Name p)))) ∷ [];
  initials = [];
  functions = [];
}

-- a is 1
abbrev pub ported_ends : List State
ported_ends = state_of (Zero ∷ One ∷ Zero ∷ One ∷ Zero ∷ []) ∷ state_of (One ∷ One ∷ Zero ∷ One ∷ Zero ∷ []) ∷ []

abbrev pub ported_text : List ℕ
ported_text = lines (
    codes "$version cyclesim $end" ∷ codes "$timescale 1ns $end" ∷ codes "$scope module top $end" ∷
    codes "$var wire 1 ! clk $end" ∷ codes "$var wire 1 \" a $end" ∷ codes "$var wire 1 # y $end" ∷
    codes "$scope module g $end" ∷ codes "$var wire 1 \" p $end" ∷ codes "$var wire 1 # q $end" ∷ codes "$upscope $end" ∷
    codes "$upscope $end" ∷ codes "$enddefinitions $end" ∷
    codes "#0" ∷ codes "$dumpvars" ∷ codes "0!" ∷ codes "1\"" ∷ codes "0#" ∷ codes "$end" ∷ codes "#5" ∷ codes "1!" ∷ codes "#10" ∷ [])

-- ---- what joins, and what doesn't

abbrev v : Signal
v = input_of (codes "v") 1 (to_zero 3) 1

-- a written assign, a select, another length, an operator, and a port of a vector
abbrev pub JoinsComputed : Type 0
JoinsComputed = (join_of (Continuous 0 Written 0 (Whole y) (Name a)) ≡ None) × (join_of (Continuous 0 InputPort 0 (Whole p) (At 0 (bit v 3 (plain 2)))) ≡ None)
    × (join_of (port InputPort v p) ≡ None) × (join_of (Continuous 0 InputPort 0 (Whole p) (Unary BitNot (Name a))) ≡ None)
    × (join_of (port InputPort v (inner (wire_of (codes "w") 5 (to_zero 3) 5))) ≡ Some (1, 5))

abbrev pub SharedComputed : Type 0
SharedComputed = (vcd_shared ported_design 5 ported_ends ≡ ported_text) × (map (class_code ported_design) (0 ∷ 1 ∷ 2 ∷ 3 ∷ 4 ∷ []) ≡ (0 ∷ 1 ∷ 2 ∷ 1 ∷ 2 ∷ []))
    × (vcd_shared and_design 5 and_ends ≡ vcd and_design 5 and_ends) × JoinsComputed
