-- Worked texts.
use Rattle.std.specs.Prelude.{◌≡◌, ℕ, true, false, List, [], ◌∷◌, slice_index_or, codes, None, Some}
use Rattle.std.specs.List.{flat_map}
use Rattle.vs_four.specs.declared.Bit4.TheVariants.{Zero, One, X, Z}
use Rattle.vs_four.specs.Logic.{BitList}
use Rattle.vs_net.specs.Network.{State}
use Rattle.vs_design.specs.Expressions.{Signal}
use Rattle.vs_design.specs.Designs.{Scope, Design}
use Rattle.vs_design.specs.ExampleParts.{input_of, wire_of, reg_of, to_zero, clk_signal}
use Rattle.vs_vcd.specs.Numerals.{decimal, identifier}
use Rattle.vs_vcd.specs.Values.{line, value_line}
use Rattle.vs_vcd.specs.Scopes.{variable_line}
use Rattle.vs_vcd.specs.Texts.{vcd}

abbrev pub lines : List (List ℕ) → List ℕ
lines texts = flat_map line texts

-- the state with these values of bits 0, 1, ..
abbrev pub state_of : BitList → State
state_of bits n = slice_index_or bits n X

abbrev pub top : Scope
top = record { name = codes "top"; parent = None; instance = true }

abbrev pub block_of_top : List ℕ → Scope
block_of_top name = record { name = name; parent = Some 0; instance = false }

abbrev pub design_with : List Scope → List Signal → Design
design_with scopes signals = record { scopes = scopes; signals = signals; processes = []; initials = []; functions = [] }

-- `module top(input clk, input a, input b, output y); assign y = a & b; endmodule`
abbrev pub and_design : Design
and_design = design_with (top ∷ []) (clk_signal ∷ input_of (codes "a") 1 None 1 ∷ input_of (codes "b") 2 None 2 ∷ wire_of (codes "y") 3 None 3 ∷ [])

-- a is 1, and b is 0 and then 1
abbrev pub and_ends : List State
and_ends = state_of (Zero ∷ One ∷ Zero ∷ Zero ∷ []) ∷ state_of (One ∷ One ∷ Zero ∷ Zero ∷ []) ∷ state_of (Zero ∷ One ∷ One ∷ One ∷ []) ∷ state_of (One ∷ One ∷ One ∷ One ∷ []) ∷ []

abbrev pub and_text : List ℕ
and_text = lines (
    codes "$version cyclesim $end" ∷ codes "$timescale 1ns $end" ∷ codes "$scope module top $end" ∷
    codes "$var wire 1 ! clk $end" ∷ codes "$var wire 1 \" a $end" ∷ codes "$var wire 1 # b $end" ∷ codes "$var wire 1 $ y $end" ∷
    codes "$upscope $end" ∷ codes "$enddefinitions $end" ∷
    codes "#0" ∷ codes "$dumpvars" ∷ codes "0!" ∷ codes "1\"" ∷ codes "0#" ∷ codes "0$" ∷ codes "$end" ∷
    codes "#5" ∷ codes "1!" ∷ codes "#10" ∷ codes "0!" ∷ codes "1#" ∷ codes "1$" ∷ codes "#15" ∷ codes "1!" ∷ codes "#20" ∷ [])

-- `module top(input clk, input rst, output reg [3:0] q); always @(posedge clk) if (rst) q <= 4'd0; else q <= q + 4'd1; endmodule`
abbrev pub register_design : Design
register_design = design_with (top ∷ []) (clk_signal ∷ input_of (codes "rst") 1 None 1 ∷ reg_of (codes "q") 2 (to_zero 3) 2 ∷ [])

-- rst is 1 and then 0
abbrev pub register_ends : List State
register_ends = state_of (Zero ∷ One ∷ X ∷ X ∷ X ∷ X ∷ []) ∷ state_of (One ∷ One ∷ Zero ∷ Zero ∷ Zero ∷ Zero ∷ []) ∷ state_of (Zero ∷ Zero ∷ Zero ∷ Zero ∷ Zero ∷ Zero ∷ []) ∷ state_of (One ∷ Zero ∷ One ∷ Zero ∷ Zero ∷ Zero ∷ []) ∷ []

abbrev pub register_text : List ℕ
register_text = lines (
    codes "$version cyclesim $end" ∷ codes "$timescale 1ns $end" ∷ codes "$scope module top $end" ∷
    codes "$var wire 1 ! clk $end" ∷ codes "$var wire 1 \" rst $end" ∷ codes "$var reg 4 # q [3:0] $end" ∷
    codes "$upscope $end" ∷ codes "$enddefinitions $end" ∷
    codes "#0" ∷ codes "$dumpvars" ∷ codes "0!" ∷ codes "1\"" ∷ codes "bx #" ∷ codes "$end" ∷
    codes "#5" ∷ codes "1!" ∷ codes "b0 #" ∷ codes "#10" ∷ codes "0!" ∷ codes "0\"" ∷ codes "#15" ∷ codes "1!" ∷ codes "b1 #" ∷ codes "#20" ∷ [])

-- an adder of four bits by a loop of generate blocks `g` without signals of their own
abbrev pub adder_design : Design
adder_design = design_with
    (top ∷ block_of_top (codes "g[0]") ∷ block_of_top (codes "g[1]") ∷ block_of_top (codes "g[2]") ∷ block_of_top (codes "g[3]") ∷ [])
    (clk_signal ∷ input_of (codes "a") 1 (to_zero 3) 1 ∷ input_of (codes "b") 2 (to_zero 3) 5 ∷ wire_of (codes "s") 3 (to_zero 3) 9 ∷ wire_of (codes "c") 4 (to_zero 4) 13 ∷ [])

-- a is 0111 and b is 0011
abbrev pub adder_bits : BitList
adder_bits = One ∷ One ∷ One ∷ Zero ∷ One ∷ One ∷ Zero ∷ Zero ∷ Zero ∷ One ∷ Zero ∷ One ∷ Zero ∷ One ∷ One ∷ One ∷ Zero ∷ []

abbrev pub adder_ends : List State
adder_ends = state_of (Zero ∷ adder_bits) ∷ state_of (One ∷ adder_bits) ∷ []

abbrev pub adder_text : List ℕ
adder_text = lines (
    codes "$version cyclesim $end" ∷ codes "$timescale 1ns $end" ∷ codes "$scope module top $end" ∷
    codes "$var wire 1 ! clk $end" ∷ codes "$var wire 4 \" a [3:0] $end" ∷ codes "$var wire 4 # b [3:0] $end" ∷ codes "$var wire 4 $ s [3:0] $end" ∷ codes "$var wire 5 % c [4:0] $end" ∷
    codes "$scope begin g[0] $end" ∷ codes "$upscope $end" ∷ codes "$scope begin g[1] $end" ∷ codes "$upscope $end" ∷
    codes "$scope begin g[2] $end" ∷ codes "$upscope $end" ∷ codes "$scope begin g[3] $end" ∷ codes "$upscope $end" ∷
    codes "$upscope $end" ∷ codes "$enddefinitions $end" ∷
    codes "#0" ∷ codes "$dumpvars" ∷ codes "0!" ∷ codes "b111 \"" ∷ codes "b11 #" ∷ codes "b1010 $" ∷ codes "b1110 %" ∷ codes "$end" ∷
    codes "#5" ∷ codes "1!" ∷ codes "#10" ∷ [])

-- an instance u with a block in it, and then an instance v
abbrev pub nested_scopes : List Scope
nested_scopes = top ∷ record { name = codes "u"; parent = Some 0; instance = true } ∷ record { name = codes "g"; parent = Some 1; instance = false } ∷ record { name = codes "v"; parent = Some 0; instance = true } ∷ []

abbrev pub reg_in : ℕ → ℕ → Signal
reg_in scope number = record { name = codes "r"; scope = scope; number = number; net = false; input = false; range = None; signed = false; first = number; words = None; integer = false }

abbrev pub nested_design : Design
nested_design = design_with nested_scopes (reg_in 0 0 ∷ reg_in 1 1 ∷ reg_in 2 2 ∷ reg_in 3 3 ∷ [])

abbrev pub nested_text : List ℕ
nested_text = lines (
    codes "$version cyclesim $end" ∷ codes "$timescale 1ns $end" ∷ codes "$scope module top $end" ∷ codes "$var reg 1 ! r $end" ∷
    codes "$scope module u $end" ∷ codes "$var reg 1 \" r $end" ∷ codes "$scope begin g $end" ∷ codes "$var reg 1 # r $end" ∷ codes "$upscope $end" ∷ codes "$upscope $end" ∷
    codes "$scope module v $end" ∷ codes "$var reg 1 $ r $end" ∷ codes "$upscope $end" ∷
    codes "$upscope $end" ∷ codes "$enddefinitions $end" ∷
    codes "#0" ∷ codes "$dumpvars" ∷ codes "x!" ∷ codes "z\"" ∷ codes "x#" ∷ codes "x$" ∷ codes "$end" ∷ codes "#7" ∷ [])

-- a memory of two words of two bits, whose number is between those of the clock and of q
abbrev pub words_of_two : Signal
words_of_two = record (reg_of (codes "m") 1 (to_zero 1) 1) { words = to_zero 1 }

abbrev pub memory_design : Design
memory_design = design_with (top ∷ []) (clk_signal ∷ words_of_two ∷ reg_of (codes "q") 2 None 5 ∷ [])

-- a word gets a value, and then q
abbrev pub memory_ends : List State
memory_ends = state_of (Zero ∷ X ∷ X ∷ X ∷ X ∷ X ∷ []) ∷ state_of (One ∷ One ∷ Zero ∷ X ∷ X ∷ X ∷ []) ∷ state_of (One ∷ One ∷ Zero ∷ X ∷ X ∷ One ∷ []) ∷ []

abbrev pub memory_text : List ℕ
memory_text = lines (
    codes "$version cyclesim $end" ∷ codes "$timescale 1ns $end" ∷ codes "$scope module top $end" ∷
    codes "$var wire 1 ! clk $end" ∷ codes "$var reg 1 # q $end" ∷
    codes "$upscope $end" ∷ codes "$enddefinitions $end" ∷
    codes "#0" ∷ codes "$dumpvars" ∷ codes "0!" ∷ codes "x#" ∷ codes "$end" ∷
    codes "#5" ∷ codes "1!" ∷ codes "#10" ∷ codes "1#" ∷ codes "#15" ∷ [])

-- the line of an integer
abbrev pub integer_of : ℕ → Signal
integer_of number = record (reg_of (codes "n") number (to_zero 31) 0) { signed = true; integer = true }

abbrev pub TextsComputed : Type 0
TextsComputed = (vcd and_design 5 and_ends ≡ and_text) × (vcd register_design 5 register_ends ≡ register_text)
    × (vcd adder_design 5 adder_ends ≡ adder_text) × (vcd nested_design 7 (state_of (X ∷ Z ∷ X ∷ X ∷ []) ∷ []) ≡ nested_text)
    × (vcd memory_design 5 memory_ends ≡ memory_text) × (variable_line (integer_of 3) ≡ line (codes "$var integer 32 $ n $end"))

-- bits least significant first, digits most significant first
abbrev pub DigitsComputed : Type 0
DigitsComputed = (value_line 0 (Zero ∷ Zero ∷ Zero ∷ Zero ∷ []) ≡ line (codes "b0 !")) × (value_line 0 (One ∷ X ∷ Zero ∷ Zero ∷ []) ≡ line (codes "b0x1 !"))
    × (value_line 0 (One ∷ Zero ∷ X ∷ Zero ∷ []) ≡ line (codes "b0x01 !")) × (value_line 0 (Zero ∷ Zero ∷ X ∷ X ∷ []) ≡ line (codes "bx00 !"))
    × (value_line 0 (Zero ∷ Z ∷ Z ∷ Z ∷ []) ≡ line (codes "bz0 !")) × (value_line 0 (Z ∷ Z ∷ Z ∷ Z ∷ []) ≡ line (codes "bz !"))
    × (value_line 0 (One ∷ One ∷ One ∷ One ∷ []) ≡ line (codes "b1111 !")) × (value_line 1 (Z ∷ []) ≡ line (codes "z\""))

abbrev pub NumeralsComputed : Type 0
NumeralsComputed = (identifier 0 ≡ codes "!") × (identifier 93 ≡ codes "~") × (identifier 94 ≡ codes "!\"") × (identifier 95 ≡ codes "\"\"") × (identifier 188 ≡ codes "!#")
    × (decimal 0 ≡ codes "0") × (decimal 10 ≡ codes "10") × (decimal 1048576 ≡ codes "1048576")
