-- Worked values.
use Rattle.std.specs.Prelude.{◌≡◌, ◌-◌, ◌^◌, true, false, [], ◌∷◌, ◌++◌, replicate, Some, None}
use Rattle.vs_four.specs.declared.Bit4.TheVariants.{Zero, One, X, Z}
use Rattle.vs_four.specs.Numbers.{bits_of}
use Rattle.vs_four.specs.Selects.{places, one_bit}
use Rattle.vs_net.specs.Network.{State}
use Rattle.vs_design.specs.Expressions.{OfConstant, Plus, BitNot, ReduceAnd, Signed, Add, Multiply, Divide, Remainder, Power, Less, Equal, CaseEqual, ShiftLeft, ShiftRightArith, Expression, Literal, Select, Unary, Binary, Choice}
use Rattle.vs_design.specs.Values.{constant_value, assigned_value}
use Rattle.vs_design.specs.ExampleParts.{lit, dec, sdec, plain, range_of, upward, downward}

abbrev pub all_unknown : State
all_unknown b = X

abbrev pub shifted : Expression
shifted = Binary ShiftRightArith (sdec 8 0xF0) (plain 2)

pub record ValuesComputed : Type 0 where
  -- `4'b1x0x == 4'b0xxx` is 0: two known bits differ
  pub equal_differs : constant_value (Binary Equal (lit (X ∷ Zero ∷ X ∷ One ∷ [])) (lit (X ∷ X ∷ X ∷ Zero ∷ []))) ≡ Zero ∷ []
  -- `4'b1x0x == 4'b1x00` is x
  pub equal_unknown : constant_value (Binary Equal (lit (X ∷ Zero ∷ X ∷ One ∷ [])) (lit (Zero ∷ Zero ∷ X ∷ One ∷ []))) ≡ X ∷ []
  -- `4'b1x0x === 4'b1x00` is 0
  pub identical : constant_value (Binary CaseEqual (lit (X ∷ Zero ∷ X ∷ One ∷ [])) (lit (Zero ∷ Zero ∷ X ∷ One ∷ []))) ≡ Zero ∷ []
  -- `8'shF0 >>> 2` is `8'hFC`
  pub shift_signed : constant_value shifted ≡ bits_of 8 0xFC
  -- in `(8'shF0 >>> 2) + 8'h00` it is `8'h3C`: the context is unsigned
  pub shift_in_unsigned : constant_value (Binary Add shifted (dec 8 0)) ≡ bits_of 8 0x3C
  -- `8'hFF + 8'h01` into nine bits is `9'h100`: operands are extended at the leaves
  pub extended_at_leaves : assigned_value (Binary Add (dec 8 0xFF) (dec 8 1)) 9 all_unknown ≡ bits_of 9 0x100
  -- `~4'h0` into sixteen bits has ones in the upper bits too, also through a port
  pub complement_wider : assigned_value (Unary BitNot (dec 4 0)) 16 all_unknown ≡ bits_of 16 0xFFFF
  -- one unknown bit makes a sum all x
  pub sum_unknown : assigned_value (Binary Add (lit (One ∷ Zero ∷ X ∷ Zero ∷ [])) (dec 4 1)) 4 all_unknown ≡ replicate 4 X
  pub sum_known : assigned_value (Binary Add (dec 4 5) (dec 4 1)) 4 all_unknown ≡ bits_of 4 6
  -- the product of two numbers of 64 ones is 1
  pub product : constant_value (Binary Multiply (dec 64 (2 ^ 64 - 1)) (dec 64 (2 ^ 64 - 1))) ≡ bits_of 64 1
  -- `'bx` into 64 bits is all x, since it has no size
  pub unsized_unknown : assigned_value (Literal (replicate 32 X) false false) 64 all_unknown ≡ replicate 64 X
  -- a parameter with that value is extended by 0 like any value of its length
  pub parameter_unknown : assigned_value (Literal (replicate 32 X) false true) 64 all_unknown ≡ replicate 32 X ++ replicate 32 Zero
  -- `$signed(2'b10)` into four bits repeats its top bit, and in an unsigned sum doesn't
  pub signed_extends : assigned_value (Unary Signed (dec 2 2)) 4 all_unknown ≡ bits_of 4 14
  pub signed_in_unsigned : assigned_value (Binary Add (Unary Signed (dec 2 2)) (dec 4 0)) 4 all_unknown ≡ bits_of 4 2
  -- `2'sb11 < 2'sb00` is 1, and `2'sb11 < 2'b00` is 0
  pub less_signed : constant_value (Binary Less (sdec 2 3) (sdec 2 0)) ≡ One ∷ []
  pub less_unsigned : constant_value (Binary Less (sdec 2 3) (dec 2 0)) ≡ Zero ∷ []
  -- z bits are moved by shifts and selects
  pub shift_keeps_z : constant_value (Binary ShiftLeft (lit (Z ∷ One ∷ Zero ∷ [])) (dec 2 1)) ≡ Zero ∷ Z ∷ One ∷ []
  pub select_keeps_z : constant_value (Select (OfConstant (Z ∷ One ∷ [])) (one_bit (range_of 1 0)) (dec 1 0)) ≡ Z ∷ []
  -- and kept by `?:` under a known condition and by unary `+`; under an unknown one equal known bits stay
  pub choice_keeps_z : constant_value (Choice (dec 1 1) (lit (Z ∷ One ∷ [])) (dec 2 0)) ≡ Z ∷ One ∷ []
  pub choice_unknown : constant_value (Choice (lit (X ∷ [])) (lit (Z ∷ One ∷ One ∷ [])) (lit (Z ∷ One ∷ Zero ∷ []))) ≡ X ∷ One ∷ X ∷ []
  pub plus_keeps_z : constant_value (Unary Plus (lit (Z ∷ One ∷ []))) ≡ Z ∷ One ∷ []
  -- the reduction of a single z is x
  pub reduction_of_z : constant_value (Unary ReduceAnd (lit (Z ∷ []))) ≡ X ∷ []
  -- `-7 / 2` is -3 and `-7 % 2` is -1; by 0 all bits are x
  pub quotient : constant_value (Binary Divide (sdec 4 9) (sdec 4 2)) ≡ bits_of 4 13
  pub remainder : constant_value (Binary Remainder (sdec 4 9) (sdec 4 2)) ≡ bits_of 4 15
  pub by_zero : constant_value (Binary Divide (dec 4 9) (dec 4 0)) ≡ replicate 4 X
  -- `4'd3 ** 2'd2` is 9 and `4'd3 ** 2'd3` 11, modulo 16
  pub power : constant_value (Binary Power (dec 4 3) (dec 2 2)) ≡ bits_of 4 9
  pub power_modulo : constant_value (Binary Power (dec 4 3) (dec 2 3)) ≡ bits_of 4 11
  -- of a negative exponent: -1 by an odd one is -1, and by an even one 1; 15 is no -1; 0 has no power
  pub odd_reciprocal : constant_value (Binary Power (sdec 4 15) (sdec 4 13)) ≡ bits_of 4 15
  pub even_reciprocal : constant_value (Binary Power (sdec 4 15) (sdec 4 14)) ≡ bits_of 4 1
  pub unsigned_reciprocal : constant_value (Binary Power (dec 4 15) (sdec 4 14)) ≡ bits_of 4 0
  pub zero_reciprocal : constant_value (Binary Power (sdec 4 0) (sdec 4 14)) ≡ replicate 4 X
  -- an exponent without a sign isn't negative
  pub large_exponent : constant_value (Binary Power (sdec 4 15) (dec 4 13)) ≡ bits_of 4 15
  -- `[3:3]` counts as descending: `[3 +: 2]` begins with its one bit, and `[3 -: 2]` ends with it
  pub one_bit_upward : places (upward (range_of 3 3) 2) false (bits_of 32 3) ≡ Some 0 ∷ None ∷ []
  pub one_bit_downward : places (downward (range_of 3 3) 2) false (bits_of 32 3) ≡ None ∷ Some 0 ∷ []
  -- of `[0:7]` the part `[2 +: 3]` has the indices 2, 3 and 4, and 4 is the least significant
  pub ascending : places (upward (range_of 0 7) 3) false (bits_of 32 2) ≡ Some 3 ∷ Some 4 ∷ Some 5 ∷ []
  -- an index is negative where it is signed and its top bit is 1; one with an x bit has no bits
  pub negative_index : places (upward (range_of 3 0) 2) true (One ∷ One ∷ []) ≡ None ∷ Some 0 ∷ []
  pub unknown_index : places (upward (range_of 3 0) 2) false (One ∷ X ∷ []) ≡ None ∷ None ∷ []
  -- a select out of range is x
  pub select_out_of_range : constant_value (Select (OfConstant (One ∷ One ∷ [])) (upward (range_of 1 0) 2) (dec 2 1)) ≡ One ∷ X ∷ []
