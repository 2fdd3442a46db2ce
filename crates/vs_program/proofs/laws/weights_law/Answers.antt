use Rattle.std.proofs.Common.{ℕ, ◌+◌, Bool, refl, arith, mul_assoc}
use Rattle.vs_four.specs.Selects.{range_length}
use Rattle.vs_kern_select.specs.declared.costs.Selection.{Selection}
use Rattle.vs_design.specs.Expressions.{Signal}
use Rattle.vs_program.specs.Weights.{LogicWeights, ArithmeticWeights, SelectWeights, WordWeights}
use Rattle.vs_program.proofs.laws.weights_law.Goals as goal

logic_weights : (w m n : ℕ) → LogicWeights w m n
logic_weights w m n = record {
  not = refl;
  and = refl;
  or = refl;
  xor = refl;
  xnor = refl;
  reduce_and = refl;
  reduce_nand = refl;
  reduce_or = refl;
  reduce_nor = refl;
  reduce_xor = refl;
  reduce_xnor = refl;
  logical_not = refl;
  logical_and = refl;
  logical_or = refl;
  equal = refl;
  not_equal = refl;
  case_equal = refl;
  case_not_equal = refl;
  item_z = refl;
  item_x = refl;
  item = omega arith;
}

arithmetic_weights : (w m n : ℕ) (signed : Bool) → ArithmeticWeights w m n signed
arithmetic_weights w m n signed = record {
  add = refl;
  subtract = refl;
  multiply = refl;
  negate = refl;
  less = refl;
  less_equal = refl;
  greater = refl;
  greater_equal = refl;
}

select_weights : (w m n k : ℕ) (s : Selection) → SelectWeights w m n k s
select_weights w m n k s = record {
  shift_left = refl;
  shift_right = refl;
  shift_left_signed = refl;
  shift_right_unsigned = refl;
  shift_right_signed = refl;
  selected = mul_assoc k (range_length s.range) n;
  written = mul_assoc k (range_length s.range) (n + 1);
  choice = refl;
  branch = refl;
}

word_weights : (signal : Signal) (n : ℕ) (signed : Bool) → WordWeights signal n signed
word_weights signal n signed = record { read = refl; written = refl }

pub returns : goal.returns
returns c = record { logic = logic_weights; arithmetic = arithmetic_weights; selects = select_weights; words = word_weights }
