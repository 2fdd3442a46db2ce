-- The kernels' own weights against those of the size of a design (`Sizes` of vs_design): each kernel weighs what its operator weighs, so no call of one makes more stores than the operator may.
use Rattle.std.specs.Prelude.{◌≡◌, ◌≤◌, ℕ, ◌+◌, ◌*◌, Bool, [], ◌∷◌, max}
use Rattle.vs_four.specs.Selects.{range_length}
use Rattle.vs_kern_logic.specs.declared.costs.Kernel.TheVariants as logic
use Rattle.vs_kern_logic.specs.Costs as L
use Rattle.vs_kern_arith.specs.declared.costs.Kernel.TheVariants as arith
use Rattle.vs_kern_arith.specs.Costs as A
use Rattle.vs_kern_select.specs.declared.costs.Kernel.TheVariants as select
use Rattle.vs_kern_select.specs.declared.costs.Selection.{Selection}
use Rattle.vs_kern_select.specs.declared.costs.Addresses.{Addresses}
use Rattle.vs_kern_select.specs.Costs as S
use Rattle.vs_design.specs.Expressions.{Signal, signal_length, word_length, addresses, Minus, BitNot, LogicalNot, ReduceAnd, ReduceNand, ReduceOr, ReduceNor, ReduceXor, ReduceXnor, Add, Subtract, Multiply, BitAnd, BitOr, BitXor, BitXnor, Less, LessEqual, Greater, GreaterEqual, Equal, NotEqual, CaseEqual, CaseNotEqual, LogicalAnd, LogicalOr, ShiftLeft, ShiftRight, ShiftLeftArith, ShiftRightArith}
use Rattle.vs_design.specs.Sizes.{unary_weight, binary_weight, address_weight}

-- the kernels of `~ & | ^ ~^`, reductions, `! && ||` and the equalities, on operands of lengths m and n in a context of length w
pub record LogicWeights (w m n : ℕ) : Type 0 where
  pub not : L.weight_of logic.Not (w ∷ w ∷ []) ≡ unary_weight BitNot w n
  pub and : L.weight_of logic.And (w ∷ w ∷ w ∷ []) ≡ binary_weight BitAnd w m n
  pub or : L.weight_of logic.Or (w ∷ w ∷ w ∷ []) ≡ binary_weight BitOr w m n
  pub xor : L.weight_of logic.Xor (w ∷ w ∷ w ∷ []) ≡ binary_weight BitXor w m n
  pub xnor : L.weight_of logic.Xnor (w ∷ w ∷ w ∷ []) ≡ binary_weight BitXnor w m n
  pub reduce_and : L.weight_of logic.ReduceAnd (n ∷ 1 ∷ []) ≡ unary_weight ReduceAnd w n
  pub reduce_nand : L.weight_of logic.ReduceNand (n ∷ 1 ∷ []) ≡ unary_weight ReduceNand w n
  pub reduce_or : L.weight_of logic.ReduceOr (n ∷ 1 ∷ []) ≡ unary_weight ReduceOr w n
  pub reduce_nor : L.weight_of logic.ReduceNor (n ∷ 1 ∷ []) ≡ unary_weight ReduceNor w n
  pub reduce_xor : L.weight_of logic.ReduceXor (n ∷ 1 ∷ []) ≡ unary_weight ReduceXor w n
  pub reduce_xnor : L.weight_of logic.ReduceXnor (n ∷ 1 ∷ []) ≡ unary_weight ReduceXnor w n
  pub logical_not : L.weight_of logic.LogicalNot (n ∷ 1 ∷ []) ≡ unary_weight LogicalNot w n
  pub logical_and : L.weight_of logic.LogicalAnd (m ∷ n ∷ 1 ∷ []) ≡ binary_weight LogicalAnd w m n
  pub logical_or : L.weight_of logic.LogicalOr (m ∷ n ∷ 1 ∷ []) ≡ binary_weight LogicalOr w m n
  pub equal : L.weight_of logic.Equal (max m n ∷ max m n ∷ 1 ∷ []) ≡ binary_weight Equal w m n
  pub not_equal : L.weight_of logic.NotEqual (max m n ∷ max m n ∷ 1 ∷ []) ≡ binary_weight NotEqual w m n
  pub case_equal : L.weight_of logic.CaseEqual (max m n ∷ max m n ∷ 1 ∷ []) ≡ binary_weight CaseEqual w m n
  pub case_not_equal : L.weight_of logic.CaseNotEqual (max m n ∷ max m n ∷ 1 ∷ []) ≡ binary_weight CaseNotEqual w m n
  -- an item of a case of w bits weighs w + 1: that of `casez` and `casex` as much, and that of `case` is one store
  pub item_z : L.weight_of logic.MatchesZ (w ∷ w ∷ 1 ∷ []) ≡ w + 1
  pub item_x : L.weight_of logic.MatchesX (w ∷ w ∷ 1 ∷ []) ≡ w + 1
  pub item : L.cost_of (w ∷ w ∷ 1 ∷ []) ≤ w + 1

-- those of sums, products and orders, signed or not
pub record ArithmeticWeights (w m n : ℕ) (signed : Bool) : Type 0 where
  pub add : A.weight_of arith.Add (w ∷ w ∷ w ∷ []) ≡ binary_weight Add w m n
  pub subtract : A.weight_of arith.Sub (w ∷ w ∷ w ∷ []) ≡ binary_weight Subtract w m n
  pub multiply : A.weight_of arith.Mul (w ∷ w ∷ w ∷ []) ≡ binary_weight Multiply w m n
  pub negate : A.weight_of arith.Neg (w ∷ w ∷ []) ≡ unary_weight Minus w n
  pub less : A.weight_of (arith.Less signed) (max m n ∷ max m n ∷ 1 ∷ []) ≡ binary_weight Less w m n
  pub less_equal : A.weight_of (arith.LessEqual signed) (max m n ∷ max m n ∷ 1 ∷ []) ≡ binary_weight LessEqual w m n
  pub greater : A.weight_of (arith.Greater signed) (max m n ∷ max m n ∷ 1 ∷ []) ≡ binary_weight Greater w m n
  pub greater_equal : A.weight_of (arith.GreaterEqual signed) (max m n ∷ max m n ∷ 1 ∷ []) ≡ binary_weight GreaterEqual w m n

-- those of shifts by n bits, of selects and writes of k bits by an index of n, and of choices by a condition of n
pub record SelectWeights (w m n k : ℕ) (s : Selection) : Type 0 where
  pub shift_left : S.weight_of select.ShiftLeft (w ∷ n ∷ w ∷ []) ≡ binary_weight ShiftLeft w m n
  pub shift_right : S.weight_of select.ShiftRight (w ∷ n ∷ w ∷ []) ≡ binary_weight ShiftRight w m n
  pub shift_left_signed : S.weight_of select.ShiftLeft (w ∷ n ∷ w ∷ []) ≡ binary_weight ShiftLeftArith w m n
  pub shift_right_unsigned : S.weight_of select.ShiftRight (w ∷ n ∷ w ∷ []) ≡ binary_weight ShiftRightArith w m n
  pub shift_right_signed : S.weight_of select.ShiftArith (w ∷ n ∷ w ∷ []) ≡ binary_weight ShiftRightArith w m n
  pub selected : S.weight_of (select.Select s) (range_length s.range ∷ n ∷ k ∷ []) ≡ k * (range_length s.range * n)
  pub written : S.weight_of (select.Write s) (range_length s.range ∷ n ∷ k ∷ range_length s.range ∷ []) ≡ k * (range_length s.range * (n + 1))
  pub choice : S.weight_of select.Choose (n ∷ w ∷ w ∷ w ∷ []) ≡ w + n
  -- an `if` of w written bits
  pub branch : S.weight_of select.Branch (n ∷ w ∷ w ∷ w ∷ []) ≡ w + n

-- how the words of this signal are addressed, by a signed index or not
abbrev pub addresses_of : Signal → Bool → Addresses
addresses_of signal signed = record { range = addresses signal; signed = signed }

-- those of reads and writes of a signal's words by an address of n bits
pub record WordWeights (signal : Signal) (n : ℕ) (signed : Bool) : Type 0 where
  pub read : S.weight_of (select.ReadWord (addresses_of signal signed)) (signal_length signal ∷ n ∷ word_length signal ∷ []) ≡ address_weight signal n
  pub written : S.weight_of (select.WriteWord (addresses_of signal signed)) (signal_length signal ∷ n ∷ word_length signal ∷ signal_length signal ∷ []) ≡ address_weight signal n

-- each kernel weighs what its operator weighs in the size of a design
pub record KernelsWeighAsOperators : Type 0 where
  pub logic : (w m n : ℕ) → LogicWeights w m n
  pub arithmetic : (w m n : ℕ) (signed : Bool) → ArithmeticWeights w m n signed
  pub selects : (w m n k : ℕ) (s : Selection) → SelectWeights w m n k s
  pub words : (signal : Signal) (n : ℕ) (signed : Bool) → WordWeights signal n signed
