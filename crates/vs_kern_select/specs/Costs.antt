-- The lengths that a kernel takes, those of its arguments in their order and then that of its value, and the stores that it makes.
use Rattle.std.specs.Prelude.{ℕ, ◌+◌, ◌*◌, min, Bool, false, ◌&&◌, List, [], ◌∷◌, ◌==◌, nat_le}
use Rattle.vs_four.specs.Lengths.{last_or}
use Rattle.vs_four.specs.Numbers.{log_up}
use Rattle.vs_four.specs.Selects.{range_length}
use Rattle.vs_kern_select.specs.declared.costs.Kernel.{Kernel}
use Rattle.vs_kern_select.specs.declared.costs.Kernel.TheVariants.{ShiftLeft, ShiftRight, ShiftArith, Select, Write, ReadWord, WriteWord, Choose, Branch}

-- what a kernel's operands and value are
pub data Shape : Type 0 where
  -- a vector, an amount of any length, and a vector as long as the first
  Shift : Shape
  -- a vector of this length, a base of any length, and the bits that are selected
  Selected : ℕ → Shape
  -- a vector of this length, a base and a value of any lengths, and a vector as long as the first
  Written : ℕ → Shape
  -- a memory of so many words, an address of any length, and a word
  WordRead : ℕ → Shape
  -- a memory of so many words, an address of any length, a word, and a memory as long as the first
  WordWritten : ℕ → Shape
  -- a condition of any length, two vectors, and a third one, all as long
  Choice : Shape

abbrev pub shape_of : Kernel → Shape
shape_of ShiftLeft = Shift
shape_of ShiftRight = Shift
shape_of ShiftArith = Shift
shape_of (Select s) = Selected (range_length s.range)
shape_of (Write s) = Written (range_length s.range)
shape_of (ReadWord m) = WordRead (range_length m.range)
shape_of (WriteWord m) = WordWritten (range_length m.range)
shape_of Choose = Choice
shape_of Branch = Choice

-- which lengths a kernel of this shape takes; no vector is empty
abbrev pub takes : Shape → List ℕ → Bool
takes Shift (a ∷ amount ∷ to ∷ []) = nat_le 1 a && nat_le 1 amount && a == to
takes (Selected n) (a ∷ base ∷ to ∷ []) = a == n && nat_le 1 base && nat_le 1 to
takes (Written n) (a ∷ base ∷ value ∷ to ∷ []) = a == n && nat_le 1 base && nat_le 1 value && a == to
takes (WordRead n) (a ∷ address ∷ to ∷ []) = a == n * to && nat_le 1 address && nat_le 1 to
takes (WordWritten n) (a ∷ address ∷ value ∷ to ∷ []) = a == n * value && nat_le 1 address && nat_le 1 value && a == to
takes Choice (c ∷ p ∷ q ∷ to ∷ []) = nat_le 1 c && nat_le 1 p && p == q && q == to
takes _ _ = false

-- the bits of an amount of m bits that move a vector of w bits by less than w: those that stand for 1, 2, 4 and so on below w
abbrev pub moving_bits : ℕ → ℕ → ℕ
moving_bits w m = min m (log_up w w)

-- a store for each bit of the value; a shift stores each again for each bit of the amount that moves it, and a word that is read is stored again for each word of its memory
abbrev pub cost_of_shape : Shape → List ℕ → ℕ
cost_of_shape Shift (a ∷ amount ∷ to ∷ []) = to + to * moving_bits to amount
cost_of_shape (WordRead n) (a ∷ address ∷ to ∷ []) = to + n * to
cost_of_shape shape lengths = last_or 0 lengths

abbrev pub cost_of : Kernel → List ℕ → ℕ
cost_of kernel lengths = cost_of_shape (shape_of kernel) lengths

-- no slots on the way
abbrev pub room_of : List ℕ → ℕ
room_of lengths = 0

-- what an operation of this shape weighs; a write, what it weighs beside the store of its target
abbrev pub weight_of_shape : Shape → List ℕ → ℕ
weight_of_shape Shift (a ∷ amount ∷ to ∷ []) = to * (amount + 1) + amount
weight_of_shape (Selected n) (a ∷ base ∷ to ∷ []) = to * n * base
weight_of_shape (Written n) (a ∷ base ∷ value ∷ to ∷ []) = value * n * (base + 1)
weight_of_shape (WordRead n) (a ∷ address ∷ to ∷ []) = 2 * (n * (address + to))
weight_of_shape (WordWritten n) (a ∷ address ∷ value ∷ to ∷ []) = 2 * (n * (address + value))
weight_of_shape Choice (c ∷ p ∷ q ∷ to ∷ []) = to + c
weight_of_shape _ _ = 0

abbrev pub weight_of : Kernel → List ℕ → ℕ
weight_of kernel lengths = weight_of_shape (shape_of kernel) lengths
