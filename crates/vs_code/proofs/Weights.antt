-- The lengths that kernels take, and what a call costs and weighs.
use Rattle.std.proofs.Common.{◌≡◌, ℕ, suc, ◌+◌, ◌*◌, ◌/◌, ◌<◌, ◌≤◌, ◌^◌, Bool, true, false, ◌&&◌, ◌==◌, nat_le, List, [], ◌∷◌, length, if◌then◌else◌, ◌-◌, sym, subst, lit<, arith}
use Rattle.std.specs.List.{All}
use Rattle.std.proofs.lemmas.Bool.{and_parts, leb-true, eqb-true}
use Rattle.std.proofs.lemmas.List.Elements.{All-head, All-tail}
use Rattle.std.proofs.lemmas.List.Sums.{sum_by-cons}
use Rattle.std.proofs.lemmas.Grind.{common_steps}
use Rattle.vs_four.specs.Lengths.{last_or}
use Rattle.vs_four.specs.Selects.{is_descending, range_length}
use Rattle.vs_four.specs.declared.Range.{Range}
use Rattle.vs_kern_logic.specs.Costs as L
use Rattle.vs_kern_logic.specs.declared.costs.Kernel.{Kernel as LogicKernel}
use Rattle.vs_kern_logic.specs.declared.costs.Kernel.TheVariants.{LogicalNot, MatchesZ, MatchesX}
use Rattle.vs_kern_arith.specs.Costs as A
use Rattle.vs_kern_arith.specs.declared.costs.Kernel.{Kernel as ArithKernel}
use Rattle.vs_kern_arith.specs.declared.costs.Kernel.TheVariants.{Mul}
use Rattle.vs_kern_select.specs.Costs as S
use Rattle.vs_kern_select.specs.declared.costs.Kernel.{Kernel as SelectKernel}
use Rattle.vs_kern_select.specs.declared.costs.Kernel.TheVariants.{ShiftLeft, ShiftRight, ShiftArith, Select as SelectBits, Write, ReadWord, WriteWord, Choose, Branch}
use Rattle.vs_code.specs.declared.kernels.AnyKernel.{AnyKernel}
use Rattle.vs_code.specs.declared.kernels.AnyKernel.TheVariants.{Logic, Arith, Select}
use Rattle.vs_code.specs.Kernels.{takes, cost_of, weight_of}
use Rattle.vs_code.specs.Calls.{Call, IsCall, lengths_of, call_cost, call_weight, length_of, weight_of_calls}

-- ---- how many lengths there are

logic_count : (s : L.Shape) (ls : List ℕ) → L.takes s ls ≡ true → (2 ≤ length ls) × (length ls ≤ 4)
logic_count L.Vector (a ∷ to ∷ []) h = (omega arith, omega arith)
logic_count L.Vectors (a ∷ b ∷ to ∷ []) h = (omega arith, omega arith)
logic_count L.Reduction (a ∷ to ∷ []) h = (omega arith, omega arith)
logic_count L.Truths (a ∷ b ∷ to ∷ []) h = (omega arith, omega arith)
logic_count L.Comparison (a ∷ b ∷ to ∷ []) h = (omega arith, omega arith)
logic_count _ _ h = cc

arith_count : (s : A.Shape) (ls : List ℕ) → A.takes s ls ≡ true → (2 ≤ length ls) × (length ls ≤ 4)
arith_count A.Vector (a ∷ to ∷ []) h = (omega arith, omega arith)
arith_count A.Vectors (a ∷ b ∷ to ∷ []) h = (omega arith, omega arith)
arith_count A.Comparison (a ∷ b ∷ to ∷ []) h = (omega arith, omega arith)
arith_count _ _ h = cc

select_count : (s : S.Shape) (ls : List ℕ) → S.takes s ls ≡ true → (2 ≤ length ls) × (length ls ≤ 4)
select_count S.Shift (a ∷ amount ∷ to ∷ []) h = (omega arith, omega arith)
select_count (S.Selected n) (a ∷ base ∷ to ∷ []) h = (omega arith, omega arith)
select_count (S.Written n) (a ∷ base ∷ value ∷ to ∷ []) h = (omega arith, omega arith)
select_count (S.WordRead n) (a ∷ address ∷ to ∷ []) h = (omega arith, omega arith)
select_count (S.WordWritten n) (a ∷ address ∷ value ∷ to ∷ []) h = (omega arith, omega arith)
select_count S.Choice (c ∷ p ∷ q ∷ to ∷ []) h = (omega arith, omega arith)
select_count _ _ h = cc

-- those of one, two or three arguments and of the value
pub two_to_four : (kernel : AnyKernel) (ls : List ℕ) → takes kernel ls ≡ true → (2 ≤ length ls) × (length ls ≤ 4)
two_to_four (Logic k) ls h = logic_count (L.shape_of k) ls h
two_to_four (Arith k) ls h = arith_count (A.shape_of k) ls h
two_to_four (Select k) ls h = select_count (S.shape_of k) ls h

-- ---- a call costs no more than it weighs

some_and : (a : ℕ) (b : Bool) → (nat_le 1 a && b) ≡ true → 1 ≤ a
some_and a b h = leb-true 1 a (and_parts (nat_le 1 a) b h).0

last_is : (to n : ℕ) (a : Bool) → (a && to == n) ≡ true → to ≡ n
last_is to n a h = eqb-true to n (and_parts a (to == n) h).1

logic_shape_weighs : (s : L.Shape) (ls : List ℕ) → L.takes s ls ≡ true → last_or 0 ls ≤ L.weight_of_shape s ls
logic_shape_weighs L.Vector (a ∷ to ∷ []) h = omega arith
logic_shape_weighs L.Vectors (a ∷ b ∷ to ∷ []) h = omega arith
logic_shape_weighs L.Reduction (a ∷ to ∷ []) h = omega (arith, some_and a (to == 1) h, last_is to 1 (nat_le 1 a) h)
logic_shape_weighs L.Truths (a ∷ b ∷ to ∷ []) h = omega (arith, last_is to 1 (nat_le 1 a && nat_le 1 b) h)
logic_shape_weighs L.Comparison (a ∷ b ∷ to ∷ []) h =
    let p = and_parts (nat_le 1 a && a == b) (to == 1) h in
    omega (arith, some_and a (a == b) p.0, eqb-true to 1 p.1)
logic_shape_weighs _ _ h = cc

logic_weighs : (k : LogicKernel) (ls : List ℕ) → L.takes (L.shape_of k) ls ≡ true → L.cost_of ls ≤ L.weight_of k ls
logic_weighs LogicalNot (a ∷ to ∷ []) h = omega (arith, some_and a (to == 1) h, last_is to 1 (nat_le 1 a) h)
logic_weighs MatchesZ (a ∷ b ∷ to ∷ []) h = omega (arith, last_is to 1 (nat_le 1 a && a == b) h)
logic_weighs MatchesX (a ∷ b ∷ to ∷ []) h = omega (arith, last_is to 1 (nat_le 1 a && a == b) h)
logic_weighs k ls h = logic_shape_weighs (L.shape_of k) ls h

arith_shape_weighs : (s : A.Shape) (ls : List ℕ) → A.takes s ls ≡ true → last_or 0 ls ≤ A.weight_of_shape s ls
arith_shape_weighs A.Vector (a ∷ to ∷ []) h = omega arith
arith_shape_weighs A.Vectors (a ∷ b ∷ to ∷ []) h = omega arith
arith_shape_weighs A.Comparison (a ∷ b ∷ to ∷ []) h =
    let p = and_parts (nat_le 1 a && a == b) (to == 1) h in
    omega (arith, some_and a (a == b) p.0, eqb-true to 1 p.1)
arith_shape_weighs _ _ h = cc

-- a length is at most its square
at_most_square : (w : ℕ) → 1 ≤ w → w ≤ w * w
at_most_square w h = grind arith

rows_are : (w : ℕ) → w * (w + 1) ≡ w * w + w
rows_are w = grind arith

product_weighs : (w : ℕ) → 1 ≤ w → w + w * (w + 1) / 2 ≤ 4 * (w * w)
product_weighs w h = omega (arith, at_most_square w h, rows_are w)

arith_weighs : (k : ArithKernel) (ls : List ℕ) → A.takes (A.shape_of k) ls ≡ true → A.cost_of k ls ≤ A.weight_of k ls
arith_weighs Mul (a ∷ b ∷ to ∷ []) h =
    let p = and_parts (nat_le 1 a && a == b) (b == to) h in
    let q = and_parts (nat_le 1 a) (a == b) p.0 in
    product_weighs to (omega (arith, leb-true 1 a q.0, eqb-true a b q.1, eqb-true b to p.1))
arith_weighs k ls h = arith_shape_weighs (A.shape_of k) ls h

shift_weighs : (to amount moving : ℕ) → moving ≤ amount → to + to * moving ≤ to * (amount + 1) + amount
shift_weighs to amount moving h = grind arith

selected_weighs : (to n base : ℕ) → 1 ≤ n → 1 ≤ base → to ≤ to * n * base
selected_weighs to n base h k = grind arith

written_weighs : (to value base : ℕ) → 1 ≤ value → to ≤ value * to * (base + 1)
written_weighs to value base h = grind arith

word_read_weighs : (n address to : ℕ) → 1 ≤ n → to + n * to ≤ 2 * (n * (address + to))
word_read_weighs n address to h = grind arith

word_written_weighs : (n address value to : ℕ) → to ≡ n * value → to ≤ 2 * (n * (address + value))
word_written_weighs n address value to h = grind arith

range_is_some : (r : Range) → 1 ≤ range_length r
range_is_some r = elim (is_descending r) as (λ b. 1 ≤ (if b then suc (r.left - r.right) else suc (r.right - r.left))) [ true ↦ omega arith | false ↦ omega arith ]

selected_takes : (n a base to : ℕ) → S.takes (S.Selected n) (a ∷ base ∷ to ∷ []) ≡ true → 1 ≤ base
selected_takes n a base to h = grind (arith, common_steps)

written_takes : (n a base value to : ℕ) → S.takes (S.Written n) (a ∷ base ∷ value ∷ to ∷ []) ≡ true → (n ≡ to) × (1 ≤ value)
written_takes n a base value to h = (grind (arith, common_steps), grind (arith, common_steps))

word_written_takes : (n a address value to : ℕ) → S.takes (S.WordWritten n) (a ∷ address ∷ value ∷ to ∷ []) ≡ true → to ≡ n * value
word_written_takes n a address value to h = grind (arith, common_steps)

select_weighs : (k : SelectKernel) (ls : List ℕ) → S.takes (S.shape_of k) ls ≡ true → S.cost_of k ls ≤ S.weight_of k ls
select_weighs ShiftLeft (a ∷ amount ∷ to ∷ []) h = shift_weighs to amount (S.moving_bits to amount) (omega arith)
select_weighs ShiftRight (a ∷ amount ∷ to ∷ []) h = shift_weighs to amount (S.moving_bits to amount) (omega arith)
select_weighs ShiftArith (a ∷ amount ∷ to ∷ []) h = shift_weighs to amount (S.moving_bits to amount) (omega arith)
select_weighs (SelectBits s) (a ∷ base ∷ to ∷ []) h =
    selected_weighs to (range_length s.range) base (range_is_some s.range) (selected_takes (range_length s.range) a base to h)
select_weighs (Write s) (a ∷ base ∷ value ∷ to ∷ []) h =
    let t = written_takes (range_length s.range) a base value to h in
    subst (λ n. to ≤ value * n * (base + 1)) (sym t.0) (written_weighs to value base t.1)
select_weighs (ReadWord m) (a ∷ address ∷ to ∷ []) h = word_read_weighs (range_length m.range) address to (range_is_some m.range)
select_weighs (WriteWord m) (a ∷ address ∷ value ∷ to ∷ []) h =
    word_written_weighs (range_length m.range) address value to (word_written_takes (range_length m.range) a address value to h)
select_weighs Choose (c ∷ p ∷ q ∷ to ∷ []) h = omega arith
select_weighs Branch (c ∷ p ∷ q ∷ to ∷ []) h = omega arith
select_weighs _ _ h = cc

weighs : (kernel : AnyKernel) (ls : List ℕ) → takes kernel ls ≡ true → cost_of kernel ls ≤ weight_of kernel ls
weighs (Logic k) ls h = logic_weighs k ls h
weighs (Arith k) ls h = arith_weighs k ls h
weighs (Select k) ls h = select_weighs k ls h

-- so do all
pub all_weigh : (calls : List Call) → All IsCall calls → length_of calls ≤ weight_of_calls calls
all_weigh [] h = omega arith
all_weigh (call ∷ calls) h =
    omega (arith, sum_by-cons call_cost call calls, sum_by-cons call_weight call calls, weighs call.kernel (lengths_of call) (All-head IsCall call calls h).lengths, all_weigh calls (All-tail IsCall call calls h))

-- ---- a cost that fits is of a weight that fits

shape_fits : (s : A.Shape) (ls : List ℕ) → All (λ n. n < 2 ^ 32) ls → A.weight_of_shape s ls < 2 ^ 64
shape_fits A.Vector (a ∷ to ∷ []) h = omega (arith, h 1 0 (omega arith))
shape_fits A.Vectors (a ∷ b ∷ to ∷ []) h = omega (arith, h 2 0 (omega arith))
shape_fits A.Comparison (a ∷ b ∷ to ∷ []) h = omega (arith, h 0 0 (omega arith))
shape_fits _ _ h = lit< tt

pub weight_fits : (k : ArithKernel) (ls : List ℕ) → All (λ n. n < 2 ^ 32) ls → A.cost_of k ls ≤ 2 ^ 32 → A.weight_of k ls < 2 ^ 64
weight_fits Mul (a ∷ b ∷ to ∷ []) h l = omega (arith, rows_are to)
weight_fits k ls h l = shape_fits (A.shape_of k) ls h
