-- Kernels of arguments of one bit.
use Rattle.std.proofs.Common.{◌≡◌, ◌⊎◌, inl, inr, ℕ, ◌<◌, ◌≤◌, Bool, true, List, [], ◌∷◌, ◌++◌, map, length, take, drop, get_or, set, sum, sym, ap, ◌∙◌, subst, refl, lit<, arith}
use Rattle.std.proofs.lemmas.Bool.{eqb-true}
use Rattle.std.proofs.lemmas.List.{length-drop}
use Rattle.vs_four.specs.declared.Bit4.{Bit4}
use Rattle.vs_four.specs.declared.Bit4.TheVariants.{Zero, One as IsOne, X, Z}
use Rattle.vs_four.specs.Tables.{and_bit, or_bit, xor_bit, xnor_bit, not_bit, same_bit, casez_bit, casex_bit}
use Rattle.vs_four.specs.Logic.{BitList}
use Rattle.vs_plane.specs.declared.pairs.Pair.{Pair}
use Rattle.vs_plane.specs.Lanes.{pair_lane, slot_lane}
use Rattle.vs_plane.specs.Kernels.{lane_bits, Computes, Fills, FillingComputes}
use Rattle.vs_kern_logic.specs.Costs.{Shape, Vector, Vectors, Reduction, Truths, Comparison, shape_of, takes}
use Rattle.vs_kern_logic.specs.Operators.{operator_of}
use Rattle.vs_kern_logic.specs.declared.costs.Kernel.{Kernel}
use Rattle.vs_kern_logic.specs.declared.costs.Kernel.TheVariants.{Copy, Not, And, Or, Xor, Xnor, ReduceAnd, ReduceNand, ReduceOr, ReduceNor, ReduceXor, ReduceXnor, LogicalNot, LogicalAnd, LogicalOr, Equal, NotEqual, CaseEqual, CaseNotEqual, MatchesZ, MatchesX}
use Rattle.vs_code.specs.declared.kernels.AnyKernel.{AnyKernel}
use Rattle.vs_code.specs.declared.kernels.AnyKernel.TheVariants.{Logic}
use Rattle.vs_code.specs.declared.placed.Lengths.{Lengths}
use Rattle.vs_code.specs.declared.placed.Lengths.TheVariants.{One, Two}
use Rattle.vs_code.specs.Kernels.{takes as takes_any}
use Rattle.vs_code.specs.declared.placed.Placed.{Placed}
use Rattle.vs_code.specs.Calls.{Call, IsCall}
use Rattle.vs_code.specs.Placed.{IsWithin, call_at, call_in_front, lengths_in}
use Rattle.vs_code.proofs.Arena.{takes_lengths}
use Rattle.vs_code.proofs.Arguments.{call_of}

-- a pair stored in the one slot of the value
pub stored : {W : Type 0} (lane : W → ℕ → Bool) (lanes : ℕ) (operator : List BitList → BitList) (args : List (List ℕ)) (to : ℕ) (before after : List (Pair W)) (pair : Pair W)
    → FillingComputes lane lanes → to < length before → after ≡ set before to pair
    → ((i : ℕ) → i < lanes → operator (map (λ arg. lane_bits lane before arg i) args) ≡ pair_lane lane pair i ∷ [])
    → Computes lane lanes operator args (to ∷ []) [] before after
stored lane lanes operator args to before after pair law below e value =
    let all : ℕ → BitList = λ i. operator (map (λ arg. lane_bits lane before arg i) args) in
    let fills : Fills lane lanes all (to ∷ []) 1 before (set before to pair) =
    law.grows all (to ∷ []) 0 before before pair (record { place = λ j k h l same. omega arith }) (lit< tt) below (law.begins all (to ∷ []) before)
    (λ i h. sym (ap (λ bits. get_or bits 0 X) (value i h))) in
    subst (Computes lane lanes operator args (to ∷ []) [] before) (sym e)
    (law.ends operator args (to ∷ []) [] 1 before (set before to pair) (λ i h. ap length (value i h)) refl fills)

-- ---- what they make of bits

-- what is so for each bit
each : (P : Bit4 → Type 0) → P Zero → P IsOne → P X → P Z → (b : Bit4) → P b
each P zero_is one_is x_is z_is Zero = zero_is
each P zero_is one_is x_is z_is IsOne = one_is
each P zero_is one_is x_is z_is X = x_is
each P zero_is one_is x_is z_is Z = z_is

-- the operator of a kernel of one argument, on a bit
abbrev pub one_bit : Kernel → Bit4 → Bit4
one_bit Copy b = b
one_bit ReduceAnd b = and_bit b b
one_bit ReduceOr b = and_bit b b
one_bit ReduceXor b = and_bit b b
one_bit _ b = not_bit b

pub one_value : (kernel : Kernel) (b : Bit4) → takes (shape_of kernel) (1 ∷ 1 ∷ []) ≡ true → operator_of kernel ((b ∷ []) ∷ []) ≡ one_bit kernel b ∷ []
one_value Copy b h = refl
one_value Not b h = refl
one_value ReduceAnd b h = each (λ b. operator_of ReduceAnd ((b ∷ []) ∷ []) ≡ one_bit ReduceAnd b ∷ []) refl refl refl refl b
one_value ReduceNand b h = each (λ b. operator_of ReduceNand ((b ∷ []) ∷ []) ≡ one_bit ReduceNand b ∷ []) refl refl refl refl b
one_value ReduceOr b h = each (λ b. operator_of ReduceOr ((b ∷ []) ∷ []) ≡ one_bit ReduceOr b ∷ []) refl refl refl refl b
one_value ReduceNor b h = each (λ b. operator_of ReduceNor ((b ∷ []) ∷ []) ≡ one_bit ReduceNor b ∷ []) refl refl refl refl b
one_value ReduceXor b h = each (λ b. operator_of ReduceXor ((b ∷ []) ∷ []) ≡ one_bit ReduceXor b ∷ []) refl refl refl refl b
one_value ReduceXnor b h = each (λ b. operator_of ReduceXnor ((b ∷ []) ∷ []) ≡ one_bit ReduceXnor b ∷ []) refl refl refl refl b
one_value LogicalNot b h = each (λ b. operator_of LogicalNot ((b ∷ []) ∷ []) ≡ one_bit LogicalNot b ∷ []) refl refl refl refl b
one_value _ b h = cc

-- the operator of a kernel of two arguments, on two bits
abbrev pub two_bit : Kernel → Bit4 → Bit4 → Bit4
two_bit And = and_bit
two_bit LogicalAnd = and_bit
two_bit Or = or_bit
two_bit LogicalOr = or_bit
two_bit Xor = xor_bit
two_bit NotEqual = xor_bit
two_bit Xnor = xnor_bit
two_bit Equal = xnor_bit
two_bit CaseEqual = same_bit
two_bit CaseNotEqual = λ a b. not_bit (same_bit a b)
two_bit MatchesZ = casez_bit
two_bit MatchesX = casex_bit
two_bit _ = λ a b. X

-- a kernel's value of two bits is this one
abbrev HasTwo : Kernel → Bit4 → Bit4 → Type 0
HasTwo kernel a b = operator_of kernel ((a ∷ []) ∷ (b ∷ []) ∷ []) ≡ two_bit kernel a b ∷ []

pub two_value : (kernel : Kernel) (a b : Bit4) → takes (shape_of kernel) (1 ∷ 1 ∷ 1 ∷ []) ≡ true → operator_of kernel ((a ∷ []) ∷ (b ∷ []) ∷ []) ≡ two_bit kernel a b ∷ []
two_value And a b h = refl
two_value Or a b h = refl
two_value Xor a b h = refl
two_value Xnor a b h = refl
two_value LogicalAnd a b h = each (λ a. HasTwo LogicalAnd a b)
    (each (HasTwo LogicalAnd Zero) refl refl refl refl b)
    (each (HasTwo LogicalAnd IsOne) refl refl refl refl b)
    (each (HasTwo LogicalAnd X) refl refl refl refl b)
    (each (HasTwo LogicalAnd Z) refl refl refl refl b) a
two_value LogicalOr a b h = each (λ a. HasTwo LogicalOr a b)
    (each (HasTwo LogicalOr Zero) refl refl refl refl b)
    (each (HasTwo LogicalOr IsOne) refl refl refl refl b)
    (each (HasTwo LogicalOr X) refl refl refl refl b)
    (each (HasTwo LogicalOr Z) refl refl refl refl b) a
two_value Equal a b h = each (λ a. HasTwo Equal a b)
    (each (HasTwo Equal Zero) refl refl refl refl b)
    (each (HasTwo Equal IsOne) refl refl refl refl b)
    (each (HasTwo Equal X) refl refl refl refl b)
    (each (HasTwo Equal Z) refl refl refl refl b) a
two_value NotEqual a b h = each (λ a. HasTwo NotEqual a b)
    (each (HasTwo NotEqual Zero) refl refl refl refl b)
    (each (HasTwo NotEqual IsOne) refl refl refl refl b)
    (each (HasTwo NotEqual X) refl refl refl refl b)
    (each (HasTwo NotEqual Z) refl refl refl refl b) a
two_value CaseEqual a b h = each (λ a. HasTwo CaseEqual a b)
    (each (HasTwo CaseEqual Zero) refl refl refl refl b)
    (each (HasTwo CaseEqual IsOne) refl refl refl refl b)
    (each (HasTwo CaseEqual X) refl refl refl refl b)
    (each (HasTwo CaseEqual Z) refl refl refl refl b) a
two_value CaseNotEqual a b h = each (λ a. HasTwo CaseNotEqual a b)
    (each (HasTwo CaseNotEqual Zero) refl refl refl refl b)
    (each (HasTwo CaseNotEqual IsOne) refl refl refl refl b)
    (each (HasTwo CaseNotEqual X) refl refl refl refl b)
    (each (HasTwo CaseNotEqual Z) refl refl refl refl b) a
two_value MatchesZ a b h = each (λ a. HasTwo MatchesZ a b)
    (each (HasTwo MatchesZ Zero) refl refl refl refl b)
    (each (HasTwo MatchesZ IsOne) refl refl refl refl b)
    (each (HasTwo MatchesZ X) refl refl refl refl b)
    (each (HasTwo MatchesZ Z) refl refl refl refl b) a
two_value MatchesX a b h = each (λ a. HasTwo MatchesX a b)
    (each (HasTwo MatchesX Zero) refl refl refl refl b)
    (each (HasTwo MatchesX IsOne) refl refl refl refl b)
    (each (HasTwo MatchesX X) refl refl refl refl b)
    (each (HasTwo MatchesX Z) refl refl refl refl b) a
two_value _ a b h = cc

-- a pair stored for a kernel of one argument, and for one of two
pub one_stored : {W : Type 0} (lane : W → ℕ → Bool) (lanes : ℕ) (kernel : Kernel) (a to : ℕ) (before after : List (Pair W)) (pair : Pair W)
    → takes (shape_of kernel) (1 ∷ 1 ∷ []) ≡ true → FillingComputes lane lanes → to < length before → after ≡ set before to pair
    → ((i : ℕ) → i < lanes → pair_lane lane pair i ≡ one_bit kernel (slot_lane lane before a i))
    → Computes lane lanes (operator_of kernel) ((a ∷ []) ∷ []) (to ∷ []) [] before after
one_stored lane lanes kernel a to before after pair t law below e value =
    stored lane lanes (operator_of kernel) ((a ∷ []) ∷ []) to before after pair law below e
    (λ i h. one_value kernel (slot_lane lane before a i) t ∙ ap (λ (b : Bit4). b ∷ []) (sym (value i h)))

pub two_stored : {W : Type 0} (lane : W → ℕ → Bool) (lanes : ℕ) (kernel : Kernel) (a b to : ℕ) (before after : List (Pair W)) (pair : Pair W)
    → takes (shape_of kernel) (1 ∷ 1 ∷ 1 ∷ []) ≡ true → FillingComputes lane lanes → to < length before → after ≡ set before to pair
    → ((i : ℕ) → i < lanes → pair_lane lane pair i ≡ two_bit kernel (slot_lane lane before a i) (slot_lane lane before b i))
    → Computes lane lanes (operator_of kernel) ((a ∷ []) ∷ (b ∷ []) ∷ []) (to ∷ []) [] before after
two_stored lane lanes kernel a b to before after pair t law below e value =
    stored lane lanes (operator_of kernel) ((a ∷ []) ∷ (b ∷ []) ∷ []) to before after pair law below e
    (λ i h. two_value kernel (slot_lane lane before a i) (slot_lane lane before b i) t ∙ ap (λ (x : Bit4). x ∷ []) (sym (value i h)))

-- a kernel that is one of two which make the same of two bits
pub either_bit : (kernel j k : Kernel) (a b : Bit4) → two_bit k a b ≡ two_bit j a b → (kernel ≡ j) ⊎ (kernel ≡ k) → two_bit j a b ≡ two_bit kernel a b
either_bit kernel j k a b same (inl e) = ap (λ (n : Kernel). two_bit n a b) (sym e)
either_bit kernel j k a b same (inr e) = sym same ∙ ap (λ (n : Kernel). two_bit n a b) (sym e)

-- a kernel that is one of those that make the same of a bit
pub not_of : (kernel : Kernel) (b : Bit4) → (kernel ≡ Not) ⊎ ((kernel ≡ ReduceNand) ⊎ ((kernel ≡ ReduceNor) ⊎ ((kernel ≡ ReduceXnor) ⊎ ((kernel ≡ LogicalNot))))) → not_bit b ≡ one_bit kernel b
not_of kernel b (inl e) = ap (λ (n : Kernel). one_bit n b) (sym e)
not_of kernel b (inr (inl e)) = ap (λ (n : Kernel). one_bit n b) (sym e)
not_of kernel b (inr (inr (inl e))) = ap (λ (n : Kernel). one_bit n b) (sym e)
not_of kernel b (inr (inr (inr (inl e)))) = ap (λ (n : Kernel). one_bit n b) (sym e)
not_of kernel b (inr (inr (inr (inr e)))) = ap (λ (n : Kernel). one_bit n b) (sym e)

pub known_of : (kernel : Kernel) (b : Bit4) → (kernel ≡ ReduceAnd) ⊎ ((kernel ≡ ReduceOr) ⊎ ((kernel ≡ ReduceXor))) → and_bit b b ≡ one_bit kernel b
known_of kernel b (inl e) = ap (λ (n : Kernel). one_bit n b) (sym e)
known_of kernel b (inr (inl e)) = ap (λ (n : Kernel). one_bit n b) (sym e)
known_of kernel b (inr (inr e)) = ap (λ (n : Kernel). one_bit n b) (sym e)

-- ---- calls of them

-- one argument of one bit, and the value has one
one_to : (shape : Shape) (to : ℕ) → takes shape (1 ∷ to ∷ []) ≡ true → to ≡ 1
one_to Vector to h = sym (eqb-true 1 to h)
one_to Reduction to h = eqb-true to 1 h
one_to Vectors to h = cc
one_to Truths to h = cc
one_to Comparison to h = cc

-- two of them
two_to : (shape : Shape) (to : ℕ) → takes shape (1 ∷ 1 ∷ to ∷ []) ≡ true → to ≡ 1
two_to Vectors to h = sym (eqb-true 1 to h)
two_to Truths to h = eqb-true to 1 h
two_to Comparison to h = eqb-true to 1 h
two_to Vector to h = cc
two_to Reduction to h = cc

pub one_to_of : (kernel : AnyKernel) (k : Kernel) (args : Lengths) (to : ℕ) → kernel ≡ Logic k → args ≡ One 1 → takes_any kernel (lengths_in args ++ to ∷ []) ≡ true → to ≡ 1
one_to_of kernel k args to e f h =
    one_to (shape_of k) to (ap (λ (x : AnyKernel). takes_any x (1 ∷ to ∷ [])) (sym e) ∙ ap (λ (x : Lengths). takes_any kernel (lengths_in x ++ to ∷ [])) (sym f) ∙ h)

pub two_to_of : (kernel : AnyKernel) (k : Kernel) (args : Lengths) (to : ℕ) → kernel ≡ Logic k → args ≡ Two 1 1 → takes_any kernel (lengths_in args ++ to ∷ []) ≡ true → to ≡ 1
two_to_of kernel k args to e f h =
    two_to (shape_of k) to (ap (λ (x : AnyKernel). takes_any x (1 ∷ 1 ∷ to ∷ [])) (sym e) ∙ ap (λ (x : Lengths). takes_any kernel (lengths_in x ++ to ∷ [])) (sym f) ∙ h)

one_in_front : (k : Kernel) (scratch : ℕ) (slots : List ℕ) → 2 ≤ length slots
    → call_of (Logic k) ((get_or slots 0 0 ∷ []) ∷ []) (get_or slots 1 0 ∷ []) (take scratch (drop 2 slots)) ≡ call_in_front (Logic k) (1 ∷ []) 1 scratch slots
one_in_front k scratch [] h = absurd (let n : ⊥ = omega arith in n)
one_in_front k scratch (x ∷ []) h = absurd (let n : ⊥ = omega arith in n)
one_in_front k scratch (x ∷ y ∷ slots) h = refl

two_in_front : (k : Kernel) (scratch : ℕ) (slots : List ℕ) → 3 ≤ length slots
    → call_of (Logic k) ((get_or slots 0 0 ∷ []) ∷ (get_or slots 1 0 ∷ []) ∷ []) (get_or slots 2 0 ∷ []) (take scratch (drop 3 slots)) ≡ call_in_front (Logic k) (1 ∷ 1 ∷ []) 1 scratch slots
two_in_front k scratch [] h = absurd (let n : ⊥ = omega arith in n)
two_in_front k scratch (x ∷ []) h = absurd (let n : ⊥ = omega arith in n)
two_in_front k scratch (x ∷ y ∷ []) h = absurd (let n : ⊥ = omega arith in n)
two_in_front k scratch (x ∷ y ∷ z ∷ slots) h = refl

-- a call of one bit, by its slots
pub one_bit_call : (kernel : AnyKernel) (k : Kernel) (args : Lengths) (to scratch : ℕ) (slots all : List ℕ)
    → kernel ≡ Logic k → args ≡ One 1 → to ≡ 1 → slots ≡ all → 2 ≤ length slots
    → call_of (Logic k) ((get_or slots 0 0 ∷ []) ∷ []) (get_or slots 1 0 ∷ []) (take scratch (drop 2 slots)) ≡ call_in_front kernel (lengths_in args) to scratch all
one_bit_call kernel k args to scratch slots all e f g h long =
    one_in_front k scratch slots long
    ∙ ap (λ (x : AnyKernel). call_in_front x (1 ∷ []) 1 scratch slots) (sym e)
    ∙ ap (λ (x : Lengths). call_in_front kernel (lengths_in x) 1 scratch slots) (sym f)
    ∙ ap (λ (n : ℕ). call_in_front kernel (lengths_in args) n scratch slots) (sym g)
    ∙ ap (call_in_front kernel (lengths_in args) to scratch) h

pub two_bit_call : (kernel : AnyKernel) (k : Kernel) (args : Lengths) (to scratch : ℕ) (slots all : List ℕ)
    → kernel ≡ Logic k → args ≡ Two 1 1 → to ≡ 1 → slots ≡ all → 3 ≤ length slots
    → call_of (Logic k) ((get_or slots 0 0 ∷ []) ∷ (get_or slots 1 0 ∷ []) ∷ []) (get_or slots 2 0 ∷ []) (take scratch (drop 3 slots)) ≡ call_in_front kernel (lengths_in args) to scratch all
two_bit_call kernel k args to scratch slots all e f g h long =
    two_in_front k scratch slots long
    ∙ ap (λ (x : AnyKernel). call_in_front x (1 ∷ 1 ∷ []) 1 scratch slots) (sym e)
    ∙ ap (λ (x : Lengths). call_in_front kernel (lengths_in x) 1 scratch slots) (sym f)
    ∙ ap (λ (n : ℕ). call_in_front kernel (lengths_in args) n scratch slots) (sym g)
    ∙ ap (call_in_front kernel (lengths_in args) to scratch) h

-- what is known of a call of one argument of one bit by its slots, and of one of two arguments
pub record HasOneBit (k : Kernel) (scratch : ℕ) (slots : List ℕ) (call : Call) : Type 0 where
  pub long : 1 < length slots
  pub is : call_of (Logic k) ((get_or slots 0 0 ∷ []) ∷ []) (get_or slots 1 0 ∷ []) (take scratch (drop 2 slots)) ≡ call

pub record HasTwoBits (k : Kernel) (scratch : ℕ) (slots : List ℕ) (call : Call) : Type 0 where
  pub long : 2 < length slots
  pub is : call_of (Logic k) ((get_or slots 0 0 ∷ []) ∷ (get_or slots 1 0 ∷ []) ∷ []) (get_or slots 2 0 ∷ []) (take scratch (drop 3 slots)) ≡ call

pub is_one : (arena : List ℕ) (placed : Placed) (k : Kernel) (slots : List ℕ) → placed.kernel ≡ Logic k → placed.args ≡ One 1 → slots ≡ drop placed.first arena
    → IsWithin arena placed → IsCall (call_at arena placed) → HasOneBit k placed.scratch slots (call_at arena placed)
is_one arena placed k slots e f g within call =
    let to : placed.to ≡ 1 = one_to_of placed.kernel k placed.args placed.to e f (takes_lengths arena placed within call) in
    let few : sum (lengths_in placed.args) ≡ 1 = ap (λ (x : Lengths). sum (lengths_in x)) f in
    let long : 1 < length slots = omega (arith, to, few, within, ap length g, length-drop placed.first arena) in
    record {
      long = long;
      is = one_bit_call placed.kernel k placed.args placed.to placed.scratch slots (drop placed.first arena) e f to g (omega (arith, long));
    }

pub is_two : (arena : List ℕ) (placed : Placed) (k : Kernel) (slots : List ℕ) → placed.kernel ≡ Logic k → placed.args ≡ Two 1 1 → slots ≡ drop placed.first arena
    → IsWithin arena placed → IsCall (call_at arena placed) → HasTwoBits k placed.scratch slots (call_at arena placed)
is_two arena placed k slots e f g within call =
    let to : placed.to ≡ 1 = two_to_of placed.kernel k placed.args placed.to e f (takes_lengths arena placed within call) in
    let few : sum (lengths_in placed.args) ≡ 2 = ap (λ (x : Lengths). sum (lengths_in x)) f in
    let long : 2 < length slots = omega (arith, to, few, within, ap length g, length-drop placed.first arena) in
    record {
      long = long;
      is = two_bit_call placed.kernel k placed.args placed.to placed.scratch slots (drop placed.first arena) e f to g (omega (arith, long));
    }

-- what is kept on the way may be more
pub with_scratch : {W : Type 0} (lane : W → ℕ → Bool) (lanes : ℕ) (operator : List BitList → BitList) (args : List (List ℕ)) (to scratch : List ℕ) (before after : List (Pair W))
    → Computes lane lanes operator args to [] before after → Computes lane lanes operator args to scratch before after
with_scratch lane lanes operator args to scratch before after h = record {
  value = h.value;
  others = record {
    slots = h.others.slots;
    kept = λ slot none _. h.others.kept slot none (λ m. let within : m.0 < 0 = m.1 in absurd (let n : ⊥ = omega arith in n));
  };
}
