-- Selects.
use Rattle.std.proofs.Common.{◌≡◌, ℕ, suc, ◌+◌, ◌-◌, ◌*◌, ◌<◌, ◌≤◌, ◌^◌, Bool, true, false, ◌&&◌, ◌==◌, nat_le, if◌then◌else◌, List, [], ◌∷◌, ◌++◌, map, length, sym, ap, ◌∙◌, subst, refl, inl, arith, zero-add}
use Rattle.std.specs.List.{All, range_with_len}
use Rattle.std.proofs.lemmas.List.Elements.{All-nil, All-cons}
use Rattle.std.proofs.lemmas.List.FromFn.{length-range_with_len}
use Rattle.vs_four.specs.Logic.{BitList}
use Rattle.vs_four.specs.Selects.{Part, range_length, select, is_descending}
use Rattle.vs_net.specs.Network as N
use Rattle.vs_design.specs.Expressions.{Source, Expression, Select, width, sign, is_constant}
use Rattle.vs_design.specs.Values.{value, source_value}
use Rattle.vs_design.specs.Sizes.{weight}
use Rattle.vs_design.specs.Footprints.{read_bits}
use Rattle.vs_kern_select.specs.declared.costs.Selection.{Selection}
use Rattle.vs_kern_select.specs.declared.costs.Kernel.TheVariants as S
use Rattle.vs_code.specs.declared.kernels.AnyKernel.TheVariants as K
use Rattle.vs_code.specs.Kernels.{operator_of, takes}
use Rattle.vs_code.specs.Calls.{Call, IsCall, call_cost}
use Rattle.vs_values.specs.Added.{IsEnv, AreValues, fresh_call}
use Rattle.vs_values.specs.Constants.{extended_slots, selected_slots, constant_bits, AreConstant}
use Rattle.vs_values.specs.Valued.{IsSource, IsValue}
use Rattle.vs_values.proofs.Adding.{values_more, values_as, values_call, is_fresh_call}
use Rattle.vs_values.proofs.Moved.{extended_all, length-extended}
use Rattle.vs_values.proofs.Folding.{bits_are, constant_weight, selected_are}
use Rattle.vs_values.proofs.Values.{extended_values, one_more, fresh_sources}

two_lists : (a b x y : BitList) → (a ∷ b ∷ []) ≡ (x ∷ y ∷ []) → (a ≡ x) × (b ≡ y)
two_lists a b x y h = (cc, cc)

le_true : (a b : ℕ) → a ≤ b → nat_le a b ≡ true
le_true a b h = grind arith

eq_true : (a b : ℕ) → a ≡ b → (a == b) ≡ true
eq_true a b h = grind arith

pub select_takes : (a n base to : ℕ) → a ≡ n → 1 ≤ base → 1 ≤ to → (a == n && nat_le 1 base && nat_le 1 to) ≡ true
select_takes a n base to e h k = ap (λ (b : Bool). b && nat_le 1 base && nat_le 1 to) (eq_true a n e) ∙ ap (λ (b : Bool). b && nat_le 1 to) (le_true 1 base h) ∙ le_true 1 to k

pub range_is_some : (r : _) → 1 ≤ range_length r
range_is_some r = elim (is_descending r) as (λ b. 1 ≤ (if b then suc (r.left - r.right) else suc (r.right - r.left))) [ true ↦ omega arith | false ↦ omega arith ]

pub pays : (k n i : ℕ) → 1 ≤ n → 1 ≤ i → k ≤ k * (n * i)
pays k n i h j = grind arith

abbrev pub selection : Part → Bool → Selection
selection part signed = record { range = part.range; signed = signed; up = part.up }

-- by a variable index. `from` are the slots of what it is taken from
pub select_is : (env : List ℕ) (m : ℕ) (source : Source) (part : Part) (index : Expression) (w : ℕ) (s : Bool) (from : List ℕ) (c : List Call) (ti : List ℕ) (p : ℕ)
    → IsEnv env m → 1 ≤ part.width → part.width ≤ w → 1 ≤ width index → is_constant index ≡ false
    → part.width < 2 ^ 32 → width index < 2 ^ 32 → range_length part.range < 2 ^ 32 → p + part.width ≤ 2 ^ 32
    → length from ≡ range_length part.range
    → AreValues env m [] (from ∷ []) m 0 (λ state. source_value state source ∷ [])
    → IsValue env m index (width index) (sign index) c ti p
    → (is_constant (Select source part index) ≡ true → ⊥)
    → IsValue env m (Select source part index) w s (c ++ fresh_call (K.Select (S.Select (selection part (sign index)))) (from ∷ ti ∷ []) p part.width ∷ []) (extended_slots w s (range_with_len p part.width)) (p + part.width)
select_is env m source part index w s from c ti p e some fits wide constant short shorter shortest room long vf vi never =
    let kernel = K.Select (S.Select (selection part (sign index))) in
    let x = λ (state : N.State). source_value state source in
    let y = λ (state : N.State). value index (width index) (sign index) state in
    let parts = subst (λ k. AreValues env m c (from ∷ ti ∷ []) p k (λ state. x state ∷ y state ∷ [])) (zero-add (weight index (width index)))
    (values_more env m [] (from ∷ []) m 0 (λ state. x state ∷ []) c (ti ∷ []) p (weight index (width index)) (λ state. y state ∷ []) e vf vi.values) in
    let call = fresh_call kernel (from ∷ ti ∷ []) p part.width in
    let same : (range_length part.range ∷ width index ∷ part.width ∷ []) ≡ (length from ∷ length ti ∷ part.width ∷ []) =
    ap (λ (k : ℕ). k ∷ width index ∷ part.width ∷ []) (sym long) ∙ ap (λ (k : ℕ). length from ∷ k ∷ part.width ∷ []) (sym vi.length) in
    let shorts : All (λ k. k < 2 ^ 32) (range_length part.range ∷ width index ∷ part.width ∷ []) =
    All-cons (λ k. k < 2 ^ 32) (range_length part.range) (width index ∷ part.width ∷ []) shortest (All-cons (λ k. k < 2 ^ 32) (width index) (part.width ∷ []) shorter (All-cons (λ k. k < 2 ^ 32) part.width [] short (All-nil (λ k. k < 2 ^ 32)))) in
    let is : IsCall call = is_fresh_call kernel (from ∷ ti ∷ []) p part.width
    (subst (λ ls. takes kernel ls ≡ true) same (select_takes (range_length part.range) (range_length part.range) (width index) part.width refl wide some))
    (subst (All (λ n. n < 2 ^ 32)) same shorts) (omega arith) (omega arith) parts.below in
    let cost : call_cost call ≡ part.width = length-range_with_len p part.width in
    let extra = part.width * (range_length part.range * width index) in
    let done = values_call env m c (from ∷ ti ∷ []) p (weight index (width index)) (λ state. x state ∷ y state ∷ []) kernel part.width extra parts is (omega (arith, cost)) (omega (arith, cost, pays part.width (range_length part.range) (width index) (range_is_some part.range) wide)) in
    let weighs : weight (Select source part index) w ≡ extra + weight index (width index) = ap (λ (b : Bool). if b then 0 else (part.width * (range_length part.range * width index) + weight index (width index))) constant in
    record {
      values = extended_values env m (c ++ call ∷ []) (range_with_len p part.width) (p + part.width) (weight index (width index) + extra) (weight (Select source part index) w)
          (λ state. operator_of kernel part.width (x state ∷ y state ∷ [])) (λ state. select part (sign index) (x state) (y state)) w s e (omega (arith, weighs)) (λ state. refl) done;
      length = length-extended w s (range_with_len p part.width) (omega (arith, length-range_with_len p part.width));
      constant = λ h. absurd (never h);
      sources = extended_all (IsSource env m (read_bits (Select source part index))) w s (range_with_len p part.width) (inl (omega arith)) (fresh_sources env m p part.width (read_bits (Select source part index)) vi.values.added.grown);
    }

-- by an index in constants' slots: slots of what it is taken from, with no call
pub select_without : (env : List ℕ) (m : ℕ) (source : Source) (part : Part) (index : Expression) (w : ℕ) (s : Bool) (from : List ℕ) (c : List Call) (ti : List ℕ) (p : ℕ)
    → IsEnv env m → length (selected_slots part (sign index) from (constant_bits ti)) ≤ w
    → AreValues env m [] (from ∷ []) m 0 (λ state. source_value state source ∷ [])
    → IsValue env m index (width index) (sign index) c ti p
    → AreConstant ti
    → All (λ slot. slot < p) (selected_slots part (sign index) from (constant_bits ti))
    → (is_constant (Select source part index) ≡ true → AreConstant (selected_slots part (sign index) from (constant_bits ti)))
    → All (IsSource env m (read_bits (Select source part index))) (selected_slots part (sign index) from (constant_bits ti))
    → IsValue env m (Select source part index) w s c (extended_slots w s (selected_slots part (sign index) from (constant_bits ti))) p
select_without env m source part index w s from c ti p e long vf vi fixed below constant sources =
    let r = selected_slots part (sign index) from (constant_bits ti) in
    let x = λ (state : N.State). source_value state source in
    let y = λ (state : N.State). value index (width index) (sign index) state in
    let parts = subst (λ k. AreValues env m c (from ∷ ti ∷ []) p k (λ state. x state ∷ y state ∷ [])) (zero-add (weight index (width index)))
    (values_more env m [] (from ∷ []) m 0 (λ state. x state ∷ []) c (ti ∷ []) p (weight index (width index)) (λ state. y state ∷ []) e vf vi.values) in
    let moved = values_as env m c (from ∷ ti ∷ []) p (weight index (width index)) (λ state. x state ∷ y state ∷ []) (r ∷ []) (weight index (width index)) (λ state. select part (sign index) (x state) (y state) ∷ []) e parts (omega arith)
    (one_more (λ to. All (λ slot. slot < p) to) r below)
    (λ slots state constants same.
    let q = two_lists (map slots from) (map slots ti) (x state) (y state) same in
    ap (λ (v : BitList). v ∷ []) (selected_are part (sign index) slots from (constant_bits ti) constants ∙ ap (λ (v : BitList). select part (sign index) v (constant_bits ti)) q.0 ∙ ap (select part (sign index) (x state)) (sym (bits_are slots ti constants fixed) ∙ q.1))) in
    record {
      values = extended_values env m c r p (weight index (width index)) (weight (Select source part index) w) (λ state. select part (sign index) (x state) (y state)) (λ state. select part (sign index) (x state) (y state)) w s e
          (less (is_constant index) refl) (λ state. refl) moved;
      length = length-extended w s r long;
      constant = λ h. extended_all (λ slot. slot < 4) w s r (omega arith) (constant h);
      sources = extended_all (IsSource env m (read_bits (Select source part index))) w s r (inl (omega arith)) sources;
    }
  where
    less : (b : Bool) → is_constant index ≡ b → weight index (width index) ≤ weight (Select source part index) w
    less true h = let z = constant_weight index (width index) h in omega (arith, z)
    less false h =
        let z : weight (Select source part index) w ≡ part.width * (range_length part.range * width index) + weight index (width index) = ap (λ (b : Bool). if b then 0 else (part.width * (range_length part.range * width index) + weight index (width index))) h in
        omega (arith, z)
