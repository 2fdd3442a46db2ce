-- A product by a constant of few ones, of operands that were lowered.
use Rattle.std.proofs.Common.{◌≡◌, ℕ, ◌+◌, ◌*◌, ◌-◌, ◌<◌, ◌≤◌, ◌^◌, Bool, true, false, ◌&&◌, List, [], ◌∷◌, ◌++◌, map, length, replicate, if◌then◌else◌, sym, ap, ◌∙◌, subst, refl, arith, append-nil, append_assoc, true≢false, inl, inr}
use Rattle.std.specs.List.{All}
use Rattle.std.proofs.lemmas.List.Elements.{All-head, All-weaker}
use Rattle.vs_four.specs.Logic.{BitList}
use Rattle.vs_four.specs.Numbers.{mul}
use Rattle.vs_four.specs.Lengths.{last_or}
use Rattle.vs_net.specs.Network as N
use Rattle.vs_design.specs.Expressions.{BinaryOp, Multiply, Expression, Binary, width, is_constant}
use Rattle.vs_design.specs.Footprints.{read_bits}
use Rattle.vs_design.specs.Sizes.{weight}
use Rattle.vs_design.specs.Values.{value}
use Rattle.vs_code.specs.Calls.{Call, length_of}
use Rattle.vs_values.specs.Added.{IsEnv, AreValues, vectors, IsNew}
use Rattle.vs_values.specs.Coded.{Coding}
use Rattle.vs_values.specs.Constants.{AreConstant, extended_slots}
use Rattle.vs_values.specs.Products.{HasRoom, AddsProduct, product_cost}
use Rattle.vs_values.specs.Valued.{IsSource, AddsValue}
use Rattle.vs_values.proofs.Adding.{called_parts, constants_stay, added_more, values_more}
use Rattle.vs_values.proofs.Operators.{binary_cost}
use Rattle.vs_values.proofs.Values.{extended_values, one_more, weight_of_binary}
use Rattle.vs_values.proofs.Readying.{fit_binary, some_width, stores_of, two_added}
use Rattle.vs_values.proofs.Binary.{Operands, short_is}

two_lists : (a b x y : BitList) → (a ∷ b ∷ []) ≡ (x ∷ y ∷ []) → (a ≡ x) × (b ≡ y)
two_lists a b x y h = (cc, cc)

-- the calls of a product after those of its operands
values_product : (env : List ℕ) (m : ℕ) (c : List Call) (ta tb : List ℕ) (most : ℕ) (u v : N.State → BitList) (old new : Coding) (more : ℕ) (to : List ℕ)
    → IsEnv env m → AreValues env m c (ta ∷ tb ∷ []) old.next most (λ state. u state ∷ v state ∷ []) → (x : AddsProduct old new ta tb more to)
    → AreValues env m (c ++ x.adds.calls) (to ∷ []) new.next (most + more) (λ state. mul (u state) (v state) ∷ [])
values_product env m c ta tb most u v old new more to e a x = record {
  added = added_more m c old.next most x.adds.calls new.next more a.added x.adds.added;
  below = one_more (λ (t : List ℕ). All (λ slot. slot < new.next) t) to x.below;
  values = λ before after state holds called.
      let parts = called_parts c x.adds.calls before after called in
      let first : vectors parts.0 (ta ∷ tb ∷ []) ≡ (u state ∷ v state ∷ []) = a.values before parts.0 state holds parts.1 in
      let two = two_lists (map parts.0 ta) (map parts.0 tb) (u state) (v state) first in
      ap (λ (t : BitList). t ∷ [])
      (x.adds.values parts.0 after (constants_stay c m before parts.0 e.constants a.added.fresh parts.1 holds.constants) parts.2
      ∙ ap (λ (t : BitList). mul t (map parts.0 tb)) two.0
      ∙ ap (mul (u state)) two.1);
}

not_both : (a b : Bool) → (a ≡ true → b ≡ true → ⊥) → (a && b) ≡ false
not_both true true f = absurd (f refl refl)
not_both true false f = refl
not_both false b f = refl

same_slots : (w : ℕ) (s : Bool) (to : List ℕ) → length to ≡ w → extended_slots w s to ≡ to
same_slots w s to h = let z : w - length to ≡ 0 = omega arith in ap (λ (n : ℕ). to ++ replicate n (if s then last_or 0 to else 0)) z ∙ append-nil to

source : (env : List ℕ) (m p : ℕ) (bits : List ℕ) (slot : ℕ) → m ≤ p → IsNew p slot → IsSource env m bits slot
source env m p bits slot l (inl h) = inl h
source env m p bits slot l (inr h) = inr (inl (omega arith))

-- what the operands weigh, and a call of `*`
record Weighed (a b : Expression) (w : ℕ) : Type 0 where
  pub total : weight (Binary Multiply a b) w ≡ 4 * (w * w) + weight a w + weight b w
  pub cost : product_cost w ≤ 4 * (w * w)

weighed : (env : List ℕ) (code code1 code2 : Coding) (a b : Expression) (w : ℕ) (s ls : Bool) (ta tb : List ℕ) → Operands env code code1 code2 Multiply a b w s ls ta tb
    → (is_constant a && is_constant b) ≡ false → Weighed a b w
weighed env code code1 code2 a b w s ls ta tb o both =
    let f = fit_binary Multiply a b o.ready.fit in
    record {
      total = weight_of_binary Multiply a b w both refl;
      cost = binary_cost Multiply s w (width a) (width b) refl (some_width Multiply a b w f o.ready.wide) f.left_long.0 f.right_long.0;
    }

variable : (env : List ℕ) (code code1 code2 : Coding) (a b : Expression) (w : ℕ) (s ls : Bool) (ta tb : List ℕ) → Operands env code code1 code2 Multiply a b w s ls ta tb
    → (AreConstant ta → AreConstant tb → ⊥) → (is_constant a && is_constant b) ≡ false
variable env code code1 code2 a b w s ls ta tb o f = not_both (is_constant a) (is_constant b) (λ h k. f (o.left.value.constant h) (o.right.value.constant k))

returns_product : (env : List ℕ) (code code1 code2 code3 : Coding) (a b : Expression) (w : ℕ) (s ls : Bool) (ta tb to : List ℕ) → Operands env code code1 code2 Multiply a b w s ls ta tb
    → (AreConstant ta → AreConstant tb → ⊥) → AddsProduct code2 code3 ta tb (product_cost (length ta)) to
    → AddsValue env code.calls code.next code3.calls code3.next (Binary Multiply a b) w s to
returns_product env code code1 code2 code3 a b w s ls ta tb to o f x =
    let va = o.left.value in
    let vb = o.right.value in
    let both = variable env code code1 code2 a b w s ls ta tb o f in
    let k = weighed env code code1 code2 a b w s ls ta tb o both in
    let fits : product_cost (length ta) ≡ product_cost w = ap (λ (n : ℕ). product_cost n) va.length in
    let long : length to ≡ w = x.long ∙ va.length in
    let parts = values_more env code.next o.left.calls (ta ∷ []) code1.next (weight a w) (λ state. value a w s state ∷ []) o.right.calls (tb ∷ []) code2.next (weight b w) (λ state. value b w s state ∷ []) o.ready.is_env va.values vb.values in
    let all = values_product env code.next (o.left.calls ++ o.right.calls) ta tb (weight a w + weight b w) (λ state. value a w s state) (λ state. value b w s state) code2 code3 (product_cost (length ta)) to o.ready.is_env parts x in
    let calls = (o.left.calls ++ o.right.calls) ++ x.adds.calls in
    let values = extended_values env code.next calls to code3.next (weight a w + weight b w + product_cost (length ta)) (weight (Binary Multiply a b) w)
    (λ state. mul (value a w s state) (value b w s state)) (λ state. mul (value a w s state) (value b w s state)) w s o.ready.is_env (omega (arith, k.total, k.cost, fits)) (λ state. refl) all in
    record {
      calls = calls;
      is = x.adds.is ∙ ap (λ (cs : List Call). cs ++ x.adds.calls) (two_added code.calls o.left.calls o.right.calls code1.calls code2.calls o.left.is o.right.is) ∙ append_assoc code.calls (o.left.calls ++ o.right.calls) x.adds.calls;
      value = record {
        values = subst (λ (t : List ℕ). AreValues env code.next calls (t ∷ []) code3.next (weight (Binary Multiply a b) w) (λ state. value (Binary Multiply a b) w s state ∷ [])) (same_slots w s to long) values;
        length = long;
        constant = λ h. absurd (true≢false (sym h ∙ both));
        sources = All-weaker (IsNew code2.next) (IsSource env code.next (read_bits (Binary Multiply a b)))
            (λ slot. source env code.next code2.next (read_bits (Binary Multiply a b)) slot (omega (arith, va.values.added.grown, vb.values.added.grown))) to x.new_slots;
      };
    }

pub returns_summed : (env : List ℕ) (code code1 code2 code3 : Coding) (op : BinaryOp) (a b : Expression) (w : ℕ) (s ls : Bool) (ta tb to : List ℕ) → op ≡ Multiply
    → Operands env code code1 code2 op a b w s ls ta tb → (AreConstant ta → AreConstant tb → ⊥) → AddsProduct code2 code3 ta tb (product_cost (length ta)) to
    → AddsValue env code.calls code.next code3.calls code3.next (Binary op a b) w s to
returns_summed env code code1 code2 code3 op a b w s ls ta tb to e =
    subst (λ (op : BinaryOp). Operands env code code1 code2 op a b w s ls ta tb → (AreConstant ta → AreConstant tb → ⊥) → AddsProduct code2 code3 ta tb (product_cost (length ta)) to
    → AddsValue env code.calls code.next code3.calls code3.next (Binary op a b) w s to) (sym e) (returns_product env code code1 code2 code3 a b w s ls ta tb to)

-- ---- room

pub record Summable (code : Coding) (ta tb : List ℕ) : Type 0 where
  pub alike : length ta ≡ length tb
  pub room_a : HasRoom code ta (product_cost (length ta))
  pub room_b : HasRoom code tb (product_cost (length ta))

summable_product : (env : List ℕ) (code code1 code2 : Coding) (a b : Expression) (w : ℕ) (s ls : Bool) (ta tb : List ℕ) → Operands env code code1 code2 Multiply a b w s ls ta tb
    → (AreConstant ta → AreConstant tb → ⊥) → Summable code2 ta tb
summable_product env code code1 code2 a b w s ls ta tb o f =
    let short = short_is env code code1 code2 Multiply a b w s ls ta tb o in
    let k = weighed env code code1 code2 a b w s ls ta tb o (variable env code code1 code2 a b w s ls ta tb o f) in
    let fits : product_cost (length ta) ≡ product_cost w = ap (λ (n : ℕ). product_cost n) o.left.value.length in
    let added_a = o.left.value.values.added in
    let added_b = o.right.value.values.added in
    let stored_a = stores_of code.calls o.left.calls code1.calls o.left.is in
    let stored_b = stores_of code1.calls o.right.calls code2.calls o.right.is in
    let least : 4 ≤ code2.next = omega (arith, o.ready.is_env.constants, added_a.grown, added_b.grown) in
    let slots : code2.next + product_cost (length ta) < 2 ^ 32 = omega (arith, o.ready.slots, k.total, k.cost, fits, added_a.paid, added_a.stores, added_b.paid, added_b.stores) in
    let few : length_of code2.calls + product_cost (length ta) ≤ 2 ^ 32 = omega (arith, o.ready.few, k.total, k.cost, fits, added_a.stores, added_b.stores, stored_a, stored_b) in
    record {
      alike = o.left.value.length ∙ sym o.right.value.length;
      room_a = record {
        some = short.some;
        short = short.most;
        constants = least;
        below = All-weaker (λ slot. slot < code1.next) (λ slot. slot < code2.next) (λ slot l. omega (arith, added_b.grown)) ta (All-head (λ t. All (λ slot. slot < code1.next) t) ta [] o.left.value.values.below);
        slots = slots;
        few = few;
      };
      room_b = record {
        some = short.some_b;
        short = short.most_b;
        constants = least;
        below = All-head (λ t. All (λ slot. slot < code2.next) t) tb [] o.right.value.values.below;
        slots = slots;
        few = few;
      };
    }

pub summable : (env : List ℕ) (code code1 code2 : Coding) (op : BinaryOp) (a b : Expression) (w : ℕ) (s ls : Bool) (ta tb : List ℕ) → op ≡ Multiply
    → Operands env code code1 code2 op a b w s ls ta tb → (AreConstant ta → AreConstant tb → ⊥) → Summable code2 ta tb
summable env code code1 code2 op a b w s ls ta tb e =
    subst (λ (op : BinaryOp). Operands env code code1 code2 op a b w s ls ta tb → (AreConstant ta → AreConstant tb → ⊥) → Summable code2 ta tb) (sym e) (summable_product env code code1 code2 a b w s ls ta tb)
