-- An operator of one operand that was lowered.
use Rattle.std.proofs.Common.{◌≡◌, ℕ, ◌+◌, ◌<◌, ◌≤◌, ◌^◌, Bool, true, false, List, [], ◌∷◌, ◌++◌, map, length, sym, ap, ◌∙◌, subst, refl, arith, inl, inr}
use Rattle.std.specs.List.{All}
use Rattle.std.proofs.lemmas.List.{length-map}
use Rattle.std.proofs.lemmas.List.FromFn.{length-range_with_len}
use Rattle.std.proofs.lemmas.List.Elements.{All-nil, All-cons, All-weaker, All-head}
use Rattle.vs_four.specs.Logic.{BitList}
use Rattle.vs_four.specs.declared.Bit4.TheVariants.{X}
use Rattle.vs_net.specs.Network as N
use Rattle.vs_design.specs.Expressions.{UnaryOp, Plus, Minus, BitNot, Expression, Literal, Unary, unary_way, unary_length, width, sign, is_constant}
use Rattle.vs_design.specs.Sizes.{weight}
use Rattle.vs_design.specs.Fits.{fits, divides_constants, is_fit}
use Rattle.vs_design.specs.Values.{value, left_width, left_sign, apply_unary}
use Rattle.vs_design.specs.Footprints.{read_bits}
use Rattle.vs_design.specs.TreeLaws.{ValueLength}
use Rattle.vs_code.specs.Kernels.{takes, cost_of, room_of}
use Rattle.vs_code.specs.Calls.{call_cost, lengths_of}
use Rattle.vs_program.specs.Lowered.{HasConstants}
use Rattle.vs_values.specs.Added.{IsEnv, fresh_call}
use Rattle.vs_values.specs.Constants.{constant_slot, constant_slots, constant_bit, constant_bits, extended_slots, AreConstant}
use Rattle.vs_values.specs.Choices.{unary_kernel, unary_result, is_kept}
use Rattle.vs_values.specs.Coded.{Coding}
use Rattle.vs_values.specs.Made.{IsCallable, IsWithout, IsUnary}
use Rattle.vs_values.specs.Ready.{IsReady}
use Rattle.vs_values.specs.Valued.{IsSource, IsValue, AddsValue}
use Rattle.vs_values.proofs.Adding.{is_fresh_call}
use Rattle.vs_values.proofs.Moved.{constants_are, all_constant}
use Rattle.vs_values.proofs.Folding.{bits_are, constant_weight}
use Rattle.vs_values.proofs.Operators.{unary_takes, unary_cost, unary_room}
use Rattle.vs_values.proofs.Values.{both_true}
use Rattle.vs_values.proofs.Parts.{unary_is, unary_without, unary_lengths, weight_of_unary}
use Rattle.vs_values.proofs.Binary.{same_length, long_is}
use Rattle.vs_values.proofs.Readying.{fits_length, unary_long, stores_of, two_added}

operand_within : (op : UnaryOp) (w n : ℕ) → unary_length op n ≤ w → w ≤ 64 → n ≤ 64 → (n ≤ left_width (unary_way op) w n 0) × (left_width (unary_way op) w n 0 ≤ 64)
operand_within Plus w n h i j = (h, i)
operand_within Minus w n h i j = (h, i)
operand_within BitNot w n h i j = (h, i)
operand_within _ w n h i j = (omega arith, j)

-- its operand weighs no more than it
operand_weighs : (op : UnaryOp) (a : Expression) (w : ℕ) (b : Bool) → is_constant a ≡ b → weight a (left_width (unary_way op) w (width a) 0) ≤ weight (Unary op a) w
operand_weighs op a w true h = let z = constant_weight a (left_width (unary_way op) w (width a) 0) h in omega (arith, z)
operand_weighs op a w false h = let z = weight_of_unary op a w h in omega (arith, z)

record IsFitUnary (op : UnaryOp) (a : Expression) (w : ℕ) : Type 0 where
  pub fit : is_fit a ≡ true
  pub long : (1 ≤ width a) × (width a ≤ 64)
  pub within : (width a ≤ left_width (unary_way op) w (width a) 0) × (left_width (unary_way op) w (width a) 0 ≤ 64)
  pub some : 1 ≤ w

fit_unary : (op : UnaryOp) (a : Expression) (w : ℕ) → is_fit (Unary op a) ≡ true → width (Unary op a) ≤ w → w ≤ 64 → IsFitUnary op a w
fit_unary op a w h wide most =
    let p = both_true (fits a) (divides_constants a) h in
    let l = fits_length a p.0 in
    record {
      fit = h;
      long = l;
      within = operand_within op w (width a) wide most l.1;
      some = omega (arith, (unary_long op (width a) l).0, wide);
    }

-- what the code knows of its operand
pub record Operand (env : List ℕ) (code code1 : Coding) (op : UnaryOp) (a : Expression) (w : ℕ) (s : Bool) (ta : List ℕ) : Type 0 where
  pub ready : IsReady env code (Unary op a) w
  pub value : AddsValue env code.calls code.next code1.calls code1.next a (left_width (unary_way op) w (width a) 0) (left_sign (unary_way op) s (sign a) false) ta

pub ready_operand : (env : List ℕ) (code : Coding) (op : UnaryOp) (a : Expression) (w k n : ℕ) → k ≡ left_width (unary_way op) w n 0 → n ≡ width a → IsReady env code (Unary op a) w → IsReady env code a k
ready_operand env code op a w k n e h r =
    let f = fit_unary op a w r.fit r.wide r.at_most_64 in
    let weighs = operand_weighs op a w (is_constant a) refl in
    let is : left_width (unary_way op) w (width a) 0 ≡ k = sym (e ∙ ap (λ (x : ℕ). left_width (unary_way op) w x 0) h) in
    subst (IsReady env code a) is (record {
      is_env = r.is_env;
      has_bits = r.has_bits;
      fit = f.fit;
      wide = f.within.0;
      at_most_64 = f.within.1;
      light = omega (arith, r.light, weighs);
      slots = omega (arith, r.slots, weighs);
      few = omega (arith, r.few, weighs);
    })

pub operand_of : (env : List ℕ) (code code1 : Coding) (op : UnaryOp) (a : Expression) (w : ℕ) (s : Bool) (k n : ℕ) (t u : Bool) (ta : List ℕ)
    → k ≡ left_width (unary_way op) w n 0 → t ≡ left_sign (unary_way op) s u false → n ≡ width a → u ≡ sign a
    → IsReady env code (Unary op a) w → AddsValue env code.calls code.next code1.calls code1.next a k t ta → Operand env code code1 op a w s ta
operand_of env code code1 op a w s k n t u ta e f h i r v =
    let width_is : k ≡ left_width (unary_way op) w (width a) 0 = e ∙ ap (λ (x : ℕ). left_width (unary_way op) w x 0) h in
    let sign_is : t ≡ left_sign (unary_way op) s (sign a) false = f ∙ ap (λ (x : Bool). left_sign (unary_way op) s x false) i in
    record {
      ready = r;
      value = subst (λ (x : ℕ). AddsValue env code.calls code.next code1.calls code1.next a x (left_sign (unary_way op) s (sign a) false) ta) width_is
          (subst (λ (x : Bool). AddsValue env code.calls code.next code1.calls code1.next a k x ta) sign_is v);
    }

pub operand_long : (env : List ℕ) (code code1 : Coding) (op : UnaryOp) (a : Expression) (w : ℕ) (s : Bool) (ta : List ℕ) → Operand env code code1 op a w s ta → (1 ≤ length ta) × (length ta ≤ 64)
operand_long env code code1 op a w s ta o =
    let f = fit_unary op a w o.ready.fit o.ready.wide o.ready.at_most_64 in
    (omega (arith, f.long.0, f.within.0, o.value.value.length), omega (arith, f.within.1, o.value.value.length))

pub not_true : (b : Bool) → (b ≡ true → ⊥) → b ≡ false
not_true true f = absurd (f refl)
not_true false f = refl

no_room : (op : UnaryOp) (w n : ℕ) → 0 ≡ room_of (unary_kernel op) (unary_lengths op w n)
no_room op w n = grind arith

result_short : (op : UnaryOp) (w : ℕ) → 1 ≤ w → w ≤ 64 → unary_result op w ≤ 64
result_short op w h i = grind arith

short_lengths : (op : UnaryOp) (w n : ℕ) → left_width (unary_way op) w n 0 ≤ 64 → unary_result op w ≤ 64 → All (λ k. k < 2 ^ 32) (unary_lengths op w n)
short_lengths op w n h i =
    All-cons (λ k. k < 2 ^ 32) (left_width (unary_way op) w n 0) (unary_result op w ∷ []) (omega arith) (All-cons (λ k. k < 2 ^ 32) (unary_result op w) [] (omega arith) (All-nil (λ k. k < 2 ^ 32)))

pub callable_unary : (env : List ℕ) (code code1 : Coding) (op : UnaryOp) (a : Expression) (w : ℕ) (s : Bool) (ta : List ℕ) → Operand env code code1 op a w s ta
    → is_kept op ≡ false → (AreConstant ta → ⊥) → IsCallable code1 (unary_kernel op) (ta ∷ []) (unary_result op w)
callable_unary env code code1 op a w s ta o own variable =
    let r = o.ready in
    let va = o.value in
    let f = fit_unary op a w r.fit r.wide r.at_most_64 in
    let lw = left_width (unary_way op) w (width a) 0 in
    let k = unary_result op w in
    let kernel = unary_kernel op in
    let constant = not_true (is_constant a) (λ h. variable (va.value.constant h)) in
    let same : unary_lengths op w (width a) ≡ (length ta ∷ k ∷ []) = ap (λ (x : ℕ). x ∷ k ∷ []) (sym va.value.length) in
    let call = fresh_call kernel (ta ∷ []) code1.next k in
    let lengths : lengths_of call ≡ unary_lengths op w (width a) = ap (λ (x : ℕ). length ta ∷ x ∷ []) (length-range_with_len code1.next k) ∙ sym same in
    let cost : call_cost call ≡ cost_of kernel (unary_lengths op w (width a)) = ap (cost_of kernel) lengths in
    let none = no_room op w (width a) in
    let paid = unary_room op w (width a) own in
    let weighs = unary_cost op w (width a) own f.some f.long.0 in
    let total = weight_of_unary op a w constant in
    let short = result_short op w f.some r.at_most_64 in
    let added = va.value.values.added in
    let stored = stores_of code.calls va.calls code1.calls va.is in
    let here : code1.next + k < 2 ^ 32 = omega (arith, r.slots, total, weighs, paid, added.paid, added.stores) in
    record {
      is = is_fresh_call kernel (ta ∷ []) code1.next k
          (subst (λ ls. takes kernel ls ≡ true) same (unary_takes op w (width a) own f.some f.long.0))
          (subst (All (λ n. n < 2 ^ 32)) same (short_lengths op w (width a) f.within.1 short))
          (subst (λ xs. room_of kernel xs ≤ 0) same (omega (arith, none)))
          (omega (arith, here)) va.value.values.below;
      slots = here;
      few = omega (arith, r.few, total, weighs, cost, added.stores, stored);
    }

-- ---- the lengths of values of operators

lit_same : (op : UnaryOp) (w m n : ℕ) → unary_length op m ≤ w → n ≡ left_width (unary_way op) w m 0 → (left_width (unary_way op) w n 0 ≡ n) × (unary_length op n ≤ w)
lit_same Plus w m n h e = (sym e, omega arith)
lit_same Minus w m n h e = (sym e, omega arith)
lit_same BitNot w m n h e = (sym e, omega arith)
lit_same _ w m n h e = (refl, omega arith)

apply_length : ValueLength → (op : UnaryOp) (w m : ℕ) (x : BitList) → unary_length op m ≤ w → length x ≡ left_width (unary_way op) w m 0 → length (apply_unary op x) ≤ w
apply_length law op w m x l e =
    let a = Literal x false true in
    let state : N.State = λ bit. X in
    let p = lit_same op w m (length x) l e in
    let g = left_sign (unary_way op) false false false in
    let is_a : value a (left_width (unary_way op) w (length x) 0) g state ≡ x = same_length x _ (left_width (unary_way op) w (length x) 0) (sym p.0) in
    let long = law (Unary op a) w false state p.1 in
    let inner = long_is (apply_unary op (value a (left_width (unary_way op) w (length x) 0) g state)) _ w long in
    subst (λ (v : BitList). length (apply_unary op v) ≤ w) is_a inner

-- ---- what comes of it

without_unary : (env : List ℕ) (code code1 code2 : Coding) (op : UnaryOp) (a : Expression) (w : ℕ) (s : Bool) (ta r to : List ℕ) → IsEnv env code.next
    → (va : AddsValue env code.calls code.next code1.calls code1.next a (left_width (unary_way op) w (width a) 0) (left_sign (unary_way op) s (sign a) false) ta)
    → length r ≤ w → ((slots : _) → HasConstants slots → map slots r ≡ apply_unary op (map slots ta))
    → All (λ slot. slot < code1.next) r → (is_constant a ≡ true → AreConstant r) → All (IsSource env code.next (read_bits a)) r
    → IsWithout code1 code2 to (extended_slots w s r)
    → AddsValue env code.calls code.next code2.calls code2.next (Unary op a) w s to
without_unary env code code1 code2 op a w s ta r to e va long is below constant sources h =
    subst (λ (x : Coding). AddsValue env code.calls code.next x.calls x.next (Unary op a) w s to) (sym h.same)
    (subst (λ (t : List ℕ). AddsValue env code.calls code.next code1.calls code1.next (Unary op a) w s t) (sym h.are) (record {
      calls = va.calls;
      is = va.is;
      value = unary_without env code.next op a w s va.calls ta r code1.next e long va.value is below constant sources;
    }))

kept_width : (op : UnaryOp) (w n : ℕ) → is_kept op ≡ true → unary_length op n ≤ w → left_width (unary_way op) w n 0 ≤ w
kept_width op w n h l = grind arith

kept_value : (op : UnaryOp) (a : BitList) → is_kept op ≡ true → apply_unary op a ≡ a
kept_value op a h = grind arith

pub returns_unary : ValueLength → (env : List ℕ) (code code1 code2 : Coding) (op : UnaryOp) (a : Expression) (w : ℕ) (s : Bool) (ta to : List ℕ) → Operand env code code1 op a w s ta
    → IsUnary op w s ta code1 code2 to
    → AddsValue env code.calls code.next code2.calls code2.next (Unary op a) w s to
returns_unary law env code code1 code2 op a w s ta to o (inl h) =
    let va = o.value in
    let f = fit_unary op a w o.ready.fit o.ready.wide o.ready.at_most_64 in
    without_unary env code code1 code2 op a w s ta ta to o.ready.is_env va (omega (arith, va.value.length, kept_width op w (width a) h.0 o.ready.wide))
    (λ slots c. sym (kept_value op (map slots ta) h.0)) (All-head (λ t. All (λ slot. slot < code1.next) t) ta [] va.value.values.below) va.value.constant va.value.sources h.1
returns_unary law env code code1 code2 op a w s ta to o (inr (inl h)) =
    let va = o.value in
    let v = apply_unary op (constant_bits ta) in
    let r = constant_slots v in
    let least : 4 ≤ code1.next = omega (arith, o.ready.is_env.constants, va.value.values.added.grown) in
    without_unary env code code1 code2 op a w s ta r to o.ready.is_env va
    (omega (arith, length-map v constant_slot, apply_length law op w (width a) (constant_bits ta) o.ready.wide (length-map ta constant_bit ∙ va.value.length)))
    (λ slots c. constants_are slots v c ∙ ap (apply_unary op) (sym (bits_are slots ta c h.0)))
    (All-weaker (λ slot. slot < 4) (λ slot. slot < code1.next) (λ slot l. omega arith) r (all_constant v))
    (λ c. all_constant v)
    (All-weaker (λ slot. slot < 4) (IsSource env code.next (read_bits a)) (λ slot l. inl l) r (all_constant v))
    h.1
returns_unary law env code code1 code2 op a w s ta to o (inr (inr h)) =
    let va = o.value in
    let f = fit_unary op a w o.ready.fit o.ready.wide o.ready.at_most_64 in
    let k = unary_result op w in
    let call = fresh_call (unary_kernel op) (ta ∷ []) code1.next k in
    let can = callable_unary env code code1 op a w s ta o h.kept h.variable in
    let value = unary_is env code.next op a w s va.calls ta code1.next o.ready.is_env h.kept f.some f.long.0 (not_true (is_constant a) (λ c. h.variable (va.value.constant c))) va.value (no_room op w (width a))
    (short_lengths op w (width a) f.within.1 (result_short op w f.some o.ready.at_most_64)) (omega (arith, can.slots)) in
    record {
      calls = va.calls ++ call ∷ [];
      is = two_added code.calls va.calls (call ∷ []) code1.calls code2.calls va.is (ap (λ (x : Coding). x.calls) h.call);
      value = subst (λ n. IsValue env code.next (Unary op a) w s (va.calls ++ call ∷ []) to n) (sym (ap (λ (x : Coding). x.next) h.call))
          (subst (λ t. IsValue env code.next (Unary op a) w s (va.calls ++ call ∷ []) t (code1.next + k)) (sym h.are) value);
    }
