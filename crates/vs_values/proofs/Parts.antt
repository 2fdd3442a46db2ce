-- The slots of further expressions' values, of those of their parts.
use Rattle.std.proofs.Common.{◌≡◌, ℕ, ◌+◌, ◌*◌, ◌<◌, ◌≤◌, ◌^◌, Bool, true, false, ◌&&◌, ◌==◌, if◌then◌else◌, List, [], ◌∷◌, ◌++◌, map, length, sym, ap, ◌∙◌, subst, refl, inl, arith, true≢false, nat_le}
use Rattle.std.specs.List.{All, range_with_len}
use Rattle.std.proofs.lemmas.List.{length-map}
use Rattle.std.proofs.lemmas.List.Elements.{All-nil, All-cons, All-head, All-weaker}
use Rattle.std.proofs.lemmas.List.FromFn.{length-range_with_len}
use Rattle.vs_four.specs.Logic.{BitList, truth, choose}
use Rattle.vs_four.specs.Lengths.{repeat}
use Rattle.vs_net.specs.Network as N
use Rattle.vs_design.specs.Expressions.{UnaryOp, BinaryOp, Expression, Unary, Binary, Choice, Repeat, way, unary_way, width, sign, is_constant}
use Rattle.vs_design.specs.Values.{value, apply_unary, apply_binary, left_width, right_width, left_sign, right_sign}
use Rattle.vs_design.specs.Sizes.{weight, unary_weight}
use Rattle.vs_design.specs.Footprints.{read_bits}
use Rattle.vs_kern_select.specs.declared.costs.Kernel.TheVariants as S
use Rattle.vs_code.specs.declared.kernels.AnyKernel.TheVariants.{Select}
use Rattle.vs_code.specs.Kernels.{operator_of, takes, cost_of, room_of}
use Rattle.vs_code.specs.Calls.{Call, State, IsCall, call_cost, lengths_of}
use Rattle.vs_program.specs.Lowered.{HasConstants}
use Rattle.vs_values.specs.Added.{IsEnv, fresh_call}
use Rattle.vs_values.specs.Constants.{constant_slot, constant_slots, constant_bits, extended_slots, AreConstant}
use Rattle.vs_values.specs.Choices.{is_kept, unary_kernel, unary_result}
use Rattle.vs_values.specs.Valued.{IsSource, IsValue}
use Rattle.vs_values.proofs.Adding.{values_more, values_as, values_call, is_fresh_call}
use Rattle.vs_values.proofs.Moved.{constants_are, all_constant, extended_all, length-extended, map_repeat, all_repeat, length-repeated}
use Rattle.vs_values.proofs.Operators.{unary_takes, unary_operator, unary_cost, unary_room}
use Rattle.vs_values.proofs.Folding.{bits_are, constant_weight}
use Rattle.vs_values.proofs.Values.{extended_values, one_more, fresh_sources}

one_list : (x y : BitList) → (x ∷ []) ≡ (y ∷ []) → x ≡ y
one_list x y h = cc

two_lists : (a b x y : BitList) → (a ∷ b ∷ []) ≡ (x ∷ y ∷ []) → (a ≡ x) × (b ≡ y)
two_lists a b x y h = (cc, cc)

-- ---- an operator of one operand, by its kernel

pub weight_of_unary : (op : UnaryOp) (a : Expression) (w : ℕ) → is_constant a ≡ false → weight (Unary op a) w ≡ unary_weight op w (width a) + weight a (left_width (unary_way op) w (width a) 0)
weight_of_unary op a w h = ap (λ (c : Bool). if c then 0 else (unary_weight op w (width a) + weight a (left_width (unary_way op) w (width a) 0))) h

unary_within : (op : UnaryOp) (w : ℕ) → 1 ≤ w → unary_result op w ≤ w
unary_within op w h = grind arith

abbrev pub unary_lengths : UnaryOp → ℕ → ℕ → List ℕ
unary_lengths op w n = left_width (unary_way op) w n 0 ∷ unary_result op w ∷ []

pub unary_is : (env : List ℕ) (m : ℕ) (op : UnaryOp) (a : Expression) (w : ℕ) (s : Bool) (c : List Call) (ta : List ℕ) (p : ℕ)
    → IsEnv env m → is_kept op ≡ false → 1 ≤ w → 1 ≤ width a → is_constant a ≡ false
    → IsValue env m a (left_width (unary_way op) w (width a) 0) (left_sign (unary_way op) s (sign a) false) c ta p
    → 0 ≡ room_of (unary_kernel op) (unary_lengths op w (width a))
    → All (λ k. k < 2 ^ 32) (unary_lengths op w (width a))
    → p + unary_result op w ≤ 2 ^ 32
    → IsValue env m (Unary op a) w s (c ++ fresh_call (unary_kernel op) (ta ∷ []) p (unary_result op w) ∷ []) (extended_slots w s (range_with_len p (unary_result op w))) (p + unary_result op w)
unary_is env m op a w s c ta p e own some wide constant va kept short fits =
    let ls = left_sign (unary_way op) s (sign a) false in
    let lw = left_width (unary_way op) w (width a) 0 in
    let k = unary_result op w in
    let kernel = unary_kernel op in
    let same : unary_lengths op w (width a) ≡ (length ta ∷ k ∷ []) = ap (λ (x : ℕ). x ∷ k ∷ []) (sym va.length) in
    let call = fresh_call kernel (ta ∷ []) p k in
    let lengths : lengths_of call ≡ unary_lengths op w (width a) = ap (λ (x : ℕ). length ta ∷ x ∷ []) (length-range_with_len p k) ∙ sym same in
    let cost : call_cost call ≡ cost_of kernel (unary_lengths op w (width a)) = ap (cost_of kernel) lengths in
    let is : IsCall call = is_fresh_call kernel (ta ∷ []) p k
    (subst (λ ls. takes kernel ls ≡ true) same (unary_takes op w (width a) own some wide))
    (subst (All (λ n. n < 2 ^ 32)) same short)
    (subst (λ xs. room_of kernel xs ≤ 0) same (omega (arith, kept)))
    fits va.values.below in
    let done = values_call env m c (ta ∷ []) p (weight a lw) (λ state. value a lw ls state ∷ []) kernel k (unary_weight op w (width a))
    va.values is (omega (arith, cost, kept, unary_room op w (width a) own)) (omega (arith, cost, unary_cost op w (width a) own some wide)) in
    record {
      values = extended_values env m (c ++ call ∷ []) (range_with_len p k) (p + k) (weight a lw + unary_weight op w (width a)) (weight (Unary op a) w)
          (λ state. operator_of kernel k (value a lw ls state ∷ [])) (λ state. apply_unary op (value a lw ls state)) w s e
          (omega (arith, weight_of_unary op a w constant)) (λ state. unary_operator op k (value a lw ls state) own) done;
      length = length-extended w s (range_with_len p k) (omega (arith, length-range_with_len p k, unary_within op w some));
      constant = λ h. absurd (true≢false (sym h ∙ constant));
      sources = extended_all (IsSource env m (read_bits (Unary op a))) w s (range_with_len p k) (inl (omega arith))
          (fresh_sources env m p k (read_bits (Unary op a)) va.values.added.grown);
    }

-- a constant operand, or unary `+`, `$signed` and `$unsigned`: another list of slots, with no call. `r` is the operator's value on constants, or the operand's slots
pub unary_without : (env : List ℕ) (m : ℕ) (op : UnaryOp) (a : Expression) (w : ℕ) (s : Bool) (c : List Call) (ta r : List ℕ) (p : ℕ)
    → IsEnv env m → length r ≤ w
    → IsValue env m a (left_width (unary_way op) w (width a) 0) (left_sign (unary_way op) s (sign a) false) c ta p
    → ((slots : State) → HasConstants slots → map slots r ≡ apply_unary op (map slots ta))
    → All (λ slot. slot < p) r → (is_constant a ≡ true → AreConstant r) → All (IsSource env m (read_bits a)) r
    → IsValue env m (Unary op a) w s c (extended_slots w s r) p
unary_without env m op a w s c ta r p e long va is below constant sources =
    let ls = left_sign (unary_way op) s (sign a) false in
    let lw = left_width (unary_way op) w (width a) 0 in
    let moved = values_as env m c (ta ∷ []) p (weight a lw) (λ state. value a lw ls state ∷ []) (r ∷ []) (weight a lw) (λ state. apply_unary op (value a lw ls state) ∷ []) e va.values (omega arith)
    (one_more (λ to. All (λ slot. slot < p) to) r below)
    (λ slots state constants same. ap (λ (x : BitList). x ∷ []) (is slots constants ∙ ap (apply_unary op) (one_list (map slots ta) (value a lw ls state) same))) in
    record {
      values = extended_values env m c r p (weight a lw) (weight (Unary op a) w) (λ state. apply_unary op (value a lw ls state)) (λ state. apply_unary op (value a lw ls state)) w s e
          (less (is_constant a) refl) (λ state. refl) moved;
      length = length-extended w s r long;
      constant = λ h. extended_all (λ slot. slot < 4) w s r (omega arith) (constant h);
      sources = extended_all (IsSource env m (read_bits (Unary op a))) w s r (inl (omega arith)) sources;
    }
  where
    less : (b : Bool) → is_constant a ≡ b → weight a (left_width (unary_way op) w (width a) 0) ≤ weight (Unary op a) w
    less true h = let z = constant_weight a (left_width (unary_way op) w (width a) 0) h in omega (arith, z)
    less false h = let z = weight_of_unary op a w h in omega (arith, z)

-- ---- two operands, with no call: both constants, or a shift by a constant amount
pub binary_without : (env : List ℕ) (m : ℕ) (op : BinaryOp) (a b : Expression) (w : ℕ) (s : Bool) (c : List Call) (ta : List ℕ) (n : ℕ) (d : List Call) (tb : List ℕ) (p : ℕ) (r : List ℕ)
    → IsEnv env m → length r ≤ w
    → IsValue env m a (left_width (way op) w (width a) (width b)) (left_sign (way op) s (sign a) (sign b)) c ta n
    → IsValue env n b (right_width (way op) w (width a) (width b)) (right_sign (way op) s (sign a) (sign b)) d tb p
    → ((slots : State) → HasConstants slots → map slots r ≡ apply_binary op (left_sign (way op) s (sign a) (sign b)) (right_sign (way op) s (sign a) (sign b)) (map slots ta) (map slots tb))
    → All (λ slot. slot < p) r → ((is_constant a && is_constant b) ≡ true → AreConstant r) → All (IsSource env m (read_bits a ++ read_bits b)) r
    → IsValue env m (Binary op a b) w s (c ++ d) (extended_slots w s r) p
binary_without env m op a b w s c ta n d tb p r e long va vb is below constant sources =
    let ls = left_sign (way op) s (sign a) (sign b) in
    let rs = right_sign (way op) s (sign a) (sign b) in
    let lw = left_width (way op) w (width a) (width b) in
    let rw = right_width (way op) w (width a) (width b) in
    let parts = values_more env m c (ta ∷ []) n (weight a lw) (λ state. value a lw ls state ∷ []) d (tb ∷ []) p (weight b rw) (λ state. value b rw rs state ∷ []) e va.values vb.values in
    let moved = values_as env m (c ++ d) (ta ∷ tb ∷ []) p (weight a lw + weight b rw) (λ state. value a lw ls state ∷ value b rw rs state ∷ []) (r ∷ []) (weight a lw + weight b rw)
    (λ state. apply_binary op ls rs (value a lw ls state) (value b rw rs state) ∷ []) e parts (omega arith)
    (one_more (λ to. All (λ slot. slot < p) to) r below)
    (λ slots state constants same.
    let q = two_lists (map slots ta) (map slots tb) (value a lw ls state) (value b rw rs state) same in
    ap (λ (x : BitList). x ∷ []) (is slots constants ∙ ap (λ (x : BitList). apply_binary op ls rs x (map slots tb)) q.0 ∙ ap (apply_binary op ls rs (value a lw ls state)) q.1)) in
    record {
      values = extended_values env m (c ++ d) r p (weight a lw + weight b rw) (weight (Binary op a b) w) (λ state. apply_binary op ls rs (value a lw ls state) (value b rw rs state)) (λ state. apply_binary op ls rs (value a lw ls state) (value b rw rs state)) w s e
          (omega arith) (λ state. refl) moved;
      length = length-extended w s r long;
      constant = λ h. extended_all (λ slot. slot < 4) w s r (omega arith) (constant h);
      sources = extended_all (IsSource env m (read_bits (Binary op a b))) w s r (inl (omega arith)) sources;
    }

-- ---- copies

pub repeat_is : (env : List ℕ) (m count : ℕ) (a : Expression) (w : ℕ) (s : Bool) (c : List Call) (ta : List ℕ) (p : ℕ) → IsEnv env m → count * width a ≤ w
    → IsValue env m a (width a) (sign a) c ta p → IsValue env m (Repeat count a) w s c (extended_slots w s (repeat count ta)) p
repeat_is env m count a w s c ta p e fits va =
    let v = λ (state : N.State). value a (width a) (sign a) state in
    let moved = values_as env m c (ta ∷ []) p (weight a (width a)) (λ state. v state ∷ []) (repeat count ta ∷ []) (weight a (width a)) (λ state. repeat count (v state) ∷ []) e va.values (omega arith)
    (one_more (λ to. All (λ slot. slot < p) to) (repeat count ta) (all_repeat (λ slot. slot < p) count ta (All-head (λ to. All (λ slot. slot < p) to) ta [] va.values.below)))
    (λ slots state constants same. ap (λ (x : BitList). x ∷ []) (map_repeat slots count ta ∙ ap (repeat count) (one_list (map slots ta) (v state) same))) in
    record {
      values = extended_values env m c (repeat count ta) p (weight a (width a)) (weight (Repeat count a) w) (λ state. repeat count (v state)) (λ state. repeat count (v state)) w s e (omega arith) (λ state. refl) moved;
      length = length-extended w s (repeat count ta) (omega (arith, length-repeated count ta, ap (λ (k : ℕ). count * k) va.length));
      constant = λ h. extended_all (λ slot. slot < 4) w s (repeat count ta) (omega arith) (all_repeat (λ slot. slot < 4) count ta (va.constant h));
      sources = extended_all (IsSource env m (read_bits (Repeat count a))) w s (repeat count ta) (inl (omega arith)) (all_repeat (IsSource env m (read_bits a)) count ta va.sources);
    }

-- ---- `c ? p : q`

three_lists : (a b c x y z : BitList) → (a ∷ b ∷ c ∷ []) ≡ (x ∷ y ∷ z ∷ []) → (a ≡ x) × (b ≡ y) × (c ≡ z)
three_lists a b c x y z h = (cc, cc, cc)

le_true : (a b : ℕ) → a ≤ b → nat_le a b ≡ true
le_true a b h = grind arith

eq_true : (a : ℕ) → (a == a) ≡ true
eq_true a = grind arith

pub choice_takes : (c w : ℕ) → 1 ≤ c → 1 ≤ w → (nat_le 1 c && nat_le 1 w && w == w && w == w) ≡ true
choice_takes c w h k = ap (λ (b : Bool). b && nat_le 1 w && w == w && w == w) (le_true 1 c h) ∙ ap (λ (b : Bool). b && w == w && w == w) (le_true 1 w k) ∙ ap (λ (b : Bool). b && w == w) (eq_true w) ∙ eq_true w

pub choice_is : (env : List ℕ) (m : ℕ) (c p q : Expression) (w : ℕ) (s : Bool) (cc1 : List Call) (tc : List ℕ) (n1 : ℕ) (cp : List Call) (tp : List ℕ) (n2 : ℕ) (cq : List Call) (tq : List ℕ) (n3 : ℕ)
    → IsEnv env m → 1 ≤ w → 1 ≤ width c → w < 2 ^ 32 → width c < 2 ^ 32 → (is_constant c && is_constant p && is_constant q) ≡ false → n3 + w ≤ 2 ^ 32
    → IsValue env m c (width c) (sign c) cc1 tc n1
    → IsValue env n1 p w s cp tp n2
    → IsValue env n2 q w s cq tq n3
    → IsValue env m (Choice c p q) w s ((cc1 ++ (cp ++ cq)) ++ fresh_call (Select S.Choose) (tc ∷ tp ∷ tq ∷ []) n3 w ∷ []) (range_with_len n3 w) (n3 + w)
choice_is env m c p q w s cc1 tc n1 cp tp n2 cq tq n3 e some wide short shorter constant fits vc vp vq =
    let e1 : IsEnv env n1 = record { constants = omega (arith, e.constants, vc.values.added.grown); below = All-weaker (λ slot. slot < m) (λ slot. slot < n1) (λ slot l. omega (arith, vc.values.added.grown)) env e.below } in
    let x = λ (state : N.State). value c (width c) (sign c) state in
    let y = λ (state : N.State). value p w s state in
    let z = λ (state : N.State). value q w s state in
    let two = values_more env n1 cp (tp ∷ []) n2 (weight p w) (λ state. y state ∷ []) cq (tq ∷ []) n3 (weight q w) (λ state. z state ∷ []) e1 vp.values vq.values in
    let all = values_more env m cc1 (tc ∷ []) n1 (weight c (width c)) (λ state. x state ∷ []) (cp ++ cq) (tp ∷ tq ∷ []) n3 (weight p w + weight q w) (λ state. y state ∷ z state ∷ []) e vc.values two in
    let kernel = Select S.Choose in
    let call = fresh_call kernel (tc ∷ tp ∷ tq ∷ []) n3 w in
    let same : (width c ∷ w ∷ w ∷ w ∷ []) ≡ (length tc ∷ length tp ∷ length tq ∷ w ∷ []) =
    ap (λ (k : ℕ). k ∷ w ∷ w ∷ w ∷ []) (sym vc.length) ∙ ap (λ (k : ℕ). length tc ∷ k ∷ w ∷ w ∷ []) (sym vp.length) ∙ ap (λ (k : ℕ). length tc ∷ length tp ∷ k ∷ w ∷ []) (sym vq.length) in
    let shorts : All (λ k. k < 2 ^ 32) (width c ∷ w ∷ w ∷ w ∷ []) = All-cons (λ k. k < 2 ^ 32) (width c) (w ∷ w ∷ w ∷ []) shorter (All-cons (λ k. k < 2 ^ 32) w (w ∷ w ∷ []) short (All-cons (λ k. k < 2 ^ 32) w (w ∷ []) short (All-cons (λ k. k < 2 ^ 32) w [] short (All-nil (λ k. k < 2 ^ 32))))) in
    let is : IsCall call = is_fresh_call kernel (tc ∷ tp ∷ tq ∷ []) n3 w
    (subst (λ ls. takes kernel ls ≡ true) same (choice_takes (width c) w wide some))
    (subst (All (λ n. n < 2 ^ 32)) same shorts) (omega arith) (omega arith) all.below in
    let cost : call_cost call ≡ w = length-range_with_len n3 w in
    let done = values_call env m (cc1 ++ (cp ++ cq)) (tc ∷ tp ∷ tq ∷ []) n3 (weight c (width c) + (weight p w + weight q w)) (λ state. x state ∷ y state ∷ z state ∷ []) kernel w w all is (omega (arith, cost)) (omega (arith, cost)) in
    let weighs = ap (λ (k : Bool). (if k then 0 else (w + width c)) + weight c (width c) + weight p w + weight q w) constant in
    record {
      values = values_as env m ((cc1 ++ (cp ++ cq)) ++ call ∷ []) (range_with_len n3 w ∷ []) (n3 + w) (weight c (width c) + (weight p w + weight q w) + w) (λ state. operator_of kernel w (x state ∷ y state ∷ z state ∷ []) ∷ []) (range_with_len n3 w ∷ [])
          (weight (Choice c p q) w) (λ state. value (Choice c p q) w s state ∷ []) e done (omega (arith, weighs)) done.below (λ slots state constants h. h);
      length = length-range_with_len n3 w;
      constant = λ h. absurd (true≢false (sym h ∙ constant));
      sources = fresh_sources env m n3 w (read_bits (Choice c p q)) (omega (arith, vc.values.added.grown, vp.values.added.grown, vq.values.added.grown));
    }

-- with no call: all three are constants' slots
pub choice_without : (env : List ℕ) (m : ℕ) (c p q : Expression) (w : ℕ) (s : Bool) (cc1 : List Call) (tc : List ℕ) (n1 : ℕ) (cp : List Call) (tp : List ℕ) (n2 : ℕ) (cq : List Call) (tq : List ℕ) (n3 : ℕ)
    → IsEnv env m → AreConstant tc → AreConstant tp → AreConstant tq
    → IsValue env m c (width c) (sign c) cc1 tc n1
    → IsValue env n1 p w s cp tp n2
    → IsValue env n2 q w s cq tq n3
    → length (choose (truth (constant_bits tc)) (constant_bits tp) (constant_bits tq)) ≡ w
    → IsValue env m (Choice c p q) w s (cc1 ++ (cp ++ cq)) (constant_slots (choose (truth (constant_bits tc)) (constant_bits tp) (constant_bits tq))) n3
choice_without env m c p q w s cc1 tc n1 cp tp n2 cq tq n3 e kc kp kq vc vp vq long =
    let e1 : IsEnv env n1 = record { constants = omega (arith, e.constants, vc.values.added.grown); below = All-weaker (λ slot. slot < m) (λ slot. slot < n1) (λ slot l. omega (arith, vc.values.added.grown)) env e.below } in
    let x = λ (state : N.State). value c (width c) (sign c) state in
    let y = λ (state : N.State). value p w s state in
    let z = λ (state : N.State). value q w s state in
    let v = choose (truth (constant_bits tc)) (constant_bits tp) (constant_bits tq) in
    let two = values_more env n1 cp (tp ∷ []) n2 (weight p w) (λ state. y state ∷ []) cq (tq ∷ []) n3 (weight q w) (λ state. z state ∷ []) e1 vp.values vq.values in
    let all = values_more env m cc1 (tc ∷ []) n1 (weight c (width c)) (λ state. x state ∷ []) (cp ++ cq) (tp ∷ tq ∷ []) n3 (weight p w + weight q w) (λ state. y state ∷ z state ∷ []) e vc.values two in
    let least : 4 ≤ n3 = omega (arith, e.constants, vc.values.added.grown, vp.values.added.grown, vq.values.added.grown) in
    record {
      values = values_as env m (cc1 ++ (cp ++ cq)) (tc ∷ tp ∷ tq ∷ []) n3 (weight c (width c) + (weight p w + weight q w)) (λ state. x state ∷ y state ∷ z state ∷ []) (constant_slots v ∷ []) (weight (Choice c p q) w) (λ state. value (Choice c p q) w s state ∷ []) e all (omega arith)
          (one_more (λ to. All (λ slot. slot < n3) to) (constant_slots v) (All-weaker (λ slot. slot < 4) (λ slot. slot < n3) (λ slot l. omega arith) (constant_slots v) (all_constant v)))
          (λ slots state constants same.
          let h = three_lists (map slots tc) (map slots tp) (map slots tq) (x state) (y state) (z state) same in
          let a : constant_bits tc ≡ x state = sym (bits_are slots tc constants kc) ∙ h.0 in
          let b : constant_bits tp ≡ y state = sym (bits_are slots tp constants kp) ∙ h.1 in
          let d : constant_bits tq ≡ z state = sym (bits_are slots tq constants kq) ∙ h.2 in
          ap (λ (u : BitList). u ∷ []) (constants_are slots v constants ∙ ap (λ (u : BitList). choose (truth u) (constant_bits tp) (constant_bits tq)) a ∙ ap (λ (u : BitList). choose (truth (x state)) u (constant_bits tq)) b ∙ ap (λ (u : BitList). choose (truth (x state)) (y state) u) d));
      length = length-map v constant_slot ∙ long;
      constant = λ h. all_constant v;
      sources = All-weaker (λ slot. slot < 4) (IsSource env m (read_bits (Choice c p q))) (λ slot l. inl l) (constant_slots v) (all_constant v);
    }
