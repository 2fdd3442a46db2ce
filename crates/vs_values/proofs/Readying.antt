-- What the operands need, of what their operator needs.
use Rattle.std.proofs.Common.{◌≡◌, ℕ, ◌+◌, ◌*◌, ◌<◌, ◌≤◌, ◌^◌, Bool, true, false, not, ◌&&◌, ◌||◌, nat_le, List, [], ◌∷◌, ◌++◌, map, length, sym, ap, ◌∙◌, subst, refl, arith, true≢false, append_assoc, inl}
use Rattle.std.specs.List.{All, list_all, range_with_len}
use Rattle.std.proofs.lemmas.List.{length-map}
use Rattle.std.proofs.lemmas.List.Sums.{sum_by-append}
use Rattle.std.proofs.lemmas.List.Elements.{All-nil, All-cons, All-weaker, All-head}
use Rattle.vs_four.specs.Logic.{BitList}
use Rattle.vs_design.specs.Expressions.{signal_length, word_length, BinaryOp, Expression, Literal, Name, Select, Word, WordPart, Unary, Binary, Choice, Join, Repeat, At, Way, InContext, Own, Compared, Shifted, Raised, way, unary_length, UnaryOp, binary_length, width, sign, is_constant}
use Rattle.vs_design.specs.Expressions as E
use Rattle.vs_design.specs.Fits.{fits_64, fits_signal, fits, fit_items, fits_statement, is_division, divides_constants, is_fit, fits_word_part}
use Rattle.vs_design.specs.Sizes.{weight, is_shift}
use Rattle.vs_design.specs.Values.{left_width, right_width, left_sign, right_sign, apply_binary}
use Rattle.vs_design.specs.Footprints.{read_bits}
use Rattle.vs_design.specs.Within.{names_within}
use Rattle.vs_code.specs.Kernels.{takes, cost_of, room_of}
use Rattle.vs_code.specs.Calls.{Call, State, call_cost, length_of, lengths_of, IsCall}
use Rattle.vs_program.specs.Lowered.{HasConstants}
use Rattle.vs_values.specs.Added.{fresh_call}
use Rattle.vs_values.specs.Constants.{constant_slot, constant_slots, constant_bits, extended_slots, AreConstant}
use Rattle.vs_values.specs.Choices.{binary_kernel, binary_lengths, result_of_way}
use Rattle.vs_values.specs.Coded.{Coding, with_call}
use Rattle.vs_values.specs.Ready.{IsReady}
use Rattle.vs_values.specs.Valued.{IsSource, IsValue, AddsValue}
use Rattle.vs_values.proofs.Adding.{env_more, is_fresh_call}
use Rattle.vs_values.proofs.Operators.{scratch_is, binary_takes, binary_cost, binary_room}
use Rattle.std.proofs.lemmas.List.FromFn.{length-range_with_len}
use Rattle.vs_values.proofs.Moved.{constants_are, all_constant}
use Rattle.vs_values.proofs.Folding.{bits_are}
use Rattle.vs_values.proofs.Values.{both_true, binary_is, weight_of_binary}
use Rattle.vs_values.proofs.Parts.{binary_without}

-- ---- lengths of what fits

le_is : (a b : ℕ) → nat_le a b ≡ true → a ≤ b
le_is a b h = grind arith

pub fits_64_is : (n : ℕ) → fits_64 n ≡ true → (1 ≤ n) × (n ≤ 64)
fits_64_is n h = let p = both_true (nat_le 1 n) (nat_le n 64) h in (le_is 1 n p.0, le_is n 64 p.1)

pub unary_long : (op : UnaryOp) (n : ℕ) → (1 ≤ n) × (n ≤ 64) → (1 ≤ unary_length op n) × (unary_length op n ≤ 64)
unary_long op n h = (grind arith, grind arith)

binary_long : (y : Way) (m n : ℕ) → (1 ≤ m) × (m ≤ 64) → (1 ≤ n) × (n ≤ 64) → (1 ≤ binary_length y m n) × (binary_length y m n ≤ 64)
binary_long InContext m n h k = (omega arith, omega arith)
binary_long Own m n h k = (omega arith, omega arith)
binary_long Compared m n h k = (omega arith, omega arith)
binary_long Shifted m n h k = (omega arith, omega arith)
binary_long Raised m n h k = (omega arith, omega arith)

-- an expression that fits has 1 to 64 bits
pub fits_length : (e : Expression) → fits e ≡ true → (1 ≤ width e) × (width e ≤ 64)
fits_length (Literal bits signed sized) h = fits_64_is (length bits) h
fits_length (Name signal) h = fits_64_is _ h
fits_length (Select source part index) h = fits_64_is part.width (both_true (fits_64 part.width) _ (both_true _ (fits index) h).0).0
fits_length (Unary op a) h = unary_long op (width a) (fits_length a h)
fits_length (Binary op a b) h = let p = both_true (fits a) (fits b) h in binary_long (way op) (width a) (width b) (fits_length a p.0) (fits_length b p.1)
fits_length (Choice c p q) h =
    let x = both_true (fits c && fits p) (fits q) h in
    let y = both_true (fits c) (fits p) x.0 in
    let l = fits_length p y.1 in
    let m = fits_length q x.1 in
    (omega arith, omega arith)
fits_length (Join high low) h = fits_64_is (width high + width low) (both_true _ _ (both_true _ (fits low) h).0).0
fits_length (Repeat count a) h = fits_64_is (count * width a) (both_true _ (fits a) h).0
fits_length (Word signal index) h = fits_64_is _ (both_true (fits_64 (word_length signal)) (fits index) h).0
fits_length (WordPart signal address part index) h =
    fits_64_is part.width (both_true (fits_64 part.width) _ (both_true (fits_word_part signal part) (fits address) (both_true _ (fits index) h).0).0).0
fits_length (At place e) h = fits_length e h
fits_length (E.Call header statement arguments) h =
    let p = both_true (fits_64 (signal_length header.result) && list_all fits_signal header.inputs && fit_items arguments) (fits_statement statement) h in
    let q = both_true (fits_64 (signal_length header.result) && list_all fits_signal header.inputs) (fit_items arguments) p.0 in
    fits_64_is _ (both_true (fits_64 (signal_length header.result)) (list_all fits_signal header.inputs) q.0).0

-- ---- the operands of two

pub record IsFitBinary (op : BinaryOp) (a b : Expression) : Type 0 where
  pub left_fit : is_fit a ≡ true
  pub right_fit : is_fit b ≡ true
  pub left_long : (1 ≤ width a) × (width a ≤ 64)
  pub right_long : (1 ≤ width b) × (width b ≤ 64)
  pub division : is_division op ≡ true → (is_constant a && is_constant b) ≡ true

both : (a b : Bool) → a ≡ true → b ≡ true → (a && b) ≡ true
both true b h k = k
both false b h k = cc

not_or : (a b : Bool) → (not a || b) ≡ true → a ≡ true → b ≡ true
not_or true b h k = h
not_or false b h k = absurd (true≢false (sym k))

pub fit_binary : (op : BinaryOp) (a b : Expression) → is_fit (Binary op a b) ≡ true → IsFitBinary op a b
fit_binary op a b h =
    let p = both_true (fits (Binary op a b)) (divides_constants (Binary op a b)) h in
    let f = both_true (fits a) (fits b) p.0 in
    let d = both_true ((not (is_division op) || (is_constant a && is_constant b)) && divides_constants a) (divides_constants b) p.1 in
    let d2 = both_true (not (is_division op) || (is_constant a && is_constant b)) (divides_constants a) d.0 in
    record {
      left_fit = both (fits a) (divides_constants a) f.0 d2.1;
      right_fit = both (fits b) (divides_constants b) f.1 d.1;
      left_long = fits_length a f.0;
      right_long = fits_length b f.1;
      division = not_or (is_division op) (is_constant a && is_constant b) d2.0;
    }

pub left_within : (y : Way) (w m n : ℕ) → binary_length y m n ≤ w → w ≤ 64 → m ≤ 64 → n ≤ 64 → (m ≤ left_width y w m n) × (left_width y w m n ≤ 64)
left_within InContext w m n h i j k = (omega arith, omega arith)
left_within Own w m n h i j k = (omega arith, omega arith)
left_within Compared w m n h i j k = (omega arith, omega arith)
left_within Shifted w m n h i j k = (omega arith, omega arith)
left_within Raised w m n h i j k = (omega arith, omega arith)

pub right_within : (y : Way) (w m n : ℕ) → binary_length y m n ≤ w → w ≤ 64 → m ≤ 64 → n ≤ 64 → (n ≤ right_width y w m n) × (right_width y w m n ≤ 64)
right_within InContext w m n h i j k = (omega arith, omega arith)
right_within Own w m n h i j k = (omega arith, omega arith)
right_within Compared w m n h i j k = (omega arith, omega arith)
right_within Shifted w m n h i j k = (omega arith, omega arith)
right_within Raised w m n h i j k = (omega arith, omega arith)

operands_weigh : (op : BinaryOp) (a b : Expression) (w : ℕ) → weight a (left_width (way op) w (width a) (width b)) + weight b (right_width (way op) w (width a) (width b)) ≤ weight (Binary op a b) w
operands_weigh op a b w = omega arith

pub ready_left : (env : List ℕ) (code : Coding) (op : BinaryOp) (a b : Expression) (w : ℕ) → IsReady env code (Binary op a b) w → IsReady env code a (left_width (way op) w (width a) (width b))
ready_left env code op a b w r =
    let f = fit_binary op a b r.fit in
    let l = left_within (way op) w (width a) (width b) r.wide r.at_most_64 f.left_long.1 f.right_long.1 in
    record {
      is_env = r.is_env;
      has_bits = (both_true (names_within (length env) a) (names_within (length env) b) r.has_bits).0;
      fit = f.left_fit;
      wide = l.0;
      at_most_64 = l.1;
      light = omega (arith, r.light, operands_weigh op a b w);
      slots = omega (arith, r.slots, operands_weigh op a b w);
      few = omega (arith, r.few, operands_weigh op a b w);
    }

-- what was added
pub stores_of : (old c new : List Call) → new ≡ old ++ c → length_of new ≡ length_of old + length_of c
stores_of old c new e = ap length_of e ∙ sum_by-append call_cost old c

pub ready_right : (env : List ℕ) (code code1 : Coding) (op : BinaryOp) (a b : Expression) (w : ℕ) (s : Bool) (ta : List ℕ) → IsReady env code (Binary op a b) w
    → AddsValue env code.calls code.next code1.calls code1.next a (left_width (way op) w (width a) (width b)) s ta
    → IsReady env code1 b (right_width (way op) w (width a) (width b))
ready_right env code code1 op a b w s ta r va =
    let f = fit_binary op a b r.fit in
    let l = right_within (way op) w (width a) (width b) r.wide r.at_most_64 f.left_long.1 f.right_long.1 in
    let added = va.value.values.added in
    record {
      is_env = env_more env code.next code1.next added.grown r.is_env;
      has_bits = (both_true (names_within (length env) a) (names_within (length env) b) r.has_bits).1;
      fit = f.right_fit;
      wide = l.0;
      at_most_64 = l.1;
      light = omega (arith, r.light, operands_weigh op a b w);
      slots = omega (arith, r.slots, operands_weigh op a b w, added.paid, added.stores);
      few = omega (arith, r.few, operands_weigh op a b w, added.stores, stores_of code.calls va.calls code1.calls va.is);
    }

-- ---- what an operator of two operands adds

pub two_added : (old c d one two : List Call) → one ≡ old ++ c → two ≡ one ++ d → two ≡ old ++ (c ++ d)
two_added old c d one two e f = f ∙ ap (λ (x : List Call). x ++ d) e ∙ append_assoc old c d

three_added : (old c d one two three : List Call) (call : Call) → one ≡ old ++ c → two ≡ one ++ d → three ≡ two ++ call ∷ [] → three ≡ old ++ ((c ++ d) ++ call ∷ [])
three_added old c d one two three call e f g = g ∙ ap (λ (x : List Call). x ++ call ∷ []) (two_added old c d one two e f) ∙ append_assoc old (c ++ d) (call ∷ [])

not_both : (a b : Bool) → (a ≡ true → b ≡ true → ⊥) → (a && b) ≡ false
not_both true true f = absurd (f refl refl)
not_both true false f = refl
not_both false b f = refl

short_lengths : (op : BinaryOp) (w m n : ℕ) → w ≤ 64 → left_width (way op) w m n ≤ 64 → right_width (way op) w m n ≤ 64 → 1 ≤ w → All (λ k. k < 2 ^ 32) (binary_lengths op w m n)
short_lengths op w m n h i j some =
    All-cons (λ k. k < 2 ^ 32) (left_width (way op) w m n) (right_width (way op) w m n ∷ result_of_way (way op) w ∷ []) (omega arith) (All-cons (λ k. k < 2 ^ 32) (right_width (way op) w m n) (result_of_way (way op) w ∷ []) (omega arith) (All-cons (λ k. k < 2 ^ 32) (result_of_way (way op) w) [] (result_short (way op) w h some) (All-nil (λ k. k < 2 ^ 32))))
  where
    result_short : (y : Way) (w : ℕ) → w ≤ 64 → 1 ≤ w → result_of_way y w < 2 ^ 32
    result_short InContext w h i = omega arith
    result_short Own w h i = omega arith
    result_short Compared w h i = omega arith
    result_short Shifted w h i = omega arith
    result_short Raised w h i = omega arith

pub some_width : (op : BinaryOp) (a b : Expression) (w : ℕ) → IsFitBinary op a b → width (Binary op a b) ≤ w → 1 ≤ w
some_width op a b w f h = let l = binary_long (way op) (width a) (width b) f.left_long f.right_long in omega (arith, l.0)

no_division : (d c : Bool) → (d ≡ true → c ≡ true) → c ≡ false → d ≡ false
no_division true c f h = absurd (true≢false (sym (f refl) ∙ h))
no_division false c f h = refl

-- what the kernel's call needs
pub record CanCall (code2 : Coding) (op : BinaryOp) (w : ℕ) (s : Bool) (ta tb : List ℕ) : Type 0 where
  pub is : IsCall (fresh_call (binary_kernel op s) (ta ∷ tb ∷ []) code2.next (result_of_way (way op) w))
  pub slots : code2.next + result_of_way (way op) w ≤ 2 ^ 32
  pub room : code2.next + result_of_way (way op) w < 2 ^ 32
  pub few : length_of code2.calls + call_cost (fresh_call (binary_kernel op s) (ta ∷ tb ∷ []) code2.next (result_of_way (way op) w)) ≤ 2 ^ 32

pub called_fits : (env : List ℕ) (code code1 code2 : Coding) (op : BinaryOp) (a b : Expression) (w : ℕ) (s : Bool) (ta tb : List ℕ)
    → IsReady env code (Binary op a b) w
    → AddsValue env code.calls code.next code1.calls code1.next a (left_width (way op) w (width a) (width b)) (left_sign (way op) s (sign a) (sign b)) ta
    → AddsValue env code1.calls code1.next code2.calls code2.next b (right_width (way op) w (width a) (width b)) (right_sign (way op) s (sign a) (sign b)) tb
    → (AreConstant ta → AreConstant tb → ⊥) → (is_shift (way op) ≡ true → AreConstant tb → ⊥)
    → CanCall code2 op w (left_sign (way op) s (sign a) (sign b)) ta tb
called_fits env code code1 code2 op a b w s ta tb r va vb not_constants not_shift =
    let f = fit_binary op a b r.fit in
    let some = some_width op a b w f r.wide in
    let l = left_within (way op) w (width a) (width b) r.wide r.at_most_64 f.left_long.1 f.right_long.1 in
    let q = right_within (way op) w (width a) (width b) r.wide r.at_most_64 f.left_long.1 f.right_long.1 in
    let ls = left_sign (way op) s (sign a) (sign b) in
    let lw = left_width (way op) w (width a) (width b) in
    let rw = right_width (way op) w (width a) (width b) in
    let k = result_of_way (way op) w in
    let kernel = binary_kernel op ls in
    let both = not_both (is_constant a) (is_constant b) (λ h i. not_constants (va.value.constant h) (vb.value.constant i)) in
    let shifted = not_both (is_shift (way op)) (is_constant b) (λ h i. not_shift h (vb.value.constant i)) in
    let not_division : is_division op ≡ false = no_division (is_division op) (is_constant a && is_constant b) f.division both in
    let same : binary_lengths op w (width a) (width b) ≡ (length ta ∷ length tb ∷ k ∷ []) = ap (λ (x : ℕ). x ∷ rw ∷ k ∷ []) (sym va.value.length) ∙ ap (λ (x : ℕ). length ta ∷ x ∷ k ∷ []) (sym vb.value.length) in
    let call = fresh_call kernel (ta ∷ tb ∷ []) code2.next k in
    let lengths : lengths_of call ≡ binary_lengths op w (width a) (width b) = ap (λ (x : ℕ). length ta ∷ length tb ∷ x ∷ []) (length-range_with_len code2.next k) ∙ sym same in
    let cost : call_cost call ≡ cost_of kernel (binary_lengths op w (width a) (width b)) = ap (cost_of kernel) lengths in
    let kept = scratch_is op ls w (width a) (width b) in
    let paid = binary_room op ls w (width a) (width b) not_division some in
    let weighs = binary_cost op ls w (width a) (width b) not_division some f.left_long.0 f.right_long.0 in
    let total = weight_of_binary op a b w both shifted in
    let added_a = va.value.values.added in
    let added_b = vb.value.values.added in
    let P : List ℕ → Type 0 = λ to. All (λ slot. slot < code2.next) to in
    let stored_a = stores_of code.calls va.calls code1.calls va.is in
    let stored_b = stores_of code1.calls vb.calls code2.calls vb.is in
    let here : code2.next + k < 2 ^ 32 = omega (arith, r.slots, total, weighs, paid, kept, added_a.paid, added_a.stores, added_b.paid, added_b.stores) in
    record {
      is = is_fresh_call kernel (ta ∷ tb ∷ []) code2.next k
          (subst (λ ls. takes kernel ls ≡ true) same (binary_takes op ls w (width a) (width b) not_division some f.left_long.0 f.right_long.0))
          (subst (All (λ n. n < 2 ^ 32)) same (short_lengths op w (width a) (width b) r.at_most_64 l.1 q.1 some))
          (subst (λ xs. room_of kernel xs ≤ 0) same (omega (arith, kept)))
          (omega (arith, here))
          (All-cons P ta (tb ∷ []) (All-weaker (λ slot. slot < code1.next) (λ slot. slot < code2.next) (λ slot h. omega (arith, added_b.grown)) ta (All-head (λ to. All (λ slot. slot < code1.next) to) ta [] va.value.values.below)) vb.value.values.below);
      slots = omega (arith, here);
      room = here;
      few = omega (arith, r.few, total, weighs, cost, added_a.stores, added_b.stores, stored_a, stored_b);
    }

-- by its kernel, where the operands aren't both constants' slots, nor is it a shift by constants' slots
pub adds_called : (env : List ℕ) (code code1 code2 code3 : Coding) (op : BinaryOp) (a b : Expression) (w : ℕ) (s : Bool) (ta tb to : List ℕ)
    → IsReady env code (Binary op a b) w
    → AddsValue env code.calls code.next code1.calls code1.next a (left_width (way op) w (width a) (width b)) (left_sign (way op) s (sign a) (sign b)) ta
    → AddsValue env code1.calls code1.next code2.calls code2.next b (right_width (way op) w (width a) (width b)) (right_sign (way op) s (sign a) (sign b)) tb
    → (AreConstant ta → AreConstant tb → ⊥) → (is_shift (way op) ≡ true → AreConstant tb → ⊥)
    → code3 ≡ with_call code2 (binary_kernel op (left_sign (way op) s (sign a) (sign b))) (ta ∷ tb ∷ []) (result_of_way (way op) w)
    → to ≡ extended_slots w s (range_with_len code2.next (result_of_way (way op) w))
    → AddsValue env code.calls code.next code3.calls code3.next (Binary op a b) w s to
adds_called env code code1 code2 code3 op a b w s ta tb to r va vb not_constants not_shift is to_is =
    let kept = scratch_is op (left_sign (way op) s (sign a) (sign b)) w (width a) (width b) in
    let f = fit_binary op a b r.fit in
    let some = some_width op a b w f r.wide in
    let l = left_within (way op) w (width a) (width b) r.wide r.at_most_64 f.left_long.1 f.right_long.1 in
    let q = right_within (way op) w (width a) (width b) r.wide r.at_most_64 f.left_long.1 f.right_long.1 in
    let ls = left_sign (way op) s (sign a) (sign b) in
    let call = fresh_call (binary_kernel op ls) (ta ∷ tb ∷ []) code2.next (result_of_way (way op) w) in
    let not_division : is_division op ≡ false = no_division (is_division op) (is_constant a && is_constant b) f.division (not_both (is_constant a) (is_constant b) (λ h k. not_constants (va.value.constant h) (vb.value.constant k))) in
    let fits = called_fits env code code1 code2 op a b w s ta tb r va vb not_constants not_shift in
    let value = binary_is env code.next op a b w s va.calls ta code1.next vb.calls tb code2.next r.is_env not_division some f.left_long.0 f.right_long.0
    (not_both (is_constant a) (is_constant b) (λ h k. not_constants (va.value.constant h) (vb.value.constant k)))
    (not_both (is_shift (way op)) (is_constant b) (λ h k. not_shift h (vb.value.constant k)))
    va.value vb.value kept (short_lengths op w (width a) (width b) r.at_most_64 l.1 q.1 some) fits.slots in
    let calls3 : code3.calls ≡ code.calls ++ ((va.calls ++ vb.calls) ++ call ∷ []) = three_added code.calls va.calls vb.calls code1.calls code2.calls code3.calls call va.is vb.is (ap (λ (x : Coding). x.calls) is) in
    let next3 : code2.next + result_of_way (way op) w ≡ code3.next = sym (ap (λ (x : Coding). x.next) is) in
    record {
      calls = (va.calls ++ vb.calls) ++ call ∷ [];
      is = calls3;
      value = subst (λ n. IsValue env code.next (Binary op a b) w s ((va.calls ++ vb.calls) ++ call ∷ []) to n) next3
          (subst (λ t. IsValue env code.next (Binary op a b) w s ((va.calls ++ vb.calls) ++ call ∷ []) t (code2.next + result_of_way (way op) w)) (sym to_is) value);
    }

-- with no call: `r` are the slots of the operator's value, of constants or moved
pub adds_moved : (env : List ℕ) (code code1 code2 : Coding) (op : BinaryOp) (a b : Expression) (w : ℕ) (s : Bool) (ta tb r to : List ℕ)
    → IsReady env code (Binary op a b) w
    → AddsValue env code.calls code.next code1.calls code1.next a (left_width (way op) w (width a) (width b)) (left_sign (way op) s (sign a) (sign b)) ta
    → AddsValue env code1.calls code1.next code2.calls code2.next b (right_width (way op) w (width a) (width b)) (right_sign (way op) s (sign a) (sign b)) tb
    → length r ≤ w
    → ((slots : State) → HasConstants slots → map slots r ≡ apply_binary op (left_sign (way op) s (sign a) (sign b)) (right_sign (way op) s (sign a) (sign b)) (map slots ta) (map slots tb))
    → All (λ slot. slot < code2.next) r → ((is_constant a && is_constant b) ≡ true → AreConstant r) → All (IsSource env code.next (read_bits a ++ read_bits b)) r
    → to ≡ extended_slots w s r
    → AddsValue env code.calls code.next code2.calls code2.next (Binary op a b) w s to
adds_moved env code code1 code2 op a b w s ta tb r to ready va vb long is below constant sources to_is =
    record {
      calls = va.calls ++ vb.calls;
      is = two_added code.calls va.calls vb.calls code1.calls code2.calls va.is vb.is;
      value = subst (λ t. IsValue env code.next (Binary op a b) w s (va.calls ++ vb.calls) t code2.next) (sym to_is)
          (binary_without env code.next op a b w s va.calls ta code1.next vb.calls tb code2.next r ready.is_env long va.value vb.value is below constant sources);
    }

-- both constants
pub adds_folded : (env : List ℕ) (code code1 code2 : Coding) (op : BinaryOp) (a b : Expression) (w : ℕ) (s : Bool) (ta tb to : List ℕ)
    → IsReady env code (Binary op a b) w
    → AddsValue env code.calls code.next code1.calls code1.next a (left_width (way op) w (width a) (width b)) (left_sign (way op) s (sign a) (sign b)) ta
    → AddsValue env code1.calls code1.next code2.calls code2.next b (right_width (way op) w (width a) (width b)) (right_sign (way op) s (sign a) (sign b)) tb
    → AreConstant ta → AreConstant tb
    → length (apply_binary op (left_sign (way op) s (sign a) (sign b)) (right_sign (way op) s (sign a) (sign b)) (constant_bits ta) (constant_bits tb)) ≤ w
    → to ≡ extended_slots w s (constant_slots (apply_binary op (left_sign (way op) s (sign a) (sign b)) (right_sign (way op) s (sign a) (sign b)) (constant_bits ta) (constant_bits tb)))
    → AddsValue env code.calls code.next code2.calls code2.next (Binary op a b) w s to
adds_folded env code code1 code2 op a b w s ta tb to ready va vb ca cb long to_is =
    let ls = left_sign (way op) s (sign a) (sign b) in
    let rs = right_sign (way op) s (sign a) (sign b) in
    let v = apply_binary op ls rs (constant_bits ta) (constant_bits tb) in
    let r = constant_slots v in
    let least : 4 ≤ code2.next = omega (arith, ready.is_env.constants, va.value.values.added.grown, vb.value.values.added.grown) in
    adds_moved env code code1 code2 op a b w s ta tb r to ready va vb (omega (arith, length-map v constant_slot, long))
    (λ slots h. constants_are slots v h ∙ ap (λ (x : BitList). apply_binary op ls rs x (constant_bits tb)) (sym (bits_are slots ta h ca)) ∙ ap (apply_binary op ls rs (map slots ta)) (sym (bits_are slots tb h cb)))
    (All-weaker (λ slot. slot < 4) (λ slot. slot < code2.next) (λ slot l. omega arith) r (all_constant v))
    (λ h. all_constant v)
    (All-weaker (λ slot. slot < 4) (IsSource env code.next (read_bits a ++ read_bits b)) (λ slot l. inl l) r (all_constant v))
    to_is
