-- `c ? p : q` whose parts were lowered.
use Rattle.std.proofs.Common.{◌≡◌, ℕ, ◌+◌, ◌<◌, ◌≤◌, ◌^◌, Bool, true, false, ◌&&◌, if◌then◌else◌, List, [], ◌∷◌, ◌++◌, length, sym, ap, ◌∙◌, subst, refl, arith, inl, inr}
use Rattle.std.specs.List.{All}
use Rattle.std.proofs.lemmas.List.{length-map}
use Rattle.std.proofs.lemmas.List.FromFn.{length-range_with_len}
use Rattle.std.proofs.lemmas.List.Elements.{All-nil, All-cons, All-weaker, All-head}
use Rattle.vs_four.specs.Logic.{BitList, truth, choose}
use Rattle.vs_four.specs.declared.Bit4.TheVariants.{X}
use Rattle.vs_net.specs.Network as N
use Rattle.vs_design.specs.Expressions.{Expression, Literal, Choice, width, sign, is_constant}
use Rattle.vs_design.specs.Sizes.{weight}
use Rattle.vs_design.specs.Fits.{fits, divides_constants, is_fit}
use Rattle.vs_design.specs.Values.{value}
use Rattle.vs_design.specs.TreeLaws.{ValueLength}
use Rattle.vs_design.specs.Within.{names_within}
use Rattle.vs_kern_select.specs.declared.costs.Kernel.TheVariants as S
use Rattle.vs_code.specs.declared.kernels.AnyKernel.TheVariants.{Select}
use Rattle.vs_code.specs.Kernels.{takes}
use Rattle.vs_code.specs.Calls.{Call, call_cost}
use Rattle.vs_values.specs.Added.{fresh_call}
use Rattle.vs_values.specs.Constants.{constant_bit, constant_bits}
use Rattle.vs_values.specs.Coded.{Coding}
use Rattle.vs_values.specs.Made.{IsCallable, AllConstant, IsChoice}
use Rattle.vs_values.specs.Ready.{IsReady}
use Rattle.vs_values.specs.Valued.{IsValue, AddsValue}
use Rattle.vs_values.proofs.Adding.{env_more, is_fresh_call}
use Rattle.vs_values.proofs.Values.{both_true}
use Rattle.vs_values.proofs.Parts.{choice_takes, choice_is, choice_without}
use Rattle.vs_values.proofs.Binary.{same_length}
use Rattle.vs_values.proofs.Readying.{fits_length, stores_of, two_added}

record IsFitChoice (c p q : Expression) (w : ℕ) : Type 0 where
  pub fit_c : is_fit c ≡ true
  pub fit_p : is_fit p ≡ true
  pub fit_q : is_fit q ≡ true
  pub long : (1 ≤ width c) × (width c ≤ 64)
  pub wide_p : width p ≤ w
  pub wide_q : width q ≤ w
  pub some : 1 ≤ w

both : (a b : Bool) → a ≡ true → b ≡ true → (a && b) ≡ true
both true b h k = k
both false b h k = cc

fit_choice : (c p q : Expression) (w : ℕ) → is_fit (Choice c p q) ≡ true → width (Choice c p q) ≤ w → IsFitChoice c p q w
fit_choice c p q w h wide =
    let x = both_true (fits (Choice c p q)) (divides_constants (Choice c p q)) h in
    let f = both_true (fits c && fits p) (fits q) x.0 in
    let g = both_true (fits c) (fits p) f.0 in
    let d = both_true (divides_constants c && divides_constants p) (divides_constants q) x.1 in
    let e = both_true (divides_constants c) (divides_constants p) d.0 in
    let l = fits_length p g.1 in
    record {
      fit_c = both (fits c) (divides_constants c) g.0 e.0;
      fit_p = both (fits p) (divides_constants p) g.1 e.1;
      fit_q = both (fits q) (divides_constants q) f.1 d.1;
      long = fits_length c g.0;
      wide_p = omega arith;
      wide_q = omega arith;
      some = omega (arith, l.0, wide);
    }

parts_weigh : (c p q : Expression) (w : ℕ) → weight c (width c) + weight p w + weight q w ≤ weight (Choice c p q) w
parts_weigh c p q w = omega arith

pub ready_condition : (env : List ℕ) (code : Coding) (c p q : Expression) (w k : ℕ) → k ≡ width c → IsReady env code (Choice c p q) w → IsReady env code c k
ready_condition env code c p q w k h r =
    let f = fit_choice c p q w r.fit r.wide in
    let weighs = parts_weigh c p q w in
    subst (IsReady env code c) (sym h) (record {
      is_env = r.is_env;
      has_bits = (both_true (names_within (length env) c) (names_within (length env) p) (both_true (names_within (length env) c && names_within (length env) p) (names_within (length env) q) r.has_bits).0).0;
      fit = f.fit_c;
      wide = omega arith;
      at_most_64 = f.long.1;
      light = omega (arith, r.light, weighs);
      slots = omega (arith, r.slots, weighs);
      few = omega (arith, r.few, weighs);
    })

pub own_value_of : (env : List ℕ) (code code1 : Coding) (c : Expression) (k : ℕ) (t : Bool) (tc : List ℕ) → k ≡ width c → t ≡ sign c
    → AddsValue env code.calls code.next code1.calls code1.next c k t tc → AddsValue env code.calls code.next code1.calls code1.next c (width c) (sign c) tc
own_value_of env code code1 c k t tc h i v =
    subst (λ (x : ℕ). AddsValue env code.calls code.next code1.calls code1.next c x (sign c) tc) h (subst (λ (x : Bool). AddsValue env code.calls code.next code1.calls code1.next c k x tc) i v)

pub ready_first : (env : List ℕ) (code code1 : Coding) (c p q : Expression) (w : ℕ) (tc : List ℕ) → IsReady env code (Choice c p q) w
    → AddsValue env code.calls code.next code1.calls code1.next c (width c) (sign c) tc → IsReady env code1 p w
ready_first env code code1 c p q w tc r v =
    let f = fit_choice c p q w r.fit r.wide in
    let weighs = parts_weigh c p q w in
    let added = v.value.values.added in
    record {
      is_env = env_more env code.next code1.next added.grown r.is_env;
      has_bits = (both_true (names_within (length env) c) (names_within (length env) p) (both_true (names_within (length env) c && names_within (length env) p) (names_within (length env) q) r.has_bits).0).1;
      fit = f.fit_p;
      wide = f.wide_p;
      at_most_64 = r.at_most_64;
      light = omega (arith, r.light, weighs);
      slots = omega (arith, r.slots, weighs, added.paid, added.stores);
      few = omega (arith, r.few, weighs, added.stores, stores_of code.calls v.calls code1.calls v.is);
    }

pub ready_second : (env : List ℕ) (code code1 code2 : Coding) (c p q : Expression) (w : ℕ) (s : Bool) (tc tp : List ℕ) → IsReady env code (Choice c p q) w
    → AddsValue env code.calls code.next code1.calls code1.next c (width c) (sign c) tc → AddsValue env code1.calls code1.next code2.calls code2.next p w s tp → IsReady env code2 q w
ready_second env code code1 code2 c p q w s tc tp r v u =
    let f = fit_choice c p q w r.fit r.wide in
    let weighs = parts_weigh c p q w in
    let added = v.value.values.added in
    let more = u.value.values.added in
    record {
      is_env = env_more env code.next code2.next (omega (arith, added.grown, more.grown)) r.is_env;
      has_bits = (both_true (names_within (length env) c && names_within (length env) p) (names_within (length env) q) r.has_bits).1;
      fit = f.fit_q;
      wide = f.wide_q;
      at_most_64 = r.at_most_64;
      light = omega (arith, r.light, weighs);
      slots = omega (arith, r.slots, weighs, added.paid, added.stores, more.paid, more.stores);
      few = omega (arith, r.few, weighs, added.stores, more.stores, stores_of code.calls v.calls code1.calls v.is, stores_of code1.calls u.calls code2.calls u.is);
    }

-- what the code knows of its parts
pub record Parts (env : List ℕ) (code code1 code2 code3 : Coding) (c p q : Expression) (w : ℕ) (s : Bool) (tc tp tq : List ℕ) : Type 0 where
  pub ready : IsReady env code (Choice c p q) w
  pub condition : AddsValue env code.calls code.next code1.calls code1.next c (width c) (sign c) tc
  pub first : AddsValue env code1.calls code1.next code2.calls code2.next p w s tp
  pub second : AddsValue env code2.calls code2.next code3.calls code3.next q w s tq

pub record AreLong (tc tp tq : List ℕ) : Type 0 where
  pub some_c : 1 ≤ length tc
  pub most_c : length tc ≤ 64
  pub some : 1 ≤ length tp
  pub most : length tp ≤ 64
  pub alike : length tp ≡ length tq

pub parts_long : (env : List ℕ) (code code1 code2 code3 : Coding) (c p q : Expression) (w : ℕ) (s : Bool) (tc tp tq : List ℕ) → Parts env code code1 code2 code3 c p q w s tc tp tq → AreLong tc tp tq
parts_long env code code1 code2 code3 c p q w s tc tp tq o =
    let f = fit_choice c p q w o.ready.fit o.ready.wide in
    record {
      some_c = omega (arith, f.long.0, o.condition.value.length);
      most_c = omega (arith, f.long.1, o.condition.value.length);
      some = omega (arith, f.some, o.first.value.length);
      most = omega (arith, o.ready.at_most_64, o.first.value.length);
      alike = o.first.value.length ∙ sym o.second.value.length;
    }

not_all : (a b c : Bool) → (a ≡ true → b ≡ true → c ≡ true → ⊥) → (a && b && c) ≡ false
not_all true true true f = absurd (f refl refl refl)
not_all true true false f = refl
not_all true false c f = refl
not_all false b c f = refl

pub callable_choice : (env : List ℕ) (code code1 code2 code3 : Coding) (c p q : Expression) (w : ℕ) (s : Bool) (tc tp tq : List ℕ) → Parts env code code1 code2 code3 c p q w s tc tp tq
    → (AllConstant tc tp tq → ⊥) → IsCallable code3 (Select S.Choose) (tc ∷ tp ∷ tq ∷ []) w
callable_choice env code code1 code2 code3 c p q w s tc tp tq o variable =
    let r = o.ready in
    let f = fit_choice c p q w r.fit r.wide in
    let vc = o.condition.value in
    let vp = o.first.value in
    let vq = o.second.value in
    let constant = not_all (is_constant c) (is_constant p) (is_constant q) (λ h i k. variable (vc.constant h, (vp.constant i, vq.constant k))) in
    let kernel = Select S.Choose in
    let call = fresh_call kernel (tc ∷ tp ∷ tq ∷ []) code3.next w in
    let same : (width c ∷ w ∷ w ∷ w ∷ []) ≡ (length tc ∷ length tp ∷ length tq ∷ w ∷ []) =
    ap (λ (k : ℕ). k ∷ w ∷ w ∷ w ∷ []) (sym vc.length) ∙ ap (λ (k : ℕ). length tc ∷ k ∷ w ∷ w ∷ []) (sym vp.length) ∙ ap (λ (k : ℕ). length tc ∷ length tp ∷ k ∷ w ∷ []) (sym vq.length) in
    let short : w < 2 ^ 32 = omega (arith, r.at_most_64) in
    let shorts : All (λ k. k < 2 ^ 32) (width c ∷ w ∷ w ∷ w ∷ []) = All-cons (λ k. k < 2 ^ 32) (width c) (w ∷ w ∷ w ∷ []) (omega (arith, f.long.1)) (All-cons (λ k. k < 2 ^ 32) w (w ∷ w ∷ []) short (All-cons (λ k. k < 2 ^ 32) w (w ∷ []) short (All-cons (λ k. k < 2 ^ 32) w [] short (All-nil (λ k. k < 2 ^ 32))))) in
    let cost : call_cost call ≡ w = length-range_with_len code3.next w in
    let weighs = ap (λ (k : Bool). (if k then 0 else (w + width c)) + weight c (width c) + weight p w + weight q w) constant in
    let below : List ℕ → Type 0 = λ to. All (λ slot. slot < code3.next) to in
    let stored_c = stores_of code.calls o.condition.calls code1.calls o.condition.is in
    let stored_p = stores_of code1.calls o.first.calls code2.calls o.first.is in
    let stored_q = stores_of code2.calls o.second.calls code3.calls o.second.is in
    let ac = vc.values.added in
    let ap1 = vp.values.added in
    let aq = vq.values.added in
    let total : weight c (width c) + weight p w + weight q w + w ≤ weight (Choice c p q) w = omega (arith, weighs) in
    let here : code3.next + w < 2 ^ 32 = omega (arith, r.slots, total, ac.paid, ac.stores, ap1.paid, ap1.stores, aq.paid, aq.stores) in
    record {
      is = is_fresh_call kernel (tc ∷ tp ∷ tq ∷ []) code3.next w
          (subst (λ ls. takes kernel ls ≡ true) same (choice_takes (width c) w f.long.0 f.some))
          (subst (All (λ n. n < 2 ^ 32)) same shorts) (omega arith) (omega (arith, here))
          (All-cons below tc (tp ∷ tq ∷ []) (All-weaker (λ slot. slot < code1.next) (λ slot. slot < code3.next) (λ slot l. omega (arith, ap1.grown, aq.grown)) tc (All-head (λ to. All (λ slot. slot < code1.next) to) tc [] vc.values.below))
          (All-cons below tp (tq ∷ []) (All-weaker (λ slot. slot < code2.next) (λ slot. slot < code3.next) (λ slot l. omega (arith, aq.grown)) tp (All-head (λ to. All (λ slot. slot < code2.next) to) tp [] vp.values.below)) vq.values.below));
      slots = here;
      few = omega (arith, r.few, total, cost, ac.stores, ap1.stores, aq.stores, stored_c, stored_p, stored_q);
    }

choice_length : ValueLength → (w : ℕ) (x y z : BitList) → length y ≡ w → length z ≡ w → length (choose (truth x) y z) ≡ w
choice_length law w x y z h k =
    let state : N.State = λ bit. X in
    let lx = Literal x false true in
    let ly = Literal y false true in
    let lz = Literal z false true in
    let is_x : value lx (length x) false state ≡ x = same_length x _ (length x) refl in
    let is_y : value ly w false state ≡ y = same_length y _ w h in
    let is_z : value lz w false state ≡ z = same_length z _ w k in
    let long = law (Choice lx ly lz) w false state (omega (arith, h, k)) in
    subst (λ (v : BitList). length (choose (truth x) y v) ≡ w) is_z
    (subst (λ (v : BitList). length (choose (truth x) v (value lz w false state)) ≡ w) is_y
    (subst (λ (v : BitList). length (choose (truth v) (value ly w false state) (value lz w false state)) ≡ w) is_x long))

three_added : (old c p q one two three : List Call) → one ≡ old ++ c → two ≡ one ++ p → three ≡ two ++ q → three ≡ old ++ (c ++ (p ++ q))
three_added old c p q one two three e f g = two_added old c (p ++ q) one three e (two_added one p q two three f g)

pub returns_choice : ValueLength → (env : List ℕ) (code code1 code2 code3 code4 : Coding) (c p q : Expression) (w : ℕ) (s : Bool) (tc tp tq to : List ℕ) → Parts env code code1 code2 code3 c p q w s tc tp tq
    → IsChoice w tc tp tq code3 code4 to
    → AddsValue env code.calls code.next code4.calls code4.next (Choice c p q) w s to
returns_choice law env code code1 code2 code3 code4 c p q w s tc tp tq to o (inl h) =
    let vc = o.condition in
    let vp = o.first in
    let vq = o.second in
    subst (λ (x : Coding). AddsValue env code.calls code.next x.calls x.next (Choice c p q) w s to) (sym h.1.same)
    (subst (λ (t : List ℕ). AddsValue env code.calls code.next code3.calls code3.next (Choice c p q) w s t) (sym h.1.are) (record {
      calls = vc.calls ++ (vp.calls ++ vq.calls);
      is = three_added code.calls vc.calls vp.calls vq.calls code1.calls code2.calls code3.calls vc.is vp.is vq.is;
      value = choice_without env code.next c p q w s vc.calls tc code1.next vp.calls tp code2.next vq.calls tq code3.next o.ready.is_env h.0.0 h.0.1.0 h.0.1.1 vc.value vp.value vq.value
          (choice_length law w (constant_bits tc) (constant_bits tp) (constant_bits tq) (length-map tp constant_bit ∙ vp.value.length) (length-map tq constant_bit ∙ vq.value.length));
    }))
returns_choice law env code code1 code2 code3 code4 c p q w s tc tp tq to o (inr h) =
    let r = o.ready in
    let f = fit_choice c p q w r.fit r.wide in
    let vc = o.condition in
    let vp = o.first in
    let vq = o.second in
    let constant = not_all (is_constant c) (is_constant p) (is_constant q) (λ a b d. h.variable (vc.value.constant a, (vp.value.constant b, vq.value.constant d))) in
    let call = fresh_call (Select S.Choose) (tc ∷ tp ∷ tq ∷ []) code3.next w in
    let can = callable_choice env code code1 code2 code3 c p q w s tc tp tq o h.variable in
    let all = vc.calls ++ (vp.calls ++ vq.calls) in
    let value = choice_is env code.next c p q w s vc.calls tc code1.next vp.calls tp code2.next vq.calls tq code3.next r.is_env f.some f.long.0 (omega (arith, r.at_most_64)) (omega (arith, f.long.1)) constant (omega (arith, can.slots)) vc.value vp.value vq.value in
    record {
      calls = all ++ call ∷ [];
      is = two_added code.calls all (call ∷ []) code3.calls code4.calls (three_added code.calls vc.calls vp.calls vq.calls code1.calls code2.calls code3.calls vc.is vp.is vq.is) (ap (λ (x : Coding). x.calls) h.call);
      value = subst (λ n. IsValue env code.next (Choice c p q) w s (all ++ call ∷ []) to n) (sym (ap (λ (x : Coding). x.next) h.call))
          (subst (λ t. IsValue env code.next (Choice c p q) w s (all ++ call ∷ []) t (code3.next + w)) (sym h.are) value);
    }
