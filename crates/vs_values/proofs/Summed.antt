-- Products by constants, call by call.
use Rattle.std.proofs.Common.{◌≡◌, ◌⊎◌, ℕ, zero, suc, ◌+◌, ◌-◌, ◌*◌, ◌/◌, ◌<◌, ◌≤◌, ◌^◌, Bool, true, false, List, [], ◌∷◌, ◌++◌, map, length, take, replicate, refl, sym, ap, ◌∙◌, subst, arith, append-nil, append_assoc, inl, inr}
use Rattle.std.specs.List.{All, range_with_len}
use Rattle.std.proofs.lemmas.List.{length-map, length-take, length-replicate}
use Rattle.std.proofs.lemmas.List.Sums.{sum_by-cons, sum_by-append}
use Rattle.std.proofs.lemmas.List.FromFn.{length-range_with_len}
use Rattle.std.proofs.lemmas.List.Elements.{All-nil, All-cons, All-replicate, All-take, All-weaker}
use Rattle.std.proofs.Math.Nat.{add-mul, mul-le-mul_right}
use Rattle.std.proofs.lemmas.Bool.{ne_eqb}
use mathlib.Core.Path.{fun_ext}
use mathlib.Core.Bool.{cond}
use Rattle.vs_four.specs.declared.Bit4.{Bit4}
use Rattle.vs_four.specs.declared.Bit4.TheVariants.{Zero}
use Rattle.vs_four.specs.Tables.{is_known}
use Rattle.vs_four.specs.Logic.{BitList, all_known}
use Rattle.vs_four.specs.Numbers.{digit, number, all_x, add, sub, mul}
use Rattle.vs_four.specs.Shifts.{move_up}
use Rattle.vs_design.specs.Expressions.{Add, Subtract}
use Rattle.vs_kern_arith.specs.declared.costs.Kernel.TheVariants as A
use Rattle.vs_code.specs.declared.kernels.AnyKernel.{AnyKernel}
use Rattle.vs_code.specs.declared.kernels.AnyKernel.TheVariants.{Arith}
use Rattle.vs_code.specs.Kernels.{operator_of, takes, cost_of, room_of}
use Rattle.vs_code.specs.Calls.{Call, State, IsCall, call_cost, length_of, lengths_of}
use Rattle.vs_program.specs.Lowered.{HasConstants}
use Rattle.vs_values.specs.Added.{AreAdded, fresh_call, IsNew}
use Rattle.vs_values.specs.Coded.{Coding, with_call}
use Rattle.vs_values.specs.Constants.{AreConstant, constant_bit, constant_bits}
use Rattle.vs_values.specs.Made.{IsCallable}
use Rattle.vs_values.specs.Products.{ones, IsCheap, product_cost, HasRoom, Adds, AddsCopies, AddsProduct}
use Rattle.vs_values.proofs.Lists.{range_below, range_from}
use Rattle.vs_values.proofs.Adding.{called_parts, one_called, constants_stay, vector_stays, added_none, added_more, added_within, added_call, is_fresh_call}
use Rattle.vs_values.proofs.Operators.{binary_takes}
use Rattle.vs_values.proofs.Folding.{bits_are}
use Rattle.vs_values.proofs.Multiplying.{mul_swap, mul_right, times_none, times_zero, times_one, times_first, odd_is, zero_is, any_is}

-- ---- calls that are added

adds_none : (code : Coding) (most : ℕ) (L : State → State → Type 0) → ((slots : State) → HasConstants slots → L slots slots) → Adds code code most L
adds_none code most L f = record {
  calls = [];
  is = sym (append-nil code.calls);
  added = added_within code.next [] code.next 0 most (omega arith) (added_none code.next);
  values = λ before after h called. subst (L before) (sym (fun_ext called)) (f before h);
}

adds_as : (old new : Coding) (most more : ℕ) (L M : State → State → Type 0) → 4 ≤ old.next → most ≤ more
    → ((before after : State) → HasConstants after → ((s : List ℕ) → All (λ slot. slot < old.next) s → map after s ≡ map before s) → L before after → M before after)
    → Adds old new most L → Adds old new more M
adds_as old new most more L M least l f x = record {
  calls = x.calls;
  is = x.is;
  added = added_within old.next x.calls new.next most more l x.added;
  values = λ before after h called.
      f before after (constants_stay x.calls old.next before after least x.added.fresh called h) (λ s l. vector_stays x.calls old.next before after s x.added.fresh called l) (x.values before after h called);
}

-- what a call after others leaves: vectors of slots below its own stay
adds_call : (old mid new : Coding) (most more : ℕ) (L M : State → State → Type 0) (kernel : AnyKernel) (args : List (List ℕ)) (w : ℕ)
    → 4 ≤ old.next → most + w ≤ more
    → IsCall (fresh_call kernel args mid.next w) → All (λ to. All (λ slot. slot < mid.next) to) args → call_cost (fresh_call kernel args mid.next w) ≡ w
    → Adds old mid most L → new ≡ with_call mid kernel args w
    → ((before middle after : State) → HasConstants before → HasConstants middle
    → ((s : List ℕ) → All (λ slot. slot < old.next) s → map middle s ≡ map before s)
    → ((s : List ℕ) → All (λ slot. slot < mid.next) s → map after s ≡ map middle s)
    → L before middle → map after (range_with_len mid.next w) ≡ operator_of kernel w (map (λ arg. map middle arg) args) → M before after)
    → Adds old new more M
adds_call old mid new most more L M kernel args w least room is below cost x same f =
    let call = fresh_call kernel args mid.next w in
    let one = added_call kernel args mid.next w w is below (omega (arith, cost)) (omega (arith, cost)) in
    let all = added_within old.next (x.calls ++ call ∷ []) (mid.next + w) (most + w) more room (added_more old.next x.calls mid.next most (call ∷ []) (mid.next + w) w x.added one) in
    let next : mid.next + w ≡ new.next = sym (ap (λ (c : Coding). c.next) same) in
    record {
      calls = x.calls ++ call ∷ [];
      is = ap (λ (c : Coding). c.calls) same ∙ ap (λ (cs : List Call). cs ++ call ∷ []) x.is ∙ append_assoc old.calls x.calls (call ∷ []);
      added = subst (λ (n : ℕ). AreAdded old.next (x.calls ++ call ∷ []) n more) next all;
      values = λ before after h called.
          let parts = called_parts x.calls (call ∷ []) before after called in
          let done = one_called call parts.0 after parts.2 in
          f before parts.0 after h
          (constants_stay x.calls old.next before parts.0 least x.added.fresh parts.1 h)
          (λ s l. vector_stays x.calls old.next before parts.0 s x.added.fresh parts.1 l)
          (λ s l. vector_stays (call ∷ []) mid.next parts.0 after s one.fresh parts.2 l)
          (x.values before parts.0 h parts.1)
          (done.value ∙ ap (λ (k : ℕ). operator_of kernel k (map (λ arg. map parts.0 arg) args)) (length-range_with_len mid.next w));
    }

-- ---- room

pub room_less : (code : Coding) (a : List ℕ) (most less : ℕ) → less ≤ most → HasRoom code a most → HasRoom code a less
room_less code a most less l r = record { some = r.some; short = r.short; constants = r.constants; below = r.below; slots = omega (arith, r.slots); few = omega (arith, r.few) }

pub room_after : (old new : Coding) (a : List ℕ) (most more total : ℕ) (L : State → State → Type 0) → most + more ≤ total → HasRoom old a total → Adds old new most L → HasRoom new a more
room_after old new a most more total L l r x =
    let stored : length_of new.calls ≡ length_of old.calls + length_of x.calls = ap length_of x.is ∙ sum_by-append call_cost old.calls x.calls in
    record {
      some = r.some;
      short = r.short;
      constants = omega (arith, r.constants, x.added.grown);
      below = All-weaker (λ slot. slot < old.next) (λ slot. slot < new.next) (λ slot h. omega (arith, x.added.grown)) a r.below;
      slots = omega (arith, r.slots, x.added.paid, x.added.stores);
      few = omega (arith, r.few, x.added.stores, stored);
    }

-- ---- a call of a sum or a difference

pub record Callable (code : Coding) (kernel : AnyKernel) (x y : List ℕ) (w : ℕ) : Type 0 where
  pub call : IsCallable code kernel (x ∷ y ∷ []) w
  pub below : All (λ to. All (λ slot. slot < code.next) to) (x ∷ y ∷ [])
  pub cost : call_cost (fresh_call kernel (x ∷ y ∷ []) code.next w) ≡ w

pub call_at : (code : Coding) (kernel : AnyKernel) (x x' y y' : List ℕ) (w : ℕ) → x' ≡ x → y' ≡ y → length x ≡ w → IsCallable code kernel (x ∷ y ∷ []) w → IsCallable code kernel (x' ∷ y' ∷ []) (length x')
call_at code kernel x x' y y' w e f l h =
    let k : length x' ≡ w = ap (λ (v : List ℕ). length v) e ∙ l in
    subst (λ (n : ℕ). IsCallable code kernel (x' ∷ y' ∷ []) n) (sym k)
    (subst (λ (v : List ℕ). IsCallable code kernel (x' ∷ v ∷ []) w) (sym f) (subst (λ (v : List ℕ). IsCallable code kernel (v ∷ y ∷ []) w) (sym e) h))

callable : (code : Coding) (kernel : AnyKernel) (a x y : List ℕ) (w : ℕ) → length a ≡ w → HasRoom code a w
    → takes kernel (w ∷ w ∷ w ∷ []) ≡ true → room_of kernel (w ∷ w ∷ w ∷ []) ≤ 0 → cost_of kernel (w ∷ w ∷ w ∷ []) ≡ w
    → length x ≡ w → length y ≡ w → All (λ slot. slot < code.next) x → All (λ slot. slot < code.next) y → Callable code kernel x y w
callable code kernel a x y w e r taken rooms costs lx ly bx by =
    let P : List ℕ → Type 0 = λ to. All (λ slot. slot < code.next) to in
    let same : (w ∷ w ∷ w ∷ []) ≡ (length x ∷ length y ∷ w ∷ []) = ap (λ (k : ℕ). k ∷ w ∷ w ∷ []) (sym lx) ∙ ap (λ (k : ℕ). length x ∷ k ∷ w ∷ []) (sym ly) in
    let below : All P (x ∷ y ∷ []) = All-cons P x (y ∷ []) bx (All-cons P y [] by (All-nil P)) in
    let call = fresh_call kernel (x ∷ y ∷ []) code.next w in
    let lengths : lengths_of call ≡ (length x ∷ length y ∷ w ∷ []) = ap (λ (k : ℕ). length x ∷ length y ∷ k ∷ []) (length-range_with_len code.next w) in
    let cost : call_cost call ≡ w = ap (cost_of kernel) (lengths ∙ sym same) ∙ costs in
    let Q = λ (n : ℕ). n < 2 ^ 32 in
    let short : Q w = omega (arith, e, r.short) in
    record {
      call = record {
        is = is_fresh_call kernel (x ∷ y ∷ []) code.next w
            (subst (λ ls. takes kernel ls ≡ true) same taken)
            (subst (All Q) same (All-cons Q w (w ∷ w ∷ []) short (All-cons Q w (w ∷ []) short (All-cons Q w [] short (All-nil Q)))))
            (subst (λ ls. room_of kernel ls ≤ 0) same rooms)
            (omega (arith, r.slots))
            below;
        slots = r.slots;
        few = omega (arith, r.few, cost);
      };
      below = below;
      cost = cost;
    }

pub can_add : (code : Coding) (a x y : List ℕ) → HasRoom code a (length a) → length x ≡ length a → length y ≡ length a
    → All (λ slot. slot < code.next) x → All (λ slot. slot < code.next) y → Callable code (Arith A.Add) x y (length a)
can_add code a x y r = callable code (Arith A.Add) a x y (length a) refl r (binary_takes Add false (length a) (length a) (length a) refl r.some r.some r.some) (omega arith) refl

pub can_sub : (code : Coding) (a : List ℕ) → HasRoom code a (length a) → Callable code (Arith A.Sub) a a (length a)
can_sub code a r = callable code (Arith A.Sub) a a a (length a) refl r (binary_takes Subtract false (length a) (length a) (length a) refl r.some r.some r.some) (omega arith) refl refl refl r.below r.below

-- ---- constants

pub ones_more : (s : ℕ) (c : List ℕ) → ones (s ∷ c) ≡ digit (constant_bit s) + ones c
ones_more zero c = sum_by-cons _ zero c
ones_more (suc zero) c = sum_by-cons _ 1 c
ones_more (suc (suc zero)) c = sum_by-cons _ 2 c
ones_more (suc (suc (suc n))) c = sum_by-cons _ (suc (suc (suc n))) c ∙ ap (λ (b : Bool). cond b 1 0 + ones c) (ne_eqb (suc (suc (suc n))) 1 (λ e. absurd (omega arith)))

pub no_ones : (c : List ℕ) → ones c ≡ 0 → number (constant_bits c) ≡ 0
no_ones [] h = refl
no_ones (s ∷ c) h = let e = ones_more s c in let z : ones c ≡ 0 = omega (arith, e) in omega (arith, e, no_ones c z)

-- a known bit that isn't 1 is 0
pub known_first : (s : ℕ) (c : List ℕ) → all_known (constant_bits (s ∷ c)) ≡ true → (is_known (constant_bit s) ≡ true) × (all_known (constant_bits c) ≡ true)
known_first zero c h = (refl, h)
known_first (suc zero) c h = (refl, h)
known_first (suc (suc zero)) c h = cc
known_first (suc (suc (suc n))) c h = cc

zero_bit : (s : ℕ) → is_known (constant_bit s) ≡ true → (s ≡ 1 → ⊥) → constant_bit s ≡ Zero
zero_bit zero h f = refl
zero_bit (suc zero) h f = absurd (f refl)
zero_bit (suc (suc zero)) h f = cc
zero_bit (suc (suc (suc n))) h f = cc

-- ---- moved slots

map_take : (slots : State) (n : ℕ) (xs : List ℕ) → map slots (take n xs) ≡ take n (map slots xs)
map_take slots zero xs = refl
map_take slots (suc n) [] = refl
map_take slots (suc n) (x ∷ xs) = ap (λ (ys : BitList). slots x ∷ ys) (map_take slots n xs)

map_replicate : (slots : State) (n x : ℕ) → map slots (replicate n x) ≡ replicate n (slots x)
map_replicate slots zero x = refl
map_replicate slots (suc n) x = ap (λ (ys : BitList). slots x ∷ ys) (map_replicate slots n x)

moved_are : (slots : State) (v : List ℕ) → HasConstants slots → map slots (move_up 0 1 v) ≡ move_up Zero 1 (map slots v)
moved_are slots v h =
    map_take slots (length v) (0 ∷ v)
    ∙ ap (λ (b : Bit4). take (length v) (b ∷ map slots v)) h.zero
    ∙ ap (λ (n : ℕ). take n (Zero ∷ map slots v)) (sym (length-map v slots))

pub moved_long : (v : List ℕ) → length (move_up 0 1 v) ≡ length v
moved_long v = omega (arith, length-take (length v) (0 ∷ v))

pub moved_below : (n : ℕ) (v : List ℕ) → 1 ≤ n → All (λ slot. slot < n) v → All (λ slot. slot < n) (move_up 0 1 v)
moved_below n v l h = All-take (λ slot. slot < n) (length v) (0 ∷ v) (All-cons (λ slot. slot < n) 0 v (omega arith) h)

-- ---- the copies

-- a product where the vector is known
abbrev pub Copied : List ℕ → List ℕ → List ℕ → State → State → Type 0
Copied a c to before after = all_known (map before a) ≡ true → map after to ≡ mul (map before a) (constant_bits c)

copies_at : (old new : Coding) (a c to c' to' : List ℕ) → c ≡ c' → to ≡ to' → AddsCopies old new a c' to' → AddsCopies old new a c to
copies_at old new a c to c' to' e f x = subst (λ (t : List ℕ). AddsCopies old new a c t) (sym f) (subst (λ (d : List ℕ). AddsCopies old new a d to') (sym e) x)

pub empty_is : (c : List ℕ) → length c ≡ 0 → c ≡ []
empty_is [] h = refl
empty_is (s ∷ c) h = absurd (omega arith)

pub copies_none : (code : Coding) (a c to : List ℕ) → 4 ≤ code.next → c ≡ [] → to ≡ replicate (length a) 0 → AddsCopies code code a c to
copies_none code a c to least e f = copies_at code code a c to [] (replicate (length a) 0) e f (record {
  adds = adds_none code ((ones [] - 1) * length a) (Copied a [] (replicate (length a) 0)) (λ slots h known.
      map_replicate slots (length a) 0
      ∙ ap (λ (b : Bit4). replicate (length a) b) h.zero
      ∙ ap (λ (n : ℕ). replicate n Zero) (sym (length-map a slots))
      ∙ times_none (map slots a) known);
  below = All-replicate (λ slot. slot < code.next) (length a) 0 (omega arith);
  long = length-replicate (length a) 0;
})

fewer : (n m w : ℕ) → n ≤ m → (n - 1) * w ≤ (m - 1) * w
fewer n m w h = let l : n - 1 ≤ m - 1 = omega arith in mul-le-mul_right w l

one_copy : (n w : ℕ) → 1 ≤ n → (n - 1) * w + w ≤ n * w
one_copy n w h =
    let e : (n - 1) + 1 ≡ n = omega arith in
    let f : ((n - 1) + 1) * w ≡ n * w = ap (λ (k : ℕ). k * w) e in
    omega (arith, f, add-mul (n - 1) 1 w)

pub fewer_ones : (s : ℕ) (c : List ℕ) (w : ℕ) → (ones c - 1) * w ≤ (ones (s ∷ c) - 1) * w
fewer_ones s c w = fewer (ones c) (ones (s ∷ c)) w (omega (arith, ones_more s c))

pub more_ones : (c : List ℕ) (w : ℕ) → 1 ≤ ones c → (ones c - 1) * w + w ≤ (ones (1 ∷ c) - 1) * w
more_ones c w h =
    let e : ones (1 ∷ c) - 1 ≡ ones c = omega (arith, ones_more 1 c) in
    let f : (ones (1 ∷ c) - 1) * w ≡ ones c * w = ap (λ (k : ℕ). k * w) e in
    omega (arith, f, one_copy (ones c) w h)

pub copies_moved : (old new : Coding) (a c higher sum to : List ℕ) (bit : ℕ) → 4 ≤ old.next → c ≡ bit ∷ higher → all_known (constant_bits c) ≡ true → (bit ≡ 1 → ⊥)
    → AddsCopies old new a higher sum → to ≡ move_up 0 1 sum → AddsCopies old new a c to
copies_moved old new a c higher sum to bit least e k0 other x f =
    let k = known_first bit higher (subst (λ (d : List ℕ). all_known (constant_bits d) ≡ true) e k0) in
    let z = zero_bit bit k.0 other in
    copies_at old new a c to (bit ∷ higher) (move_up 0 1 sum) e f (record {
      adds = adds_as old new ((ones higher - 1) * length a) ((ones (bit ∷ higher) - 1) * length a) (Copied a higher sum) (Copied a (bit ∷ higher) (move_up 0 1 sum)) least (fewer_ones bit higher (length a))
          (λ before after h stays l known.
          moved_are after sum h
          ∙ times_zero (map before a) (constant_bits higher) (map after sum) known k.1 (l known)
          ∙ ap (λ (b : Bit4). mul (map before a) (b ∷ constant_bits higher)) (sym z))
          x.adds;
      below = moved_below new.next sum (omega (arith, x.adds.added.grown)) x.below;
      long = moved_long sum ∙ x.long;
    })

pub copies_first : (old new : Coding) (a c higher sum to : List ℕ) (bit : ℕ) → 4 ≤ old.next → All (λ slot. slot < old.next) a → c ≡ bit ∷ higher → all_known (constant_bits c) ≡ true → bit ≡ 1 → ones higher ≡ 0
    → AddsCopies old new a higher sum → to ≡ a → AddsCopies old new a c to
copies_first old new a c higher sum to bit least below e k0 one none x f =
    let g : c ≡ 1 ∷ higher = e ∙ ap (λ (b : ℕ). b ∷ higher) one in
    let k = known_first 1 higher (subst (λ (d : List ℕ). all_known (constant_bits d) ≡ true) g k0) in
    copies_at old new a c to (1 ∷ higher) a g f (record {
      adds = adds_as old new ((ones higher - 1) * length a) ((ones (1 ∷ higher) - 1) * length a) (Copied a higher sum) (Copied a (1 ∷ higher) a) least (fewer_ones 1 higher (length a))
          (λ before after h stays l known. stays a below ∙ times_first (map before a) (constant_bits higher) known k.1 (no_ones higher none))
          x.adds;
      below = All-weaker (λ slot. slot < old.next) (λ slot. slot < new.next) (λ slot l. omega (arith, x.adds.added.grown)) a below;
      long = refl;
    })

pub room_within : (old mid : Coding) (a c higher sum : List ℕ) (bit : ℕ) → HasRoom old a ((ones c - 1) * length a) → c ≡ bit ∷ higher → bit ≡ 1 → (ones higher ≡ 0 → ⊥) → AddsCopies old mid a higher sum → HasRoom mid a (length a)
room_within old mid a c higher sum bit r e one some x =
    let g : c ≡ 1 ∷ higher = e ∙ ap (λ (b : ℕ). b ∷ higher) one in
    let r1 = subst (λ (d : List ℕ). HasRoom old a ((ones d - 1) * length a)) g r in
    room_after old mid a ((ones higher - 1) * length a) (length a) ((ones (1 ∷ higher) - 1) * length a) (Copied a higher sum) (more_ones higher (length a) (omega arith)) r1 x.adds

pub copies_sum : (old mid new : Coding) (a c higher sum to : List ℕ) (bit : ℕ) → HasRoom old a ((ones c - 1) * length a) → c ≡ bit ∷ higher → all_known (constant_bits c) ≡ true → bit ≡ 1 → (ones higher ≡ 0 → ⊥)
    → AddsCopies old mid a higher sum
    → new ≡ with_call mid (Arith A.Add) (move_up 0 1 sum ∷ a ∷ []) (length a) → to ≡ range_with_len mid.next (length a) → AddsCopies old new a c to
copies_sum old mid new a c higher sum to bit r e k0 one some x same f =
    let w = length a in
    let room = room_within old mid a c higher sum bit r e one some x in
    let g : c ≡ 1 ∷ higher = e ∙ ap (λ (b : ℕ). b ∷ higher) one in
    let k = known_first 1 higher (subst (λ (d : List ℕ). all_known (constant_bits d) ≡ true) g k0) in
    let can = can_add mid a (move_up 0 1 sum) a room (moved_long sum ∙ x.long) refl (moved_below mid.next sum (omega (arith, room.constants)) x.below) room.below in
    let next : mid.next + w ≡ new.next = sym (ap (λ (d : Coding). d.next) same) in
    copies_at old new a c to (1 ∷ higher) (range_with_len mid.next w) g f (record {
      adds = adds_call old mid new ((ones higher - 1) * w) ((ones (1 ∷ higher) - 1) * w) (Copied a higher sum) (Copied a (1 ∷ higher) (range_with_len mid.next w)) (Arith A.Add) (move_up 0 1 sum ∷ a ∷ []) w
          r.constants (more_ones higher w (omega arith)) can.call.is can.below can.cost x.adds same
          (λ before middle after hb h stays_a stays l value known.
          value
          ∙ ap (λ (v : BitList). add v (map middle a)) (moved_are middle sum h)
          ∙ ap (add (move_up Zero 1 (map middle sum))) (stays_a a r.below)
          ∙ times_one (map before a) (constant_bits higher) (map middle sum) known k.1 (l known));
      below = range_below mid.next w new.next (omega (arith, next));
      long = length-range_with_len mid.next w;
    })

-- ---- the product

abbrev pub Multiplied : List ℕ → List ℕ → List ℕ → State → State → Type 0
Multiplied a c to before after = map after to ≡ mul (map before a) (map before c)

product_at : (old new : Coding) (a c to to' : List ℕ) → to ≡ to' → AddsProduct old new a c ((ones c + 1) * length a) to' → AddsProduct old new a c ((ones c + 1) * length a) to
product_at old new a c to to' f x = subst (λ (t : List ℕ). AddsProduct old new a c ((ones c + 1) * length a) t) (sym f) x

-- slots of a call
of_call : (old mid new : Coding) (a c : List ℕ) (w : ℕ) → length a ≡ w → old.next ≤ mid.next → mid.next + w ≡ new.next
    → Adds old new ((ones c + 1) * length a) (Multiplied a c (range_with_len mid.next w)) → AddsProduct old new a c ((ones c + 1) * length a) (range_with_len mid.next w)
of_call old mid new a c w e grown next x = record {
  adds = x;
  below = range_below mid.next w new.next (omega (arith, next));
  new_slots = All-weaker (λ slot. old.next ≤ slot) (IsNew old.next) (λ slot l. inr l) (range_with_len mid.next w) (range_from mid.next w old.next grown);
  long = length-range_with_len mid.next w ∙ sym e;
}

pub product_unknown : (code : Coding) (a c to : List ℕ) → 4 ≤ code.next → AreConstant c → all_known (constant_bits c) ≡ false → to ≡ replicate (length a) 2 → AddsProduct code code a c ((ones c + 1) * length a) to
product_unknown code a c to least constant unknown f = product_at code code a c to (replicate (length a) 2) f (record {
  adds = adds_none code ((ones c + 1) * length a) (Multiplied a c (replicate (length a) 2)) (λ slots h.
      map_replicate slots (length a) 2
      ∙ ap (λ (b : Bit4). replicate (length a) b) h.x
      ∙ ap (λ (n : ℕ). all_x n) (sym (length-map a slots))
      ∙ sym (mul_right (map slots a) (constant_bits c) unknown)
      ∙ ap (mul (map slots a)) (sym (bits_are slots c h constant)));
  below = All-replicate (λ slot. slot < code.next) (length a) 2 (omega arith);
  new_slots = All-replicate (IsNew code.next) (length a) 2 (inl (omega arith));
  long = length-replicate (length a) 2;
})

pub odd_ones : (c : List ℕ) (w : ℕ) → 1 ≤ ones c → (ones c - 1) * w + w ≤ (ones (1 ∷ c) + 1) * w
odd_ones c w h =
    let l : ones c * w ≤ (ones (1 ∷ c) + 1) * w = mul-le-mul_right w (let l : ones c ≤ ones (1 ∷ c) + 1 = omega (arith, ones_more 1 c) in l) in
    omega (arith, l, one_copy (ones c) w h)

pub room_odd : (old mid : Coding) (a higher sum : List ℕ) → HasRoom old a (ones higher * length a) → 1 ≤ ones higher → AddsCopies old mid a higher sum → HasRoom mid a (length a)
room_odd old mid a higher sum r some x =
    room_after old mid a ((ones higher - 1) * length a) (length a) (ones higher * length a) (Copied a higher sum) (one_copy (ones higher) (length a) some) r x.adds

pub product_odd : (old mid new : Coding) (a higher sum to : List ℕ) → HasRoom old a (ones higher * length a) → AreConstant higher → all_known (constant_bits higher) ≡ true → 1 ≤ ones higher
    → AddsCopies old mid a higher sum
    → new ≡ with_call mid (Arith A.Add) (move_up 0 1 sum ∷ a ∷ []) (length a) → to ≡ range_with_len mid.next (length a) → AddsProduct old new a (1 ∷ higher) ((ones (1 ∷ higher) + 1) * length a) to
product_odd old mid new a higher sum to r constant known some x same f =
    let w = length a in
    let room = room_odd old mid a higher sum r some x in
    let can = can_add mid a (move_up 0 1 sum) a room (moved_long sum ∙ x.long) refl (moved_below mid.next sum (omega (arith, room.constants)) x.below) room.below in
    let next : mid.next + w ≡ new.next = sym (ap (λ (d : Coding). d.next) same) in
    let all : AreConstant (1 ∷ higher) = All-cons (λ slot. slot < 4) 1 higher (omega arith) constant in
    product_at old new a (1 ∷ higher) to (range_with_len mid.next w) f (of_call old mid new a (1 ∷ higher) w refl x.adds.added.grown next
    (adds_call old mid new ((ones higher - 1) * w) ((ones (1 ∷ higher) + 1) * w) (Copied a higher sum) (Multiplied a (1 ∷ higher) (range_with_len mid.next w)) (Arith A.Add) (move_up 0 1 sum ∷ a ∷ []) w
    r.constants (odd_ones higher w some) can.call.is can.below can.cost x.adds same
    (λ before middle after hb h stays_a stays l value.
    value
    ∙ ap (λ (v : BitList). add v (map middle a)) (moved_are middle sum h)
    ∙ ap (add (move_up Zero 1 (map middle sum))) (stays_a a r.below)
    ∙ odd_is (map before a) (constant_bits higher) (map middle sum) known (length-map sum middle ∙ x.long ∙ sym (length-map a before)) l
    ∙ ap (mul (map before a)) (sym (bits_are before (1 ∷ higher) hb all)))))

pub zero_ones : (n w : ℕ) → (n - 1) * w + w ≤ (n + 1) * w
zero_ones n w =
    let l : (n - 1) * w ≤ n * w = mul-le-mul_right w (let l : n - 1 ≤ n = omega arith in l) in
    omega (arith, l, add-mul n 1 w)

pub room_any : (old mid : Coding) (a c sum : List ℕ) → HasRoom old a ((ones c + 1) * length a) → AddsCopies old mid a c sum → HasRoom mid a (length a)
room_any old mid a c sum r x = room_after old mid a ((ones c - 1) * length a) (length a) ((ones c + 1) * length a) (Copied a c sum) (zero_ones (ones c) (length a)) r x.adds

pub product_zero : (old mid new : Coding) (a c sum to : List ℕ) → HasRoom old a ((ones c + 1) * length a) → AreConstant c → all_known (constant_bits c) ≡ true → ones c ≡ 0
    → AddsCopies old mid a c sum
    → new ≡ with_call mid (Arith A.Sub) (a ∷ a ∷ []) (length a) → to ≡ range_with_len mid.next (length a) → AddsProduct old new a c ((ones c + 1) * length a) to
product_zero old mid new a c sum to r constant known none x same f =
    let w = length a in
    let room = room_any old mid a c sum r x in
    let can = can_sub mid a room in
    let next : mid.next + w ≡ new.next = sym (ap (λ (d : Coding). d.next) same) in
    product_at old new a c to (range_with_len mid.next w) f (of_call old mid new a c w refl x.adds.added.grown next
    (adds_call old mid new ((ones c - 1) * w) ((ones c + 1) * w) (Copied a c sum) (Multiplied a c (range_with_len mid.next w)) (Arith A.Sub) (a ∷ a ∷ []) w
    r.constants (zero_ones (ones c) w) can.call.is can.below can.cost x.adds same
    (λ before middle after hb h stays_a stays l value.
    value
    ∙ ap (λ (v : BitList). sub v v) (stays_a a r.below)
    ∙ zero_is (map before a) (constant_bits c) known (no_ones c none)
    ∙ ap (mul (map before a)) (sym (bits_are before c hb constant)))))

-- the copies, and `a - a`
abbrev pub Prepared : List ℕ → List ℕ → List ℕ → List ℕ → State → State → Type 0
Prepared a c sum null before after = Copied a c sum before after × (map after null ≡ sub (map before a) (map before a))

pub prepared : (old mid new : Coding) (a c sum null : List ℕ) → HasRoom old a ((ones c + 1) * length a) → AddsCopies old mid a c sum
    → new ≡ with_call mid (Arith A.Sub) (a ∷ a ∷ []) (length a) → null ≡ range_with_len mid.next (length a) → Adds old new ((ones c - 1) * length a + length a) (Prepared a c sum null)
prepared old mid new a c sum null r x same f =
    let w = length a in
    let room = room_any old mid a c sum r x in
    let can = can_sub mid a room in
    adds_call old mid new ((ones c - 1) * w) ((ones c - 1) * w + w) (Copied a c sum) (Prepared a c sum null) (Arith A.Sub) (a ∷ a ∷ []) w
    r.constants (omega arith) can.call.is can.below can.cost x.adds same
    (λ before middle after hb h stays_a stays l value. (
      (λ known. stays sum x.below ∙ l known),
      ap (λ (t : List ℕ). map after t) f ∙ value ∙ ap (λ (v : BitList). sub v v) (stays_a a r.below),
    ))

pub any_ones : (n w : ℕ) → 1 ≤ n → ((n - 1) * w + w) + w ≤ (n + 1) * w
any_ones n w h = omega (arith, one_copy n w h, add-mul n 1 w)

pub room_last : (old mid mid2 : Coding) (a c sum null : List ℕ) → HasRoom old a ((ones c + 1) * length a) → (ones c ≡ 0 → ⊥) → AddsCopies old mid a c sum
    → mid2 ≡ with_call mid (Arith A.Sub) (a ∷ a ∷ []) (length a) → null ≡ range_with_len mid.next (length a) → HasRoom mid2 a (length a)
room_last old mid mid2 a c sum null r some x same f =
    room_after old mid2 a ((ones c - 1) * length a + length a) (length a) ((ones c + 1) * length a) (Prepared a c sum null) (any_ones (ones c) (length a) (omega arith)) r (prepared old mid mid2 a c sum null r x same f)

pub can_finish : (old mid mid2 : Coding) (a c sum null : List ℕ) → HasRoom old a ((ones c + 1) * length a) → (ones c ≡ 0 → ⊥) → AddsCopies old mid a c sum
    → mid2 ≡ with_call mid (Arith A.Sub) (a ∷ a ∷ []) (length a) → null ≡ range_with_len mid.next (length a) → Callable mid2 (Arith A.Add) sum null (length a)
can_finish old mid mid2 a c sum null r some x same f =
    let w = length a in
    let next : mid.next + w ≡ mid2.next = sym (ap (λ (d : Coding). d.next) same) in
    can_add mid2 a sum null (room_last old mid mid2 a c sum null r some x same f) x.long (ap (λ (t : List ℕ). length t) f ∙ length-range_with_len mid.next w)
    (All-weaker (λ slot. slot < mid.next) (λ slot. slot < mid2.next) (λ slot l. omega (arith, next)) sum x.below)
    (subst (All (λ slot. slot < mid2.next)) (sym f) (range_below mid.next w mid2.next (omega (arith, next))))

pub product_any : (old mid mid2 new : Coding) (a c sum null to : List ℕ) → HasRoom old a ((ones c + 1) * length a) → AreConstant c → all_known (constant_bits c) ≡ true → (ones c ≡ 0 → ⊥)
    → AddsCopies old mid a c sum
    → mid2 ≡ with_call mid (Arith A.Sub) (a ∷ a ∷ []) (length a) → null ≡ range_with_len mid.next (length a)
    → new ≡ with_call mid2 (Arith A.Add) (sum ∷ null ∷ []) (length sum) → to ≡ range_with_len mid2.next (length sum) → AddsProduct old new a c ((ones c + 1) * length a) to
product_any old mid mid2 new a c sum null to r constant known some x same f same2 g =
    let w = length a in
    let two = prepared old mid mid2 a c sum null r x same f in
    let can = can_finish old mid mid2 a c sum null r some x same f in
    let same3 : new ≡ with_call mid2 (Arith A.Add) (sum ∷ null ∷ []) w = same2 ∙ ap (with_call mid2 (Arith A.Add) (sum ∷ null ∷ [])) x.long in
    let next : mid2.next + w ≡ new.next = sym (ap (λ (d : Coding). d.next) same3) in
    product_at old new a c to (range_with_len mid2.next w) (g ∙ ap (range_with_len mid2.next) x.long) (of_call old mid2 new a c w refl two.added.grown next
    (adds_call old mid2 new ((ones c - 1) * w + w) ((ones c + 1) * w) (Prepared a c sum null) (Multiplied a c (range_with_len mid2.next w)) (Arith A.Add) (sum ∷ null ∷ []) w
    r.constants (any_ones (ones c) w (omega arith)) can.call.is can.below can.cost two same3
    (λ before middle after hb h stays_a stays l value.
    value
    ∙ ap (add (map middle sum)) l.1
    ∙ any_is (map before a) (constant_bits c) (map middle sum) (omega (arith, length-map a before, r.some)) known (length-map sum middle ∙ x.long ∙ sym (length-map a before)) l.0
    ∙ ap (mul (map before a)) (sym (bits_are before c hb constant)))))

-- ---- no more than a call of the kernel

pub cheap_fits : (c : List ℕ) (w : ℕ) → length c ≡ w → IsCheap c → (ones c + 1) * w ≤ product_cost w
cheap_fits c w e h =
    let few : 2 * ones c ≤ w + 1 = omega (arith, h.1) in
    let l : (2 * ones c) * w ≤ (w + 1) * w = mul-le-mul_right w few in
    let x : (2 * ones c) * w ≡ 2 * (ones c * w) = grind arith in
    let y : (w + 1) * w ≡ w * (w + 1) = grind arith in
    let half : ones c * w ≤ w * (w + 1) / 2 = omega arith in
    omega (arith, half, add-mul (ones c) 1 w)

pub other_fits : (a b : List ℕ) → length a ≡ length b → IsCheap a → (ones a + 1) * length b ≤ product_cost (length a)
other_fits a b e h = subst (λ (w : ℕ). (ones a + 1) * w ≤ product_cost (length a)) e (cheap_fits a (length a) refl h)

pub product_within : (old new : Coding) (a b : List ℕ) (most more : ℕ) (to : List ℕ) → 4 ≤ old.next → most ≤ more → AddsProduct old new a b most to → AddsProduct old new a b more to
product_within old new a b most more to least l x = record {
  adds = adds_as old new most more (Multiplied a b to) (Multiplied a b to) least l (λ before after h stays e. e) x.adds;
  below = x.below;
  new_slots = x.new_slots;
  long = x.long;
}

pub product_swapped : (old new : Coding) (a b : List ℕ) (most : ℕ) (to : List ℕ) → 4 ≤ old.next → length a ≡ length b → AddsProduct old new b a most to → AddsProduct old new a b most to
product_swapped old new a b most to least e x = record {
  adds = adds_as old new most most (Multiplied b a to) (Multiplied a b to) least (omega arith)
      (λ before after h stays v. v ∙ mul_swap (map before b) (map before a) (length-map b before ∙ sym e ∙ sym (length-map a before))) x.adds;
  below = x.below;
  new_slots = x.new_slots;
  long = x.long ∙ sym e;
}

pub other_cheap : (a b : List ℕ) → IsCheap a ⊎ IsCheap b → (IsCheap b → ⊥) → IsCheap a
other_cheap a b (inl h) f = h
other_cheap a b (inr h) f = absurd (f h)
