-- Calls that write new slots alone.
use Rattle.std.proofs.Common.{◌≡◌, ℕ, ◌+◌, ◌<◌, ◌≤◌, ◌^◌, true, List, [], ◌∷◌, ◌++◌, map, length, slice_index, sym, ap, ◌∙◌, subst, refl, arith}
use Rattle.std.specs.List.{All, Contains, concat, range_with_len}
use Rattle.std.proofs.lemmas.List.{map-append}
use Rattle.std.proofs.lemmas.List.Concat.{flat_map-append}
use Rattle.std.proofs.lemmas.List.Sums.{sum_by-append, sum_by-cons}
use Rattle.std.proofs.lemmas.List.Elements.{All-nil, All-cons, All-append, All-weaker, All-contains, All-head, All-tail}
use Rattle.std.proofs.lemmas.List.FromFn.{length-range_with_len}
use mathlib.Core.Path.{fun_ext}
use Rattle.vs_four.specs.Logic.{BitList}
use Rattle.vs_net.specs.Network as N
use Rattle.vs_plane.specs.Kernels.{IsArgument}
use Rattle.vs_code.specs.declared.kernels.AnyKernel.{AnyKernel}
use Rattle.vs_code.specs.Kernels.{operator_of, takes, room_of}
use Rattle.vs_code.specs.Calls.{Call, State, IsCall, IsCalled, AreCalled, lengths_of, call_cost, call_slots, call_targets, length_of, slots_of, targets_of}
use Rattle.vs_program.specs.Lowered.{HasConstants}
use Rattle.vs_values.specs.Added.{AreAdded, IsEnv, Holds, AreValues, vectors, fresh_call}
use Rattle.vs_values.proofs.Lists.{all_left, all_right, map_agree, range_below, range_from, range_different, below_apart}

-- ---- calls after calls

pub called_parts : (first second : List Call) (before after : State) → AreCalled (first ++ second) before after → (middle : State) × AreCalled first before middle × AreCalled second middle after
called_parts [] second before after h = (before, (λ slot. refl), h)
called_parts (call ∷ first) second before after h =
    let rest = called_parts first second h.0 after h.2 in
    (rest.0, (h.0, h.1, rest.1), rest.2)

pub one_called : (call : Call) (before after : State) → AreCalled (call ∷ []) before after → IsCalled call before after
one_called call before after h = subst (λ (s : State). IsCalled call before s) (sym (fun_ext h.2)) h.1

-- ---- what stays

not_among : (mark : ℕ) (slots : List ℕ) (slot : ℕ) → All (λ s. mark ≤ s) slots → slot < mark → ¬ Contains slots slot
not_among mark slots slot h l m = let le : mark ≤ slot = All-contains (λ s. mark ≤ s) slots slot h m in absurd (omega arith)

-- a slot below the first new one stays
pub stays : (calls : List Call) (mark : ℕ) (before after : State) → All (λ s. mark ≤ s) (targets_of calls) → AreCalled calls before after → (slot : ℕ) → slot < mark → after slot ≡ before slot
stays [] mark before after f h slot l = h slot
stays (call ∷ calls) mark before after f h slot l =
    let here = all_left (λ s. mark ≤ s) (call_targets call) (targets_of calls) f in
    let rest = all_right (λ s. mark ≤ s) (call_targets call) (targets_of calls) f in
    stays calls mark h.0 after rest h.2 slot l
    ∙ h.1.kept slot
    (not_among mark call.to slot (all_left (λ s. mark ≤ s) call.to call.scratch here) l)
    (not_among mark call.scratch slot (all_right (λ s. mark ≤ s) call.to call.scratch here) l)

pub constants_stay : (calls : List Call) (mark : ℕ) (before after : State) → 4 ≤ mark → All (λ s. mark ≤ s) (targets_of calls) → AreCalled calls before after → HasConstants before → HasConstants after
constants_stay calls mark before after l f h c = record {
  zero = stays calls mark before after f h 0 (omega arith) ∙ c.zero;
  one = stays calls mark before after f h 1 (omega arith) ∙ c.one;
  x = stays calls mark before after f h 2 (omega arith) ∙ c.x;
  z = stays calls mark before after f h 3 (omega arith) ∙ c.z;
}

pub holds_after : (env : List ℕ) (calls : List Call) (mark : ℕ) (before after : State) (state : N.State) → IsEnv env mark → All (λ s. mark ≤ s) (targets_of calls) → AreCalled calls before after → Holds env before state → Holds env after state
holds_after env calls mark before after state e f h holds = record {
  constants = constants_stay calls mark before after e.constants f h holds.constants;
  bits = λ b l. stays calls mark before after f h (slice_index env b) (e.below b 0 l) ∙ holds.bits b l;
}

pub vector_stays : (calls : List Call) (mark : ℕ) (before after : State) (to : List ℕ) → All (λ s. mark ≤ s) (targets_of calls) → AreCalled calls before after → All (λ s. s < mark) to → map after to ≡ map before to
vector_stays calls mark before after to f h below =
    map_agree after before to (All-weaker (λ s. s < mark) (λ s. after s ≡ before s) (λ s l. stays calls mark before after f h s l) to below)

pub vectors_stay : (calls : List Call) (mark : ℕ) (before after : State) (tos : List (List ℕ)) → All (λ s. mark ≤ s) (targets_of calls) → AreCalled calls before after → All (λ to. All (λ s. s < mark) to) tos → vectors after tos ≡ vectors before tos
vectors_stay calls mark before after tos f h below =
    map_agree (λ to. map after to) (λ to. map before to) tos
    (All-weaker (λ to. All (λ s. s < mark) to) (λ to. map after to ≡ map before to) (λ to l. vector_stays calls mark before after to f h l) tos below)

-- ---- nothing, and more

pub added_none : (mark : ℕ) → AreAdded mark [] mark 0
added_none mark = record {
  are_calls = All-nil IsCall;
  named = All-nil (λ slot. slot < mark);
  fresh = All-nil (λ slot. mark ≤ slot);
  grown = omega arith;
  paid = omega arith;
  stores = omega arith;
}

pub added_more : (m : ℕ) (c : List Call) (n most : ℕ) (d : List Call) (p more : ℕ) → AreAdded m c n most → AreAdded n d p more → AreAdded m (c ++ d) p (most + more)
added_more m c n most d p more a b =
    let total : length_of (c ++ d) ≡ length_of c + length_of d = sum_by-append call_cost c d in
    record {
      are_calls = All-append IsCall c d a.are_calls b.are_calls;
      named = subst (All (λ slot. slot < p)) (sym (flat_map-append call_slots c d))
          (All-append (λ slot. slot < p) (slots_of c) (slots_of d) (All-weaker (λ slot. slot < n) (λ slot. slot < p) (λ slot l. omega (arith, b.grown)) (slots_of c) a.named) b.named);
      fresh = subst (All (λ slot. m ≤ slot)) (sym (flat_map-append call_targets c d))
          (All-append (λ slot. m ≤ slot) (targets_of c) (targets_of d) a.fresh (All-weaker (λ slot. n ≤ slot) (λ slot. m ≤ slot) (λ slot l. omega (arith, a.grown)) (targets_of d) b.fresh));
      grown = omega (arith, a.grown, b.grown);
      paid = omega (arith, a.paid, b.paid, total);
      stores = omega (arith, a.stores, b.stores, total);
    }

pub added_within : (m : ℕ) (c : List Call) (n most more : ℕ) → most ≤ more → AreAdded m c n most → AreAdded m c n more
added_within m c n most more l a = record { are_calls = a.are_calls; named = a.named; fresh = a.fresh; grown = a.grown; paid = a.paid; stores = omega (arith, a.stores) }

pub values_none : (env : List ℕ) (mark : ℕ) → AreValues env mark [] [] mark 0 (λ state. [])
values_none env mark = record {
  added = added_none mark;
  below = All-nil (λ to. All (λ slot. slot < mark) to);
  values = λ before after state h k. refl;
}

-- an env stays one as slots are added
pub env_more : (env : List ℕ) (m n : ℕ) → m ≤ n → IsEnv env m → IsEnv env n
env_more env m n l e = record { constants = omega (arith, e.constants); below = All-weaker (λ slot. slot < m) (λ slot. slot < n) (λ slot k. omega arith) env e.below }

pub below_more : (m n : ℕ) (tos : List (List ℕ)) → m ≤ n → All (λ to. All (λ slot. slot < m) to) tos → All (λ to. All (λ slot. slot < n) to) tos
below_more m n tos l h =
    All-weaker (λ to. All (λ slot. slot < m) to) (λ to. All (λ slot. slot < n) to) (λ to k. All-weaker (λ slot. slot < m) (λ slot. slot < n) (λ slot j. omega arith) to k) tos h

pub values_more : (env : List ℕ) (m : ℕ) (c : List Call) (tos : List (List ℕ)) (n most : ℕ) (v : N.State → List BitList) (d : List Call) (others : List (List ℕ)) (p more : ℕ) (u : N.State → List BitList)
    → IsEnv env m → AreValues env m c tos n most v → AreValues env n d others p more u
    → AreValues env m (c ++ d) (tos ++ others) p (most + more) (λ state. v state ++ u state)
values_more env m c tos n most v d others p more u e a b = record {
  added = added_more m c n most d p more a.added b.added;
  below = All-append (λ to. All (λ slot. slot < p) to) tos others (below_more n p tos b.added.grown a.below) b.below;
  values = λ before after state holds called.
      let parts = called_parts c d before after called in
      let first : vectors parts.0 tos ≡ v state = a.values before parts.0 state holds parts.1 in
      let second : vectors after others ≡ u state = b.values parts.0 after state (holds_after env c m before parts.0 state e a.added.fresh parts.1 holds) parts.2 in
      map-append (λ to. map after to) tos others
      ∙ ap (λ (xs : List BitList). xs ++ vectors after others) (vectors_stay d n parts.0 after tos b.added.fresh parts.2 a.below ∙ first)
      ∙ ap (λ (xs : List BitList). v state ++ xs) second;
}

-- another list of slots for another function of the values, with no call
pub values_as : (env : List ℕ) (m : ℕ) (c : List Call) (tos : List (List ℕ)) (n most : ℕ) (v : N.State → List BitList) (others : List (List ℕ)) (more : ℕ) (u : N.State → List BitList)
    → IsEnv env m → AreValues env m c tos n most v → most ≤ more
    → All (λ to. All (λ slot. slot < n) to) others
    → ((slots : State) (state : N.State) → HasConstants slots → vectors slots tos ≡ v state → vectors slots others ≡ u state)
    → AreValues env m c others n more u
values_as env m c tos n most v others more u e a l below f = record {
  added = added_within m c n most more l a.added;
  below = below;
  values = λ before after state holds called.
      f after state (constants_stay c m before after e.constants a.added.fresh called holds.constants) (a.values before after state holds called);
}

-- ---- one call more

pub is_fresh_call : (kernel : AnyKernel) (args : List (List ℕ)) (mark w : ℕ)
    → takes kernel (map length args ++ w ∷ []) ≡ true → All (λ n. n < 2 ^ 32) (map length args ++ w ∷ []) → room_of kernel (map length args ++ w ∷ []) ≤ 0
    → mark + w ≤ 2 ^ 32 → All (λ to. All (λ slot. slot < mark) to) args
    → IsCall (fresh_call kernel args mark w)
is_fresh_call kernel args mark w t short r fits below =
    let call = fresh_call kernel args mark w in
    let same : map length args ++ w ∷ [] ≡ lengths_of call = ap (λ n. map length args ++ n ∷ []) (sym (length-range_with_len mark w)) in
    record {
      lengths = subst (λ ls. takes kernel ls ≡ true) same t;
      short = subst (All (λ n. n < 2 ^ 32)) same short;
      room = subst (λ ls. room_of kernel ls ≤ 0) same r;
      targets = record {
        to_below = range_below mark w (2 ^ 32) (omega arith);
        scratch_below = All-nil (λ slot. slot < 2 ^ 32);
        to_differ = range_different mark w;
        scratch_differ = record { place = λ j k l m e. absurd (omega arith) };
        both_apart = record { differ = λ j k l m e. absurd (omega arith) };
      };
      arguments = All-weaker (λ to. All (λ slot. slot < mark) to) (λ arg. IsArgument (2 ^ 32) arg (range_with_len mark w) [])
          (λ arg b. record {
            below = All-weaker (λ slot. slot < mark) (λ slot. slot < 2 ^ 32) (λ slot k. omega arith) arg b;
            to_apart = below_apart arg mark w b;
            scratch_apart = record { differ = λ j k l m e. absurd (omega arith) };
          }) args below;
    }

all_concat : (n : ℕ) (tos : List (List ℕ)) → All (λ to. All (λ slot. slot < n) to) tos → All (λ slot. slot < n) (concat tos)
all_concat n [] h = All-nil (λ slot. slot < n)
all_concat n (to ∷ tos) h =
    All-append (λ slot. slot < n) to (concat tos) (All-head (λ xs. All (λ slot. slot < n) xs) to tos h) (all_concat n tos (All-tail (λ xs. All (λ slot. slot < n) xs) to tos h))

pub added_call : (kernel : AnyKernel) (args : List (List ℕ)) (mark w more : ℕ)
    → IsCall (fresh_call kernel args mark w) → All (λ to. All (λ slot. slot < mark) to) args
    → w ≤ call_cost (fresh_call kernel args mark w) → call_cost (fresh_call kernel args mark w) ≤ more
    → AreAdded mark (fresh_call kernel args mark w ∷ []) (mark + w) more
added_call kernel args mark w more is below paid stores =
    let call = fresh_call kernel args mark w in
    let top = mark + w in
    let total : length_of (call ∷ []) ≡ call_cost call = sum_by-cons call_cost call [] ∙ omega arith in
    record {
      are_calls = All-cons IsCall call [] is (All-nil IsCall);
      named = All-append (λ slot. slot < top) (call_slots call) []
          (All-append (λ slot. slot < top) (concat args) (call.to ++ call.scratch)
          (All-weaker (λ slot. slot < mark) (λ slot. slot < top) (λ slot l. omega arith) (concat args) (all_concat mark args below))
          (All-append (λ slot. slot < top) call.to call.scratch (range_below mark w top (omega arith)) (All-nil (λ slot. slot < top))))
          (All-nil (λ slot. slot < top));
      fresh = All-append (λ slot. mark ≤ slot) (call_targets call) []
          (All-append (λ slot. mark ≤ slot) call.to call.scratch (range_from mark w mark (omega arith)) (All-nil (λ slot. mark ≤ slot)))
          (All-nil (λ slot. mark ≤ slot));
      grown = omega arith;
      paid = omega (arith, total);
      stores = omega (arith, total);
    }

pub values_call : (env : List ℕ) (m : ℕ) (c : List Call) (args : List (List ℕ)) (n most : ℕ) (v : N.State → List BitList) (kernel : AnyKernel) (w more : ℕ)
    → AreValues env m c args n most v
    → IsCall (fresh_call kernel args n w)
    → w ≤ call_cost (fresh_call kernel args n w) → call_cost (fresh_call kernel args n w) ≤ more
    → AreValues env m (c ++ fresh_call kernel args n w ∷ []) (range_with_len n w ∷ []) (n + w) (most + more) (λ state. operator_of kernel w (v state) ∷ [])
values_call env m c args n most v kernel w more a is paid stores =
    let call = fresh_call kernel args n w in
    let one = added_call kernel args n w more is a.below paid stores in
    record {
      added = added_more m c n most (call ∷ []) (n + w) more a.added one;
      below = All-cons (λ to. All (λ slot. slot < n + w) to) call.to [] (range_below n w (n + w) (omega arith)) (All-nil (λ to. All (λ slot. slot < n + w) to));
      values = λ before after state holds called.
          let parts = called_parts c (call ∷ []) before after called in
          let first : vectors parts.0 args ≡ v state = a.values before parts.0 state holds parts.1 in
          let done = one_called call parts.0 after parts.2 in
          ap (λ (x : BitList). x ∷ []) (done.value ∙ ap (λ k. operator_of kernel k (vectors parts.0 args)) (length-range_with_len n w) ∙ ap (operator_of kernel w) first);
    }
