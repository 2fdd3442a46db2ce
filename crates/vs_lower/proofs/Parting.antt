-- Writes under a bar to the parts of a target, one after the other.
use Rattle.std.proofs.Common.{◌≡◌, ◌⊎◌, inl, inr, ℕ, ◌+◌, ◌<◌, ◌≤◌, Bool, true, false, List, [], ◌∷◌, ◌++◌, if◌then◌else◌, map, drop, get_or, length, slice_index, sum_by, take, sym, ap, ◌∙◌, subst, refl, arith, true≢false}
use Rattle.std.specs.List.{All, Contains}
use Rattle.std.proofs.lemmas.List.{length-drop, length-map, length-take, map-append}
use Rattle.std.proofs.lemmas.List.Elements.{All-cons, All-head, All-nil, All-tail, All-take, All-weaker}
use Rattle.std.proofs.lemmas.List.Sums.{sum_by-append, sum_by-cons}
use Rattle.vs_four.specs.Logic.{BitList}
use Rattle.vs_net.specs.Network as N
use Rattle.vs_design.specs.Bodies.{target_writes}
use Rattle.vs_design.specs.Fits.{fits_target}
use Rattle.vs_design.specs.Footprints.{contains, target_bits}
use Rattle.vs_design.specs.Statements.{Target, Both, target_width}
use Rattle.vs_design.specs.Within.{target_within}
use Rattle.vs_flat.specs.Arena.{Arena}
use Rattle.vs_code.specs.Calls.{Call}
use Rattle.vs_lower.specs.declared.leaves.Leaf.{Leaf}
use Rattle.vs_values.specs.Added.{Holds, IsNew, vectors}
use Rattle.vs_values.specs.Coded.{Coding}
use Rattle.vs_values.specs.Templates.{Templated}
use Rattle.vs_lower.specs.Done.{index_values}
use Rattle.vs_lower.specs.Leaves.{IsInside, joined_target, leaf_target, leaves_of}
use Rattle.vs_lower.specs.Unless.{AddsUnlessWrite, AreUnlessWritesReady, IsUnlessWriteReady, IsWrittenUnless, is_barred, leaves_weight, unless_weight}
use Rattle.vs_lower.specs.Written.{AreIndexed, write_weight}
use Rattle.vs_values.proofs.Adding.{added_more, added_within, below_more, called_parts, vector_stays, vectors_stay}
use Rattle.vs_values.proofs.Readying.{stores_of, two_added}
use Rattle.vs_lower.proofs.Barring.{leaf_weighs, one_leaf}
use Rattle.vs_lower.proofs.Bars.{bar_stays}
use Rattle.vs_lower.proofs.Joining.{neither}
use Rattle.vs_lower.proofs.Placing.{write_all-append}
use Rattle.vs_lower.proofs.Rejoined.{all_drop, in_drop, one_index, width_joined}
use Rattle.vs_lower.proofs.Settling.{joined_width, joined_writes, leaf_widths, same_bits, same_indices, some_leaf}
use Rattle.vs_lower.proofs.Storing.{leaves_fit, leaves_within}
use Rattle.vs_lower.proofs.Targets.{in_take, map_drop, map_take, split_vectors}

-- ---- what the parts weigh together

pub joined_leaves : (a : Arena) (leaf : Leaf) (ls : List Leaf) → leaves_of (joined_target (map (leaf_target a) (leaf ∷ ls))) ≡ map (leaf_target a) (leaf ∷ ls)
joined_leaves a leaf [] = one_leaf a leaf
joined_leaves a leaf (next ∷ ls) =
    ap (λ (ts : List Target). ts ++ leaves_of (joined_target (map (leaf_target a) (next ∷ ls)))) (one_leaf a leaf) ∙ ap (λ (ts : List Target). leaf_target a leaf ∷ ts) (joined_leaves a next ls)

-- ---- two, the high one first

either_append : (q p : Bool) (base : N.State) (us vs : List N.Write) → p ≡ q
    → (if p then (if q then base else N.write_all base us) else N.write_all (if q then base else N.write_all base us) vs) ≡ (if q then base else N.write_all base (us ++ vs))
either_append true true base us vs e = refl
either_append true false base us vs e = absurd (true≢false (sym e))
either_append false true base us vs e = absurd (true≢false e)
either_append false false base us vs e = sym (write_all-append us vs base)

pub both_unless : (env : List ℕ) (mark : ℕ) (high low : Target) (th tl : List (List ℕ)) (tv : List ℕ) (bar : ℕ) (c : List Call) (env1 : List ℕ) (n : ℕ) (d : List Call) (env2 : List ℕ) (p : ℕ)
    → All (λ slot. slot < mark) tv → All (λ to. All (λ slot. slot < mark) to) tl → bar < mark
    → ((state : N.State) → length (index_values high state) ≡ length th)
    → IsWrittenUnless env mark high th (drop (target_width low) tv) bar c env1 n
    → IsWrittenUnless env1 n low tl (take (target_width low) tv) bar d env2 p
    → IsWrittenUnless env mark (Both high low) (th ++ tl) tv bar (c ++ d) env2 p
both_unless env mark high low th tl tv bar c env1 n d env2 p below_v below_l below_b long a b =
    let k = target_width low in
    record {
      added = added_within mark (c ++ d) p (unless_weight high + unless_weight low) (unless_weight (Both high low)) (omega (arith, sum_by-append write_weight (leaves_of high) (leaves_of low)))
          (added_more mark c n (unless_weight high) d p (unless_weight low) a.added b.added);
      is_env = b.is_env;
      same_length = b.same_length ∙ a.same_length;
      kept = λ bit h. let q = neither (target_bits high) (target_bits low) bit h in b.kept bit q.1 ∙ a.kept bit q.0;
      from = λ bit l. chain bit (b.from bit (omega (arith, l, a.same_length))) (a.from bit l);
      values = λ before after state base h is called.
          let parts = called_parts c d before after called in
          let mid = parts.0 in
          let v = map before tv in
          let q = is_barred bar before in
          let pieces = split_vectors (vectors before th) (vectors before tl) (index_values high state) (index_values low state) (length-map th (λ to. map before to) ∙ sym (long state)) (sym (map-append (λ to. map before to) th tl) ∙ is) in
          let first = a.values before mid state base h pieces.0 parts.1 in
          let high_v : map before (drop k tv) ≡ drop k v = map_drop before k tv in
          let low_v : map mid (take k tv) ≡ take k v = map_take mid k tv ∙ ap (take k) (vector_stays c mark before mid tv a.added.fresh parts.1 below_v) in
          let tl_is : vectors mid tl ≡ index_values low state = vectors_stay c mark before mid tl a.added.fresh parts.1 below_l ∙ pieces.1 in
          let bar_is : is_barred bar mid ≡ q = bar_stays c mark before mid bar a.added.fresh parts.1 below_b in
          let second = b.values mid after state (if q then base else N.write_all base (target_writes high (map before (drop k tv)) state)) first tl_is parts.2 in
          let E : BitList → BitList → N.State = λ x y.
          if is_barred bar mid then (if q then base else N.write_all base (target_writes high x state)) else N.write_all (if q then base else N.write_all base (target_writes high x state)) (target_writes low y state) in
          subst (λ (s : N.State). Holds env2 after s)
          (ap (λ (x : BitList). E x (map mid (take k tv))) high_v
          ∙ ap (λ (y : BitList). E (drop k v) y) low_v
          ∙ either_append q (is_barred bar mid) base (target_writes high (drop k v) state) (target_writes low (take k v) state) bar_is)
          second;
    }
  where
    new : (x : ℕ) → IsNew n x → IsNew mark x
    new x (inl h) = inl h
    new x (inr h) = inr (omega (arith, h, a.added.grown))

    up : (bit x : ℕ) → (x ≡ slice_index env1 bit) → (slice_index env1 bit ≡ slice_index env bit) ⊎ (Contains (drop (target_width low) tv) (slice_index env1 bit) ⊎ IsNew mark (slice_index env1 bit)) → (x ≡ slice_index env bit) ⊎ (Contains tv x ⊎ IsNew mark x)
    up bit x e (inl h) = inl (e ∙ h)
    up bit x e (inr (inl h)) = inr (inl (in_drop (target_width low) tv x (subst (λ y. Contains (drop (target_width low) tv) y) (sym e) h)))
    up bit x e (inr (inr h)) = inr (inr (subst (IsNew mark) (sym e) h))

    chain : (bit : ℕ) → (slice_index env2 bit ≡ slice_index env1 bit) ⊎ (Contains (take (target_width low) tv) (slice_index env2 bit) ⊎ IsNew n (slice_index env2 bit))
        → (slice_index env1 bit ≡ slice_index env bit) ⊎ (Contains (drop (target_width low) tv) (slice_index env1 bit) ⊎ IsNew mark (slice_index env1 bit))
        → (slice_index env2 bit ≡ slice_index env bit) ⊎ (Contains tv (slice_index env2 bit) ⊎ IsNew mark (slice_index env2 bit))
    chain bit (inl e) g = up bit (slice_index env2 bit) e g
    chain bit (inr (inl h)) g = inr (inl (in_take (target_width low) tv (slice_index env2 bit) h))
    chain bit (inr (inr h)) g = inr (inr (new (slice_index env2 bit) h))

-- ---- the write of the first part, and of the others

pub first_unless : (known : Templated) (env : List ℕ) (code : Coding) (leaves : List Leaf) (indices : List (List ℕ)) (value : List ℕ) (bar low : ℕ) (d : Leaf) (e : List ℕ)
    → AreUnlessWritesReady known env code leaves indices value bar → low + target_width (leaf_target known.arena (get_or leaves 0 d)) ≡ length value
    → IsUnlessWriteReady env code (leaf_target known.arena (get_or leaves 0 d)) (get_or indices 0 e ∷ []) (drop low value) bar
first_unless known env code [] indices value bar low d e r is = absurd (omega (arith, r.some))
first_unless known env code (x ∷ ls) [] value bar low d e r is = absurd r.indexed
first_unless known env code (x ∷ ls) (ti ∷ tis) value bar low d e r is =
    let g = leaf_target known.arena in
    let widths = sum_by-cons target_width (g x) (map g ls) in
    let weights = sum_by-cons write_weight (g x) (map g ls) in
    let weighs = leaf_weighs known.arena x in
    let P : List ℕ → Type 0 = λ to. All (λ slot. slot < code.next) to in
    record {
      is_env = r.room.is_env;
      names = All-head (λ leaf. target_within (length env) (g leaf) ≡ true) x ls r.names;
      fit = All-head (λ leaf. fits_target (g leaf) ≡ true) x ls r.fit;
      indexed = subst (λ (ts : List Target). AreIndexed ts (ti ∷ [])) (sym (one_leaf known.arena x)) (r.indexed.0, tt);
      long = omega (arith, length-drop low value, is);
      value_below = all_drop (λ slot. slot < code.next) low value r.value_below;
      at_below = All-cons P ti [] (All-head P ti tis r.at_below) (All-nil P);
      bar_below = r.bar_below;
      light = omega (arith, r.room.light, widths, weights, weighs);
      slots = omega (arith, r.room.slots, widths, weights, weighs);
      few = omega (arith, r.room.few, widths, weights, weighs);
    }

pub rest_unless : (known : Templated) (env env1 : List ℕ) (code code1 : Coding) (leaves : List Leaf) (indices : List (List ℕ)) (value : List ℕ) (bar low : ℕ) (d : Leaf) (ti tv : List ℕ)
    → 1 < length leaves → AreUnlessWritesReady known env code leaves indices value bar → low + target_width (leaf_target known.arena (get_or leaves 0 d)) ≡ length value
    → AddsUnlessWrite env env1 code code1 (leaf_target known.arena (get_or leaves 0 d)) (ti ∷ []) tv bar
    → AreUnlessWritesReady known env1 code1 (drop 1 leaves) (drop 1 indices) (take low value) bar
rest_unless known env env1 code code1 [] indices value bar low d ti tv some r is p = absurd (omega (arith, some))
rest_unless known env env1 code code1 (x ∷ ls) [] value bar low d ti tv some r is p = absurd r.indexed
rest_unless known env env1 code code1 (x ∷ ls) (ti0 ∷ tis) value bar low d ti tv some r is p =
    let g = leaf_target known.arena in
    let widths = sum_by-cons target_width (g x) (map g ls) in
    let weights = sum_by-cons write_weight (g x) (map g ls) in
    let weighs = leaf_weighs known.arena x in
    let added = p.written.added in
    record {
      some = omega (arith, some);
      inside = All-tail (IsInside known) x ls r.inside;
      names = All-tail (λ leaf. target_within (length env1) (g leaf) ≡ true) x ls (subst (λ (n : ℕ). All (λ leaf. target_within n (g leaf) ≡ true) (x ∷ ls)) (sym p.written.same_length) r.names);
      fit = All-tail (λ leaf. fits_target (g leaf) ≡ true) x ls r.fit;
      room = record {
        is_env = p.written.is_env;
        light = omega (arith, r.room.light, widths, weights);
        slots = omega (arith, r.room.slots, widths, weights, weighs, added.paid, added.stores);
        few = omega (arith, r.room.few, widths, weights, weighs, added.stores, stores_of code.calls p.calls code1.calls p.is);
      };
      long = omega (arith, length-take low value, is, r.long, widths);
      value_below = All-take (λ slot. slot < code1.next) low value (All-weaker (λ slot. slot < code.next) (λ slot. slot < code1.next) (λ slot l. omega (arith, l, added.grown)) value r.value_below);
      at_below = below_more code.next code1.next tis added.grown (All-tail (λ to. All (λ slot. slot < code.next) to) ti0 tis r.at_below);
      indexed = r.indexed.1;
      bar_below = omega (arith, r.bar_below, added.grown);
    }

pub more_unless : (known : Templated) (env env1 env2 : List ℕ) (code code1 code2 : Coding) (leaves : List Leaf) (indices : List (List ℕ)) (value : List ℕ) (bar low : ℕ) (d : Leaf) (e : List ℕ)
    → 1 < length leaves → AreUnlessWritesReady known env code leaves indices value bar → low + target_width (leaf_target known.arena (get_or leaves 0 d)) ≡ length value
    → AddsUnlessWrite env env1 code code1 (leaf_target known.arena (get_or leaves 0 d)) (get_or indices 0 e ∷ []) (drop low value) bar
    → AddsUnlessWrite env1 env2 code1 code2 (joined_target (map (leaf_target known.arena) (drop 1 leaves))) (drop 1 indices) (take low value) bar
    → AddsUnlessWrite env env2 code code2 (joined_target (map (leaf_target known.arena) leaves)) indices value bar
more_unless known env env1 env2 code code1 code2 [] indices value bar low d e some r is p q = absurd (omega (arith, some))
more_unless known env env1 env2 code code1 code2 (x ∷ []) indices value bar low d e some r is p q = absurd (omega (arith, some))
more_unless known env env1 env2 code code1 code2 (x ∷ y ∷ ls) [] value bar low d e some r is p q = absurd r.indexed
more_unless known env env1 env2 code code1 code2 (x ∷ y ∷ ls) (ti ∷ tis) value bar low d e some r is p q =
    let g = leaf_target known.arena in
    let rest = joined_target (map g (y ∷ ls)) in
    let w : low ≡ target_width rest = omega (arith, is, r.long, width_joined (g y) (map g ls), sum_by-cons target_width (g x) (map g (y ∷ ls))) in
    let pw : IsWrittenUnless env code.next (g x) (ti ∷ []) (drop (target_width rest) value) bar p.calls env1 code1.next = subst (λ (k : ℕ). IsWrittenUnless env code.next (g x) (ti ∷ []) (drop k value) bar p.calls env1 code1.next) w p.written in
    let qw : IsWrittenUnless env1 code1.next rest tis (take (target_width rest) value) bar q.calls env2 code2.next = subst (λ (k : ℕ). IsWrittenUnless env1 code1.next rest tis (take k value) bar q.calls env2 code2.next) w q.written in
    record {
      calls = p.calls ++ q.calls;
      is = two_added code.calls p.calls q.calls code1.calls code2.calls p.is q.is;
      written = both_unless env code.next (g x) rest (ti ∷ []) tis value bar p.calls env1 code1.next q.calls env2 code2.next r.value_below (All-tail (λ to. All (λ slot. slot < code.next) to) ti tis r.at_below) r.bar_below
          (λ state. one_index known.arena x state) pw qw;
    }

-- where there is no other
pub one_unless : (known : Templated) (env env1 : List ℕ) (code code1 : Coding) (leaves : List Leaf) (indices : List (List ℕ)) (value : List ℕ) (bar low : ℕ) (d : Leaf) (e : List ℕ)
    → (1 < length leaves → ⊥) → AreUnlessWritesReady known env code leaves indices value bar → low + target_width (leaf_target known.arena (get_or leaves 0 d)) ≡ length value
    → AddsUnlessWrite env env1 code code1 (leaf_target known.arena (get_or leaves 0 d)) (get_or indices 0 e ∷ []) (drop low value) bar
    → AddsUnlessWrite env env1 code code1 (joined_target (map (leaf_target known.arena) leaves)) indices value bar
one_unless known env env1 code code1 [] indices value bar low d e one r is p = absurd (omega (arith, r.some))
one_unless known env env1 code code1 (x ∷ y ∷ ls) indices value bar low d e one r is p = absurd (one (omega arith))
one_unless known env env1 code code1 (x ∷ []) [] value bar low d e one r is p = absurd r.indexed
one_unless known env env1 code code1 (x ∷ []) (ti ∷ j ∷ js) value bar low d e one r is p = absurd r.indexed.1
one_unless known env env1 code code1 (x ∷ []) (ti ∷ []) value bar low d e one r is p =
    let g = leaf_target known.arena in
    let none : low ≡ 0 = omega (arith, is, r.long, sum_by-cons target_width (g x) []) in
    subst (λ (k : ℕ). AddsUnlessWrite env env1 code code1 (g x) (ti ∷ []) (drop k value) bar) none p

-- ---- the target

pub all_ready : (known : Templated) (env : List ℕ) (code : Coding) (t : Target) (leaves : List Leaf) (at : List (List ℕ)) (value : List ℕ) (bar : ℕ) → map (leaf_target known.arena) leaves ≡ leaves_of t → All (IsInside known) leaves
    → IsUnlessWriteReady env code t at value bar → AreUnlessWritesReady known env code leaves at value bar
all_ready known env code t leaves at value bar are inside r =
    let a = known.arena in
    let same : leaves_weight (map (leaf_target a) leaves) ≡ leaves_weight (leaves_of t) = ap leaves_weight are in
    let widths = leaf_widths t in
    record {
      some = omega (arith, length-map leaves (leaf_target a), ap length are, some_leaf t);
      inside = inside;
      names = leaves_within (length env) a t leaves r.names are;
      fit = leaves_fit a t leaves r.fit are;
      room = record { is_env = r.is_env; light = omega (arith, r.light, same, widths); slots = omega (arith, r.slots, same, widths); few = omega (arith, r.few, same, widths) };
      long = r.long ∙ leaf_widths t ∙ ap (sum_by target_width) (sym are);
      value_below = r.value_below;
      at_below = r.at_below;
      indexed = subst (λ (ts : List Target). AreIndexed ts at) (sym are) r.indexed;
      bar_below = r.bar_below;
    }

-- what is written to the parts is written to the target
pub all_written : (a : Arena) (env env1 : List ℕ) (code code1 : Coding) (t : Target) (leaves : List Leaf) (at : List (List ℕ)) (value : List ℕ) (bar : ℕ) → map (leaf_target a) leaves ≡ leaves_of t
    → AddsUnlessWrite env env1 code code1 (joined_target (map (leaf_target a) leaves)) at value bar → AddsUnlessWrite env env1 code code1 t at value bar
all_written a env env1 code code1 t leaves at value bar are w =
    let u = joined_target (map (leaf_target a) leaves) in
    let d = w.written in
    let v : u ≡ joined_target (leaves_of t) = ap joined_target are in
    let width : target_width u ≡ target_width t = ap target_width v ∙ joined_width (leaves_of t) (some_leaf t) ∙ sym (leaf_widths t) in
    let weight : sum_by write_weight (leaves_of u) ≡ sum_by write_weight (leaves_of t) = ap (sum_by write_weight) (again leaves (omega (arith, length-map leaves (leaf_target a), ap length are, some_leaf t)) ∙ are) in
    record {
      calls = w.calls;
      is = w.is;
      written = record {
        added = added_within code.next w.calls code1.next (unless_weight u) (unless_weight t) (omega (arith, width, weight)) d.added;
        is_env = d.is_env;
        same_length = d.same_length;
        kept = λ b h. d.kept b (ap (λ (x : Target). contains (target_bits x) b) v ∙ ap (λ (bs : List ℕ). contains bs b) (sym (same_bits t)) ∙ h);
        from = d.from;
        values = λ before after state base h is called.
            subst (λ (ws : List N.Write). Holds env1 after (if is_barred bar before then base else N.write_all base ws)) (ap (λ (x : Target). target_writes x (map before value) state) v ∙ sym (joined_writes t (map before value) state))
            (d.values before after state base h (is ∙ same_indices t state ∙ ap (λ (x : Target). index_values x state) (sym v)) called);
      };
    }
  where
    again : (ls : List Leaf) → 1 ≤ length ls → leaves_of (joined_target (map (leaf_target a) ls)) ≡ map (leaf_target a) ls
    again [] l = absurd (omega (arith, l))
    again (x ∷ ls) l = joined_leaves a x ls
