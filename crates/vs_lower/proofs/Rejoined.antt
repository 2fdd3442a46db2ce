-- A target as the concatenation of its parts.
use Rattle.std.proofs.Common.{◌≡◌, ℕ, zero, suc, ◌+◌, ◌-◌, ◌<◌, ◌≤◌, true, List, [], ◌∷◌, ◌++◌, map, length, take, drop, get_or, sum_by, sym, ap, ◌∙◌, subst, refl, arith}
use Rattle.std.specs.List.{All, Contains}
use Rattle.std.proofs.lemmas.List.{length-take}
use Rattle.std.proofs.lemmas.List.Sums.{sum_by-cons}
use Rattle.std.proofs.lemmas.List.Elements.{All-tail, All-take, All-weaker, Contains-append_right}
use Rattle.vs_net.specs.Network as N
use Rattle.vs_design.specs.Fits.{fits_target}
use Rattle.vs_design.specs.Statements.{Target, Both, target_width}
use Rattle.vs_flat.specs.Arena.{Arena}
use Rattle.vs_lower.specs.declared.leaves.Leaf.{Leaf}
use Rattle.vs_lower.specs.declared.leaves.Leaf.TheVariants as L
use Rattle.vs_values.specs.Coded.{Coding}
use Rattle.vs_lower.specs.Done.{index_values, IsWritten}
use Rattle.vs_lower.specs.Leaves.{joined_target, leaf_target, IsInside}
use Rattle.vs_lower.specs.Written.{HasRoom, AreIndexed, AddsWrites, write_weight}
use Rattle.vs_values.proofs.Adding.{below_more}
use Rattle.vs_values.proofs.Readying.{stores_of, two_added}
use Rattle.vs_lower.proofs.Targets.{both_written}
use Rattle.vs_design.specs.Within.{target_within}
use Rattle.vs_values.specs.Templates.{Templated}

pub width_joined : (t : Target) (ts : List Target) → target_width (joined_target (t ∷ ts)) ≡ sum_by target_width (t ∷ ts)
width_joined t [] = sym (sum_by-cons target_width t [] ∙ omega arith)
width_joined t (u ∷ ts) = ap (λ (n : ℕ). target_width t + n) (width_joined u ts) ∙ sym (sum_by-cons target_width t (u ∷ ts))

pub one_index : (a : Arena) (leaf : Leaf) (state : N.State) → length (index_values (leaf_target a leaf) state) ≡ 1
one_index a (L.Whole signal) state = refl
one_index a (L.Select signal range up width index) state = refl
one_index a (L.Word signal index) state = refl
one_index a (L.WordPart signal address range up width index) state = refl

pub in_drop : (n : ℕ) (xs : List ℕ) (x : ℕ) → Contains (drop n xs) x → Contains xs x
in_drop zero xs x c = c
in_drop (suc n) [] x c = c
in_drop (suc n) (y ∷ xs) x c = Contains-append_right (y ∷ []) xs x (in_drop n xs x c)

pub all_drop : {X : Type 0} (P : X → Type 0) (n : ℕ) (xs : List X) → All P xs → All P (drop n xs)
all_drop P zero xs h = h
all_drop P (suc n) [] h = h
all_drop P (suc n) (x ∷ xs) h = all_drop P n xs (All-tail P x xs h)

-- ---- the write of the first part, and of the others

pub writes_more : (a : Arena) (env env1 env2 : List ℕ) (code code1 code2 : Coding) (leaves : List Leaf) (indices : List (List ℕ)) (value : List ℕ) (low : ℕ) (d : Leaf) (e : List ℕ)
    → 1 < length leaves → AreIndexed (map (leaf_target a) leaves) indices → length value ≡ sum_by target_width (map (leaf_target a) leaves) → low + target_width (leaf_target a (get_or leaves 0 d)) ≡ length value
    → All (λ slot. slot < code.next) value → All (λ ti. All (λ slot. slot < code.next) ti) indices
    → AddsWrites env env1 code code1 (leaf_target a (get_or leaves 0 d)) (get_or indices 0 e ∷ []) (drop low value) (write_weight (leaf_target a (get_or leaves 0 d)))
    → AddsWrites env1 env2 code1 code2 (joined_target (map (leaf_target a) (drop 1 leaves))) (drop 1 indices) (take low value) (sum_by write_weight (map (leaf_target a) (drop 1 leaves)))
    → AddsWrites env env2 code code2 (joined_target (map (leaf_target a) leaves)) indices value (sum_by write_weight (map (leaf_target a) leaves))
writes_more a env env1 env2 code code1 code2 [] indices value low d e some i long is bv bi p q = absurd (omega arith)
writes_more a env env1 env2 code code1 code2 (x ∷ []) indices value low d e some i long is bv bi p q = absurd (omega arith)
writes_more a env env1 env2 code code1 code2 (x ∷ y ∷ ls) [] value low d e some i long is bv bi p q = absurd i
writes_more a env env1 env2 code code1 code2 (x ∷ y ∷ ls) (ti ∷ tis) value low d e some i long is bv bi p q =
    let g = leaf_target a in
    let rest = joined_target (map g (y ∷ ls)) in
    let more = sum_by write_weight (map g (y ∷ ls)) in
    let w : low ≡ target_width rest = omega (arith, is, long, width_joined (g y) (map g ls), sum_by-cons target_width (g x) (map g (y ∷ ls))) in
    let pw : IsWritten env code.next (g x) (ti ∷ []) (drop (target_width rest) value) (write_weight (g x)) p.calls env1 code1.next = subst (λ (k : ℕ). IsWritten env code.next (g x) (ti ∷ []) (drop k value) (write_weight (g x)) p.calls env1 code1.next) w p.written in
    let qw : IsWritten env1 code1.next rest tis (take (target_width rest) value) more q.calls env2 code2.next = subst (λ (k : ℕ). IsWritten env1 code1.next rest tis (take k value) more q.calls env2 code2.next) w q.written in
    let both = both_written env code.next (g x) rest (ti ∷ []) tis value p.calls env1 code1.next (write_weight (g x)) q.calls env2 code2.next more bv (All-tail (λ ti. All (λ slot. slot < code.next) ti) ti tis bi)
    (λ state. one_index a x state) pw qw (λ s c. in_drop (target_width rest) value s c) in
    record {
      calls = p.calls ++ q.calls;
      is = two_added code.calls p.calls q.calls code1.calls code2.calls p.is q.is;
      written = subst (λ (n : ℕ). IsWritten env code.next (Both (g x) rest) (ti ∷ tis) value n (p.calls ++ q.calls) env2 code2.next) (sym (sum_by-cons write_weight (g x) (map g (y ∷ ls)))) both;
      few = λ h. absurd (h tt);
    }

-- where there is no other
pub writes_one : (a : Arena) (env env1 : List ℕ) (code code1 : Coding) (leaves : List Leaf) (indices : List (List ℕ)) (value : List ℕ) (low : ℕ) (d : Leaf) (e : List ℕ)
    → (1 < length leaves → ⊥) → 1 ≤ length leaves → AreIndexed (map (leaf_target a) leaves) indices → length value ≡ sum_by target_width (map (leaf_target a) leaves) → low + target_width (leaf_target a (get_or leaves 0 d)) ≡ length value
    → AddsWrites env env1 code code1 (leaf_target a (get_or leaves 0 d)) (get_or indices 0 e ∷ []) (drop low value) (write_weight (leaf_target a (get_or leaves 0 d)))
    → AddsWrites env env1 code code1 (joined_target (map (leaf_target a) leaves)) indices value (sum_by write_weight (map (leaf_target a) leaves))
writes_one a env env1 code code1 [] indices value low d e one some i long is p = absurd (omega (arith, some))
writes_one a env env1 code code1 (x ∷ y ∷ ls) indices value low d e one some i long is p = absurd (one (omega arith))
writes_one a env env1 code code1 (x ∷ []) [] value low d e one some i long is p = absurd i
writes_one a env env1 code code1 (x ∷ []) (ti ∷ j ∷ js) value low d e one some i long is p = absurd i.1
writes_one a env env1 code code1 (x ∷ []) (ti ∷ []) value low d e one some i long is p =
    let t = leaf_target a x in
    let none : low ≡ 0 = omega (arith, is, long, sum_by-cons target_width t []) in
    let weight : write_weight t ≡ sum_by write_weight (t ∷ []) = omega (arith, sum_by-cons write_weight t []) in
    subst (λ (k : ℕ). AddsWrites env env1 code code1 t (ti ∷ []) (drop k value) (sum_by write_weight (t ∷ []))) none (subst (λ (n : ℕ). AddsWrites env env1 code code1 t (ti ∷ []) (drop low value) n) weight p)

-- what the others need, for these lists
pub record RestReady (known : Templated) (env1 : List ℕ) (code1 : Coding) (top : ℕ) (leaves : List Leaf) (indices : List (List ℕ)) (value : List ℕ) : Type 0 where
  pub some : 1 ≤ length leaves
  pub fewer : length leaves < top
  pub inside : All (IsInside known) leaves
  pub names : All (λ leaf. target_within (length env1) (leaf_target known.arena leaf) ≡ true) leaves
  pub fit : All (λ leaf. fits_target (leaf_target known.arena leaf) ≡ true) leaves
  pub room : HasRoom env1 code1 (sum_by write_weight (map (leaf_target known.arena) leaves))
  pub long : length value ≡ sum_by target_width (map (leaf_target known.arena) leaves)
  pub value_below : All (λ slot. slot < code1.next) value
  pub indices_below : All (λ ti. All (λ slot. slot < code1.next) ti) indices
  pub indexed : AreIndexed (map (leaf_target known.arena) leaves) indices

pub suffix_is : {X : Type 0} (n : ℕ) (xs : List X) → take (length xs - n) (drop n xs) ≡ drop n xs
suffix_is zero xs = let z : length xs - 0 ≡ length xs = omega arith in ap (λ k. take k xs) z ∙ whole xs
  where
    whole : {X : Type 0} (ys : List X) → take (length ys) ys ≡ ys
    whole [] = refl
    whole (y ∷ ys) = ap (λ zs. y ∷ zs) (whole ys)
suffix_is (suc n) [] = none (0 - suc n)
  where
    none : {X : Type 0} (k : ℕ) → take {A = X} k [] ≡ []
    none zero = refl
    none (suc k) = refl
suffix_is (suc n) (x ∷ xs) = let z : suc (length xs) - suc n ≡ length xs - n = omega arith in ap (λ k. take k (drop n xs)) z ∙ suffix_is n xs

pub rest_ready : (known : Templated) (env env1 : List ℕ) (code code1 : Coding) (leaves : List Leaf) (indices : List (List ℕ)) (value : List ℕ) (low : ℕ) (d : Leaf) (ti tv : List ℕ)
    → 1 < length leaves → All (IsInside known) leaves → All (λ leaf. target_within (length env) (leaf_target known.arena leaf) ≡ true) leaves → All (λ leaf. fits_target (leaf_target known.arena leaf) ≡ true) leaves → HasRoom env code (sum_by write_weight (map (leaf_target known.arena) leaves))
    → length value ≡ sum_by target_width (map (leaf_target known.arena) leaves) → low + target_width (leaf_target known.arena (get_or leaves 0 d)) ≡ length value
    → All (λ slot. slot < code.next) value → All (λ ti. All (λ slot. slot < code.next) ti) indices → AreIndexed (map (leaf_target known.arena) leaves) indices
    → AddsWrites env env1 code code1 (leaf_target known.arena (get_or leaves 0 d)) (ti ∷ []) tv (write_weight (leaf_target known.arena (get_or leaves 0 d)))
    → RestReady known env1 code1 (length leaves) (drop 1 leaves) (drop 1 indices) (take low value)
rest_ready known env env1 code code1 [] indices value low d ti tv some inside names fit room long is bv bi i p = absurd (omega arith)
rest_ready known env env1 code code1 (x ∷ ls) [] value low d ti tv some inside names fit room long is bv bi i p = absurd i
rest_ready known env env1 code code1 (x ∷ ls) (ti0 ∷ tis) value low d ti tv some inside names fit room long is bv bi i p =
    let g = leaf_target known.arena in
    let total = sum_by-cons write_weight (g x) (map g ls) in
    let added = p.written.added in
    record {
      some = omega arith;
      fewer = omega arith;
      inside = All-tail (IsInside known) x ls inside;
      names = All-tail (λ leaf. target_within (length env1) (g leaf) ≡ true) x ls (subst (λ (n : ℕ). All (λ leaf. target_within n (g leaf) ≡ true) (x ∷ ls)) (sym p.written.same_length) names);
      fit = All-tail (λ leaf. fits_target (g leaf) ≡ true) x ls fit;
      room = record {
        is_env = p.written.is_env;
        light = omega (arith, room.light, total);
        slots = omega (arith, room.slots, total, added.paid, added.stores);
        few = omega (arith, room.few, total, added.stores, stores_of code.calls p.calls code1.calls p.is);
      };
      long = omega (arith, length-take low value, is, long, sum_by-cons target_width (g x) (map g ls));
      value_below = All-take (λ slot. slot < code1.next) low value (All-weaker (λ slot. slot < code.next) (λ slot. slot < code1.next) (λ slot l. omega (arith, added.grown)) value bv);
      indices_below = below_more code.next code1.next tis added.grown (All-tail (λ ti. All (λ slot. slot < code.next) ti) ti0 tis bi);
      indexed = i.1;
    }

pub rest_as : (known : Templated) (env1 : List ℕ) (code1 : Coding) (top : ℕ) (ls ms : List Leaf) (is js : List (List ℕ)) (value : List ℕ) → ls ≡ ms → is ≡ js → RestReady known env1 code1 top ms js value → RestReady known env1 code1 top ls is value
rest_as known env1 code1 top ls ms is js value p q h = subst (λ (x : List Leaf). RestReady known env1 code1 top x is value) (sym p) (subst (λ (x : List (List ℕ)). RestReady known env1 code1 top ms x value) (sym q) h)
