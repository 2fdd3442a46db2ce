-- The indices of a target's parts.
use Rattle.std.proofs.Common.{◌≡◌, ℕ, zero, suc, ◌+◌, ◌<◌, ◌≤◌, true, List, [], ◌∷◌, ◌++◌, map, length, take, drop, get_or, sum_by, sym, ap, ap₂, ◌∙◌, subst, refl, arith, append-nil, Result, Ok, Err}
use Rattle.std.specs.Prelude.{IfOk}
use Rattle.std.specs.List.{All, flat_map}
use Rattle.std.proofs.lemmas.List.{take_more, length-map, map-append}
use Rattle.std.proofs.lemmas.List.Concat.{flat_map-append}
use Rattle.std.proofs.lemmas.List.Sums.{sum_by-append, sum_by-cons}
use Rattle.std.proofs.lemmas.List.Elements.{All-nil, All-cons, All-append, All-head, All-tail}
use Rattle.vs_four.specs.Logic.{BitList}
use Rattle.vs_net.specs.Network as N
use Rattle.vs_design.specs.Expressions.{Expression, Signal, width, sign}
use Rattle.vs_design.specs.Fits.{is_fit}
use Rattle.vs_design.specs.Values.{own_value}
use Rattle.vs_design.specs.Sizes.{weight}
use Rattle.vs_design.specs.Statements.{Target, Whole, PartOf, WordOf, WordPartOf}
use Rattle.vs_design.specs.TreeLaws.{ConstantValue}
use Rattle.vs_four.specs.Selects.{Part}
use Rattle.vs_lower.specs.declared.leaves.Leaf.{Leaf}
use Rattle.vs_values.specs.Added.{IsEnv, AreValues}
use Rattle.vs_values.specs.Coded.{Coding}
use Rattle.vs_lower.specs.Done.{index_values}
use Rattle.vs_values.specs.Ready.{IsReady}
use Rattle.vs_values.specs.Valued.{AddsValue}
use Rattle.vs_lower.specs.Written.{HasRoom, IsIndex, IsIndexed, AreIndexed, index_weight, AddsIndex, AddsIndices, AreReady, AddsBoth}
use Rattle.vs_values.proofs.Adding.{values_none, values_more, values_as, env_more}
use Rattle.vs_values.proofs.Readying.{stores_of, two_added}
use Rattle.vs_values.proofs.Taking.{index_is}
use Rattle.vs_design.specs.Within.{names_within}

-- ---- of one part

pub ready_index_of : (env : List ℕ) (code : Coding) (target : Target) (index : Expression) (w : ℕ) → w ≡ width index → is_fit index ≡ true → width index ≤ 64 → index_weight target ≡ weight index (width index)
    → names_within (length env) index ≡ true → HasRoom env code (index_weight target) → IsReady env code index w
ready_index_of env code target index w e f most weighs n r =
    subst (IsReady env code index) (sym e) (record { is_env = r.is_env; has_bits = n; fit = f; wide = omega arith; at_most_64 = most; light = omega (arith, r.light, weighs); slots = omega (arith, r.slots, weighs); few = omega (arith, r.few, weighs) })

pub adds_whole_index : (env : List ℕ) (code : Coding) (signal : Signal) (ti : List ℕ) (w : ℕ) → HasRoom env code w → ti ≡ [] → AddsIndex env code code (Whole signal) ti
adds_whole_index env code signal ti w r e =
    subst (AddsIndex env code code (Whole signal)) (sym e) (record {
      calls = [];
      is = sym (append-nil code.calls);
      values = values_as env code.next [] [] code.next 0 (λ state. []) ([] ∷ []) 0 (λ state. [] ∷ []) r.is_env (values_none env code.next) (omega arith)
          (All-cons (λ to. All (λ slot. slot < code.next) to) [] [] (All-nil (λ slot. slot < code.next)) (All-nil (λ to. All (λ slot. slot < code.next) to))) (λ slots state h k. refl);
      indexed = tt;
    })

index_known : ConstantValue → (env : List ℕ) (code after : Coding) (index : Expression) (ti : List ℕ) (v : AddsValue env code.calls code.next after.calls after.next index (width index) (sign index) ti) → IsIndex index ti
index_known law env code after index ti v = record { long = v.value.length; constant = v.value.constant; fixed = λ h. index_is law env code.next index v.calls ti after.next v.value h }

pub adds_part_index : ConstantValue → (env : List ℕ) (code after : Coding) (signal : Signal) (part : Part) (index : Expression) (ti : List ℕ)
    → AddsValue env code.calls code.next after.calls after.next index (width index) (sign index) ti → AddsIndex env code after (PartOf signal part index) ti
adds_part_index law env code after signal part index ti v = record { calls = v.calls; is = v.is; values = v.value.values; indexed = index_known law env code after index ti v }

pub adds_word_index : ConstantValue → (env : List ℕ) (code after : Coding) (signal : Signal) (index : Expression) (ti : List ℕ)
    → AddsValue env code.calls code.next after.calls after.next index (width index) (sign index) ti → AddsIndex env code after (WordOf signal index) ti
adds_word_index law env code after signal index ti v = record { calls = v.calls; is = v.is; values = v.value.values; indexed = index_known law env code after index ti v }

-- ---- of a part of a word, both

pub if_ok : {V W : Type 0} {P Q : V → Type 0} (r : Result V W) → IfOk r P → ((v : V) → P v → Q v) → IfOk r Q
if_ok (Ok v) h k = k v h
if_ok (Err e) h k = h

pub ready_first : (env : List ℕ) (code : Coding) (address index : Expression) (w : ℕ) → w ≡ width address → AreReady env code address index → IsReady env code address w
ready_first env code address index w e r =
    subst (IsReady env code address) (sym e) (record { is_env = r.room.is_env; has_bits = r.address_names; fit = r.address_fit; wide = omega arith; at_most_64 = r.address_most; light = omega (arith, r.room.light); slots = omega (arith, r.room.slots); few = omega (arith, r.room.few) })

pub ready_second : (env : List ℕ) (code middle : Coding) (address index : Expression) (ta : List ℕ) (w : ℕ) → w ≡ width index → AreReady env code address index → AddsValue env code.calls code.next middle.calls middle.next address (width address) (sign address) ta
    → IsReady env middle index w
ready_second env code middle address index ta w e r v =
    let added = v.value.values.added in
    subst (IsReady env middle index) (sym e) (record {
      is_env = env_more env code.next middle.next added.grown r.room.is_env;
      has_bits = r.index_names;
      fit = r.index_fit;
      wide = omega arith;
      at_most_64 = r.index_most;
      light = omega (arith, r.room.light);
      slots = omega (arith, r.room.slots, added.paid, added.stores);
      few = omega (arith, r.room.few, added.stores, stores_of code.calls v.calls middle.calls v.is);
    })

front : (n : ℕ) (xs ys : List ℕ) → length xs ≡ n → take n (xs ++ ys) ≡ xs
front zero [] ys l = refl
front zero (x ∷ xs) ys l = absurd (omega arith)
front (suc n) [] ys l = absurd (omega arith)
front (suc n) (x ∷ xs) ys l = ap (λ (zs : List ℕ). x ∷ zs) (front n xs ys (omega arith))

back : (n : ℕ) (xs ys : List ℕ) → length xs ≡ n → drop n (xs ++ ys) ≡ ys
back zero [] ys l = refl
back zero (x ∷ xs) ys l = absurd (omega arith)
back (suc n) [] ys l = absurd (omega arith)
back (suc n) (x ∷ xs) ys l = back n xs ys (omega arith)

two_lists : (a b x y : BitList) → (a ∷ b ∷ []) ≡ (x ∷ y ∷ []) → (a ≡ x) × (b ≡ y)
two_lists a b x y h = (cc, cc)

pub adds_word_part_index : ConstantValue → (env : List ℕ) (code after : Coding) (signal : Signal) (address : Expression) (part : Part) (index : Expression) (ti : List ℕ) → IsEnv env code.next
    → AddsBoth env code after address index ti → AddsIndex env code after (WordPartOf signal address part index) ti
adds_word_part_index law env code after signal address part index ti e b =
    let target = WordPartOf signal address part index in
    let u = b.first in
    let v = b.second in
    let n = after.next in
    let P : List ℕ → Type 0 = λ to. All (λ slot. slot < n) to in
    let both = values_more env code.next u.calls (b.ta ∷ []) b.middle.next (weight address (width address)) (λ state. own_value address state ∷ []) v.calls (b.tb ∷ []) n (weight index (width index)) (λ state. own_value index state ∷ []) e u.value.values v.value.values in
    let below : P (b.ta ++ b.tb) = All-append (λ slot. slot < n) b.ta b.tb (All-head P b.ta (b.tb ∷ []) both.below) (All-head P b.tb [] (All-tail P b.ta (b.tb ∷ []) both.below)) in
    subst (AddsIndex env code after target) (sym b.is) (record {
      calls = u.calls ++ v.calls;
      is = two_added code.calls u.calls v.calls b.middle.calls after.calls u.is v.is;
      values = values_as env code.next (u.calls ++ v.calls) (b.ta ∷ b.tb ∷ []) n (weight address (width address) + weight index (width index)) (λ state. own_value address state ∷ own_value index state ∷ []) ((b.ta ++ b.tb) ∷ []) (index_weight target)
          (λ state. index_values target state) e both (omega arith) (All-cons P (b.ta ++ b.tb) [] below (All-nil P))
          (λ slots state h k.
          let q = two_lists (map slots b.ta) (map slots b.tb) (own_value address state) (own_value index state) k in
          ap (λ (x : BitList). x ∷ []) (map-append slots b.ta b.tb ∙ ap₂ (λ (x y : BitList). x ++ y) q.0 q.1));
      indexed = (
        subst (IsIndex address) (sym (front (width address) b.ta b.tb u.value.length)) (index_known law env code b.middle address b.ta u),
        subst (IsIndex index) (sym (back (width address) b.ta b.tb u.value.length)) (index_known law env b.middle after index b.tb v),
      );
    })

-- ---- of several

pub adds_no_indices : (env : List ℕ) (code : Coding) (tis : List (List ℕ)) → tis ≡ [] → AddsIndices env code code [] tis
adds_no_indices env code tis e = subst (AddsIndices env code code []) (sym e) (record { calls = []; is = sym (append-nil code.calls); values = values_none env code.next; indexed = tt })

indexed_more : (ts : List Target) (tis : List (List ℕ)) (t : Target) (ti : List ℕ) → AreIndexed ts tis → IsIndexed t ti → AreIndexed (ts ++ t ∷ []) (tis ++ ti ∷ [])
indexed_more [] [] t ti h k = (k, tt)
indexed_more [] (x ∷ tis) t ti h k = absurd h
indexed_more (s ∷ ts) [] t ti h k = absurd h
indexed_more (s ∷ ts) (x ∷ tis) t ti h k = (h.0, indexed_more ts tis t ti h.1 k)

pub adds_index_more : (env : List ℕ) (code one two : Coding) (ts : List Target) (tis : List (List ℕ)) (t : Target) (ti : List ℕ) → IsEnv env code.next
    → AddsIndices env code one ts tis → AddsIndex env one two t ti → AddsIndices env code two (ts ++ t ∷ []) (tis ++ ti ∷ [])
adds_index_more env code one two ts tis t ti e p q =
    let W = λ (n : ℕ) (v : N.State → List BitList). AreValues env code.next (p.calls ++ q.calls) (tis ++ ti ∷ []) two.next n v in
    let both = values_more env code.next p.calls tis one.next (sum_by index_weight ts) (λ state. flat_map (λ x. index_values x state) ts) q.calls (ti ∷ []) two.next (index_weight t) (λ state. index_values t state) e p.values q.values in
    let total : sum_by index_weight (ts ++ t ∷ []) ≡ sum_by index_weight ts + index_weight t = sum_by-append index_weight ts (t ∷ []) ∙ omega (arith, sum_by-cons index_weight t []) in
    record {
      calls = p.calls ++ q.calls;
      is = two_added code.calls p.calls q.calls one.calls two.calls p.is q.is;
      values = values_as env code.next (p.calls ++ q.calls) (tis ++ ti ∷ []) two.next (sum_by index_weight ts + index_weight t) (λ state. flat_map (λ x. index_values x state) ts ++ index_values t state) (tis ++ ti ∷ []) (sum_by index_weight (ts ++ t ∷ []))
          (λ state. flat_map (λ x. index_values x state) (ts ++ t ∷ [])) e both (omega (arith, total)) both.below
          (λ slots state h k. k ∙ ap (λ (vs : List BitList). flat_map (λ x. index_values x state) ts ++ vs) (sym (append-nil (index_values t state))) ∙ sym (flat_map-append (λ x. index_values x state) ts (t ∷ [])));
      indexed = indexed_more ts tis t ti p.indexed q.indexed;
    }

-- ---- by the parts as they are kept

sums_more : (f : Target → ℕ) (g : Leaf → Target) (ls : List Leaf) (n : ℕ) (d : Leaf) → n < length ls → sum_by f (take n (map g ls)) + f (g (get_or ls n d)) ≤ sum_by f (map g ls)
sums_more f g [] n d l = absurd (omega arith)
sums_more f g (x ∷ ls) zero d l = omega (arith, sum_by-cons f (g x) (map g ls))
sums_more f g (x ∷ ls) (suc n) d l = omega (arith, sums_more f g ls n d (omega arith), sum_by-cons f (g x) (take n (map g ls)), sum_by-cons f (g x) (map g ls))

pub taken_leaf : (g : Leaf → Target) (ls : List Leaf) (n : ℕ) (d : Leaf) → n < length ls → take n (map g ls) ++ g (get_or ls n d) ∷ [] ≡ take (n + 1) (map g ls)
taken_leaf g ls n d l = ap (λ (t : Target). take n (map g ls) ++ t ∷ []) (sym (at g ls n d l)) ∙ sym (take_more (map g ls) n (g d) (omega (arith, length-map ls g)))
  where
    at : (g : Leaf → Target) (ls : List Leaf) (n : ℕ) (d : Leaf) → n < length ls → get_or (map g ls) n (g d) ≡ g (get_or ls n d)
    at g [] n d l = refl
    at g (x ∷ ls) zero d l = refl
    at g (x ∷ ls) (suc n) d l = at g ls n d (omega arith)

pub room_for_next : (env : List ℕ) (code one : Coding) (g : Leaf → Target) (ls : List Leaf) (tis : List (List ℕ)) (n : ℕ) (d : Leaf) → n < length ls
    → HasRoom env code (sum_by index_weight (map g ls)) → AddsIndices env code one (take n (map g ls)) tis → HasRoom env one (index_weight (g (get_or ls n d)))
room_for_next env code one g ls tis n d l r p =
    let more = sums_more index_weight g ls n d l in
    let added = p.values.added in
    record {
      is_env = env_more env code.next one.next added.grown r.is_env;
      light = omega (arith, r.light, more);
      slots = omega (arith, r.slots, more, added.paid, added.stores);
      few = omega (arith, r.few, more, added.stores, stores_of code.calls p.calls one.calls p.is);
    }
