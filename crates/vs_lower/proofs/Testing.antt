-- The tests of an arm's items, one after the other.
use Rattle.std.proofs.Common.{◌≡◌, ℕ, zero, suc, ◌+◌, ◌<◌, ◌≤◌, ◌^◌, Bool, true, List, [], ◌∷◌, ◌++◌, length, take, get_or, sym, ap, ◌∙◌, subst, arith, append-nil, append_assoc, length-append}
use Rattle.std.specs.List.{All, range_with_len}
use Rattle.std.proofs.lemmas.List.{take_more}
use Rattle.std.proofs.lemmas.List.Sums.{sum_by-append, sum_by-cons}
use Rattle.std.proofs.lemmas.List.Elements.{All-nil, All-cons, All-weaker}
use Rattle.vs_design.specs.Expressions.{Expression, items_of}
use Rattle.vs_design.specs.Sizes.{weight, items_weight}
use Rattle.vs_design.specs.Statements.{CaseKind}
use Rattle.vs_code.specs.Kernels.{takes}
use Rattle.vs_code.specs.Calls.{Call, call_cost, length_of}
use Rattle.vs_values.specs.Added.{fresh_call}
use Rattle.vs_lower.specs.Cases.{matches_of, match_kernel}
use Rattle.vs_values.specs.Coded.{Coding, with_call}
use Rattle.vs_lower.specs.Done.{IsCondition}
use Rattle.vs_values.specs.Made.{IsCallable}
use Rattle.vs_values.specs.Ready.{IsReady}
use Rattle.vs_lower.specs.Tested.{AreTestsReady, AddsTests}
use Rattle.vs_values.specs.Valued.{AddsValue}
use Rattle.vs_values.proofs.Adding.{env_more, is_fresh_call}
use Rattle.vs_lower.proofs.Matching.{tests_none, tests_more, match_takes, match_room, match_cost}
use Rattle.vs_values.proofs.Readying.{stores_of}

items_more : (es : List Expression) (e : Expression) (w : ℕ) → items_weight (items_of (es ++ e ∷ [])) w ≡ items_weight (items_of es) w + (weight e w + (w + 1))
items_more [] e w = omega arith
items_more (x ∷ es) e w = omega (arith, items_more es e w)

items_at : (es : List Expression) (w n : ℕ) (d : Expression) → n < length es → items_weight (items_of (take n es)) w + (weight (get_or es n d) w + (w + 1)) ≤ items_weight (items_of es) w
items_at [] w n d l = absurd (omega arith)
items_at (x ∷ es) w zero d l = omega arith
items_at (x ∷ es) w (suc n) d l = omega (arith, items_at es w n d (omega arith))

-- the stores and the slots so far
so_far : (env subject : List ℕ) (code one : Coding) (kind : CaseKind) (w : ℕ) (s : Bool) (items : List Expression) (ms : List ℕ) → AddsTests env subject code one kind w s items ms
    → (one.next ≤ code.next + items_weight (items_of items) w) × (length_of one.calls ≤ length_of code.calls + items_weight (items_of items) w) × (code.next ≤ one.next)
so_far env subject code one kind w s items ms a =
    let added = (a.condition (λ state. [])).added in
    (omega (arith, added.paid, added.stores), omega (arith, added.stores, stores_of code.calls a.calls one.calls a.is), added.grown)

pub no_tests : (env subject : List ℕ) (code : Coding) (kind : CaseKind) (w : ℕ) (s : Bool) (ms : List ℕ) → ms ≡ [] → AddsTests env subject code code kind w s [] ms
no_tests env subject code kind w s ms e =
    subst (AddsTests env subject code code kind w s []) (sym e) (record { calls = []; is = sym (append-nil code.calls); few = omega arith; condition = λ sv. tests_none env subject sv code.next kind w s })

pub ready_item : (env subject : List ℕ) (code one : Coding) (kind : CaseKind) (w : ℕ) (s : Bool) (items : List Expression) (ms : List ℕ) (n : ℕ) (d : Expression) → n < length items
    → AreTestsReady env subject code items w → AddsTests env subject code one kind w s (take n items) ms → IsReady env one (get_or items n d) w
ready_item env subject code one kind w s items ms n d l r a =
    let f = so_far env subject code one kind w s (take n items) ms a in
    let at = items_at items w n d l in
    record {
      is_env = env_more env code.next one.next f.2 r.is_env;
      has_bits = r.names n d l;
      fit = r.fit n d l;
      wide = r.wide n d l;
      at_most_64 = r.at_most_64;
      light = omega (arith, r.light, at);
      slots = omega (arith, r.slots, f.0, at);
      few = omega (arith, r.few, f.1, at);
    }

pub callable_match : (env subject : List ℕ) (code one two : Coding) (kind : CaseKind) (w : ℕ) (s : Bool) (items : List Expression) (ms te : List ℕ) (n : ℕ) (d : Expression) → n < length items
    → AreTestsReady env subject code items w → AddsTests env subject code one kind w s (take n items) ms → AddsValue env one.calls one.next two.calls two.next (get_or items n d) w s te
    → IsCallable two (match_kernel kind) (subject ∷ te ∷ []) 1
callable_match env subject code one two kind w s items ms te n d l r a v =
    let f = so_far env subject code one kind w s (take n items) ms a in
    let at = items_at items w n d l in
    let added = v.value.values.added in
    let kernel = match_kernel kind in
    let same : (w ∷ w ∷ 1 ∷ []) ≡ (length subject ∷ length te ∷ 1 ∷ []) = ap (λ (k : ℕ). k ∷ w ∷ 1 ∷ []) (sym r.long) ∙ ap (λ (k : ℕ). length subject ∷ k ∷ 1 ∷ []) (sym v.value.length) in
    let Q : ℕ → Type 0 = λ k. k < 2 ^ 32 in
    let P : List ℕ → Type 0 = λ to. All (λ slot. slot < two.next) to in
    let short : w < 2 ^ 32 = omega (arith, r.at_most_64) in
    let below : P subject = All-weaker (λ slot. slot < code.next) (λ slot. slot < two.next) (λ slot h. omega (arith, f.2, added.grown)) subject r.below in
    record {
      is = is_fresh_call kernel (subject ∷ te ∷ []) two.next 1 (subst (λ ls. takes kernel ls ≡ true) same (match_takes kind w r.some)) (subst (All Q) same (All-cons Q w (w ∷ 1 ∷ []) short (All-cons Q w (1 ∷ []) short (All-cons Q 1 [] (omega arith) (All-nil Q)))))
          (omega (arith, match_room kind (length subject ∷ length te ∷ 1 ∷ []))) (omega (arith, r.slots, f.0, at, added.paid, added.stores)) (All-cons P subject (te ∷ []) below v.value.values.below);
      slots = omega (arith, r.slots, f.0, at, added.paid, added.stores);
      few = omega (arith, r.few, f.1, at, added.stores, stores_of one.calls v.calls two.calls v.is, match_cost kind subject te two.next);
    }

pub adds_test : (env subject : List ℕ) (code one two three : Coding) (kind : CaseKind) (w : ℕ) (s : Bool) (items : List Expression) (ms te to : List ℕ) (n : ℕ) (d : Expression) → n < length items
    → AreTestsReady env subject code items w → AddsTests env subject code one kind w s (take n items) ms → AddsValue env one.calls one.next two.calls two.next (get_or items n d) w s te
    → three ≡ with_call two (match_kernel kind) (subject ∷ te ∷ []) 1 → to ≡ ms ++ range_with_len two.next 1
    → AddsTests env subject code three kind w s (take (n + 1) items) to
adds_test env subject code one two three kind w s items ms te to n d l r a v call is =
    let e = get_or items n d in
    let f = so_far env subject code one kind w s (take n items) ms a in
    let at = items_at items w n d l in
    let added = v.value.values.added in
    let one_call = fresh_call (match_kernel kind) (subject ∷ te ∷ []) two.next 1 in
    let calls = (a.calls ++ v.calls) ++ one_call ∷ [] in
    let long : length te ≡ w = v.value.length in
    let total : items_weight (items_of (take n items)) w + weight e w + (w + 1) ≡ items_weight (items_of (take n items ++ e ∷ [])) w = omega (arith, items_more (take n items) e w) in
    let all : AddsTests env subject code (with_call two (match_kernel kind) (subject ∷ te ∷ []) 1) kind w s (take n items ++ e ∷ []) (ms ++ range_with_len two.next 1) = record {
      calls = calls;
      is = ap (λ (x : List Call). x ++ one_call ∷ []) (v.is ∙ ap (λ (x : List Call). x ++ v.calls) a.is ∙ append_assoc code.calls a.calls v.calls) ∙ append_assoc code.calls (a.calls ++ v.calls) (one_call ∷ []);
      few = omega (arith, sum_by-append call_cost (a.calls ++ v.calls) (one_call ∷ []), sum_by-append call_cost a.calls v.calls, sum_by-cons call_cost one_call [], match_cost kind subject te two.next, added.stores, a.few, items_more (take n items) e w, r.some, length-append (take n items) (e ∷ []));
      condition = λ sv.
          subst (λ (k : ℕ). IsCondition env subject sv code.next calls (ms ++ range_with_len two.next 1) (two.next + 1) k (λ state. matches_of kind w s (sv state) (take n items ++ e ∷ []) state)) total
          (tests_more env subject sv code.next kind w s (take n items) e a.calls ms one.next (items_weight (items_of (take n items)) w) v.calls te two.next (weight e w) r.is_env r.below r.long r.some (omega (arith, r.at_most_64))
          (omega (arith, r.slots, f.0, at, added.paid, added.stores)) (a.condition sv) v.value.values long);
    } in
    subst (AddsTests env subject code three kind w s (take (n + 1) items)) (sym is)
    (subst (λ (x : Coding). AddsTests env subject code x kind w s (take (n + 1) items) (ms ++ range_with_len two.next 1)) (sym call)
    (subst (λ (x : List Expression). AddsTests env subject code (with_call two (match_kernel kind) (subject ∷ te ∷ []) 1) kind w s x (ms ++ range_with_len two.next 1)) (sym (take_more items n d l)) all))
