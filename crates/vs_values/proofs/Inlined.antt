-- A template's calls, added one after the other with other slots.
use Rattle.std.proofs.Common.{◌≡◌, ℕ, zero, suc, ◌+◌, ◌-◌, ◌<◌, ◌≤◌, ◌^◌, List, [], ◌∷◌, ◌++◌, map, length, take, Some, slice_get, sym, ap, ◌∙◌, subst, refl, arith, append_assoc, append-nil, add-one}
use Rattle.std.specs.List.{All}
use Rattle.std.proofs.lemmas.List.{map-append, take_all}
use Rattle.std.proofs.lemmas.List.Elements.{All-cons, All-head, All-tail, All-weaker}
use Rattle.std.proofs.lemmas.List.Sums.{sum_by-append, sum_by-cons}
use Rattle.vs_code.specs.Calls.{Call, IsCall, call_cost, call_slots, call_targets, length_of, slots_of, targets_of}
use Rattle.vs_values.specs.declared.templates.Template.{Template}
use Rattle.vs_values.specs.Calling.{IsFitting, IsInlinedTo}
use Rattle.vs_values.specs.Coded.{Coding}
use Rattle.vs_values.specs.Templates.{names_at_call, renamed, renamed_call}
use Rattle.vs_values.proofs.Lists.{all_left, all_right}
use Rattle.vs_values.proofs.Renaming.{IsRenaming, call_renamed, cost_same, length_renamed}

-- the slots of a call are named, and those of the inputs known
pub renaming_is : (t : Template) (code : Coding) (slots names : List ℕ) (first : ℕ) → names ≡ names_at_call slots → first ≡ code.next → IsFitting t code slots → IsRenaming names first t.next
renaming_is t code slots names first n f h =
    subst (λ (x : List ℕ). IsRenaming x first t.next) (sym n) (subst (λ (k : ℕ). IsRenaming (names_at_call slots) k t.next) (sym f) (record {
      below = All-cons (λ slot. slot < code.next) 0 (1 ∷ 2 ∷ 3 ∷ slots) (omega (arith, h.constants))
          (All-cons (λ slot. slot < code.next) 1 (2 ∷ 3 ∷ slots) (omega (arith, h.constants))
          (All-cons (λ slot. slot < code.next) 2 (3 ∷ slots) (omega (arith, h.constants))
          (All-cons (λ slot. slot < code.next) 3 slots (omega (arith, h.constants)) h.below)));
      some = omega (arith, h.added.grown);
      room = omega (arith, h.room, h.added.grown);
    }))

some_is : (x y : Call) → Some x ≡ Some y → x ≡ y
some_is x y h = cc

-- ---- the call with number n

pub call_at : (calls : List Call) (n : ℕ) (op : Call) → slice_get calls n ≡ Some op → All IsCall calls → IsCall op
call_at [] n op e h = cc
call_at (call ∷ calls) zero op e h = subst IsCall (some_is call op e) (All-head IsCall call calls h)
call_at (call ∷ calls) (suc n) op e h = call_at calls n op e (All-tail IsCall call calls h)

pub slots_at : (P : ℕ → Type 0) (calls : List Call) (n : ℕ) (op : Call) → slice_get calls n ≡ Some op → All P (slots_of calls) → All P (call_slots op)
slots_at P [] n op e h = cc
slots_at P (call ∷ calls) zero op e h = subst (λ (x : Call). All P (call_slots x)) (some_is call op e) (all_left P (call_slots call) (slots_of calls) h)
slots_at P (call ∷ calls) (suc n) op e h = slots_at P calls n op e (all_right P (call_slots call) (slots_of calls) h)

pub targets_at : (P : ℕ → Type 0) (calls : List Call) (n : ℕ) (op : Call) → slice_get calls n ≡ Some op → All P (targets_of calls) → All P (call_targets op)
targets_at P [] n op e h = cc
targets_at P (call ∷ calls) zero op e h = subst (λ (x : Call). All P (call_targets x)) (some_is call op e) (all_left P (call_targets call) (targets_of calls) h)
targets_at P (call ∷ calls) (suc n) op e h = targets_at P calls n op e (all_right P (call_targets call) (targets_of calls) h)

-- those before it, and it, are some of all
stores_at : (calls : List Call) (n : ℕ) (op : Call) → slice_get calls n ≡ Some op → length_of (take n calls) + call_cost op ≤ length_of calls
stores_at [] n op e = cc
stores_at (call ∷ calls) zero op e =
    let total = sum_by-cons call_cost call calls in
    let same : call_cost call ≡ call_cost op = ap call_cost (some_is call op e) in
    omega (arith, total, same)
stores_at (call ∷ calls) (suc n) op e =
    let total = sum_by-cons call_cost call calls in
    let first = sum_by-cons call_cost call (take n calls) in
    omega (arith, total, first, stores_at calls n op e)

one_more : (calls : List Call) (n : ℕ) (op : Call) → slice_get calls n ≡ Some op → take (suc n) calls ≡ take n calls ++ op ∷ []
one_more [] n op e = cc
one_more (call ∷ calls) zero op e = ap (λ (x : Call). x ∷ []) (some_is call op e)
one_more (call ∷ calls) (suc n) op e = ap (λ (xs : List Call). call ∷ xs) (one_more calls n op e)

-- ---- the calls so far

-- the first n calls were added
pub record AreFirst (t : Template) (names : List ℕ) (first n : ℕ) (old new : Coding) : Type 0 where
  pub calls : new.calls ≡ old.calls ++ map (renamed_call (renamed names first)) (take n t.calls)
  pub next : new.next ≡ old.next

pub first_none : (t : Template) (names : List ℕ) (first : ℕ) (old : Coding) → AreFirst t names first 0 old old
first_none t names first old = record { calls = sym (append-nil old.calls); next = refl }

pub first_more : (t : Template) (names : List ℕ) (first n : ℕ) (old new next : Coding) (op call : Call) → slice_get t.calls n ≡ Some op → call ≡ renamed_call (renamed names first) op
    → next ≡ record { calls = new.calls ++ call ∷ []; next = new.next } → AreFirst t names first n old new → AreFirst t names first (n + 1) old next
first_more t names first n old new next op call at is e h =
    let name = renamed_call (renamed names first) in
    let more : map name (take (n + 1) t.calls) ≡ map name (take n t.calls) ++ name op ∷ [] =
    ap (λ (k : ℕ). map name (take k t.calls)) (add-one n) ∙ ap (map name) (one_more t.calls n op at) ∙ map-append name (take n t.calls) (op ∷ []) in
    record {
      calls = ap (λ (x : Coding). x.calls) e ∙ ap (λ (xs : List Call). xs ++ call ∷ []) h.calls ∙ append_assoc old.calls (map name (take n t.calls)) (call ∷ [])
          ∙ ap (λ (x : Call). old.calls ++ (map name (take n t.calls) ++ x ∷ [])) is ∙ ap (λ (xs : List Call). old.calls ++ xs) (sym more);
      next = ap (λ (x : Coding). x.next) e ∙ h.next;
    }

-- what the next one needs
pub next_is : (t : Template) (code : Coding) (slots names : List ℕ) (first n : ℕ) (op call : Call) → names ≡ names_at_call slots → first ≡ code.next → IsFitting t code slots
    → slice_get t.calls n ≡ Some op → call ≡ renamed_call (renamed names first) op → IsCall call
next_is t code slots names first n op call ns f h at is =
    let long : length names ≡ 4 + length slots = ap length ns ∙ omega arith in
    let r = renaming_is t code slots names first ns f h in
    let fresh = All-weaker (λ slot. 4 + length slots ≤ slot) (λ slot. length names ≤ slot) (λ slot l. omega (arith, long)) (call_targets op) (targets_at (λ slot. 4 + length slots ≤ slot) t.calls n op at h.added.fresh) in
    subst IsCall (sym is) (call_renamed names first t.next op r (call_at t.calls n op at h.added.are_calls) (slots_at (λ slot. slot < t.next) t.calls n op at h.added.named) fresh)

pub next_named : (t : Template) (code : Coding) (slots names : List ℕ) (first n : ℕ) (op : Call) → names ≡ names_at_call slots → first ≡ code.next → IsFitting t code slots
    → slice_get t.calls n ≡ Some op → All (λ slot. slot + first < 2 ^ 32 + length names) (call_slots op)
next_named t code slots names first n op ns f h at =
    let long : length names ≡ 4 + length slots = ap length ns ∙ omega arith in
    All-weaker (λ slot. slot < t.next) (λ slot. slot + first < 2 ^ 32 + length names) (λ slot l. omega (arith, l, long, f, h.room, h.added.grown)) (call_slots op) (slots_at (λ slot. slot < t.next) t.calls n op at h.added.named)

pub next_few : (t : Template) (code new : Coding) (slots names : List ℕ) (first n : ℕ) (op call : Call) → IsFitting t code slots → AreFirst t names first n code new
    → slice_get t.calls n ≡ Some op → call ≡ renamed_call (renamed names first) op → length_of new.calls + call_cost call ≤ 2 ^ 32
next_few t code new slots names first n op call h a at is =
    let name = renamed_call (renamed names first) in
    let so_far : length_of new.calls ≡ length_of code.calls + length_of (map name (take n t.calls)) = ap length_of a.calls ∙ sum_by-append call_cost code.calls (map name (take n t.calls)) in
    let same = length_renamed (renamed names first) (take n t.calls) in
    let cost : call_cost call ≡ call_cost op = ap call_cost is ∙ cost_same (renamed names first) op in
    omega (arith, so_far, same, cost, stores_at t.calls n op at, h.few)

-- and once all were added
pub all_inlined : (t : Template) (code new after : Coding) (slots names : List ℕ) (first n long : ℕ) (result to : List ℕ) → names ≡ names_at_call slots → first ≡ code.next → IsFitting t code slots → AreFirst t names first n code new
    → length t.calls ≤ n → long ≡ length names → after ≡ record { calls = new.calls; next = new.next + (t.next - long) } → result ≡ t.result → to ≡ map (renamed names first) result → IsInlinedTo t slots code after to
all_inlined t code new after slots names first n long result to ns f h a l len e r is =
    let size : long ≡ 4 + length slots = len ∙ ap length ns ∙ omega arith in
    let whole : take n t.calls ≡ t.calls = take_all n t.calls l in
    record {
      calls = ap (λ (x : Coding). x.calls) e ∙ a.calls ∙ ap (λ (xs : List Call). code.calls ++ map (renamed_call (renamed names first)) xs) whole
          ∙ ap (λ (xs : List ℕ). code.calls ++ map (renamed_call (renamed xs first)) t.calls) ns ∙ ap (λ (k : ℕ). code.calls ++ map (renamed_call (renamed (names_at_call slots) k)) t.calls) f;
      next = ap (λ (x : Coding). x.next) e ∙ ap (λ (k : ℕ). k + (t.next - long)) a.next ∙ ap (λ (k : ℕ). code.next + (t.next - k)) size;
      are = is ∙ ap (map (renamed names first)) r ∙ ap (λ (xs : List ℕ). map (renamed xs first) t.result) ns ∙ ap (λ (k : ℕ). map (renamed (names_at_call slots) k) t.result) f;
    }
