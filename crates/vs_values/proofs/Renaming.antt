-- A template's calls with other slots.
use Rattle.std.proofs.Common.{◌≡◌, ℕ, ◌+◌, ◌-◌, ◌<◌, ◌≤◌, ◌^◌, Bool, true, false, nat_lt, List, [], ◌∷◌, ◌++◌, map, length, get_or, slice_index, sym, ap, ◌∙◌, subst, refl, arith}
use Rattle.std.specs.List.{All, Contains, concat}
use Rattle.std.proofs.lemmas.List.{map-append, length-map, get_or_past}
use Rattle.std.proofs.lemmas.List.Elements.{All-nil, All-cons, All-weaker, All-map, All-contains, All-head, All-tail, Contains-get_or}
use Rattle.std.proofs.lemmas.List.Sums.{sum_by-cons}
use Rattle.vs_plane.specs.Kernels.{AreDifferent, AreApart, IsArgument}
use Rattle.vs_code.specs.Kernels.{operator_of, takes, room_of, cost_of}
use Rattle.vs_code.specs.Calls.{Call, State, IsCall, IsCalled, AreCalled, lengths_of, call_cost, call_slots, call_targets, length_of, slots_of, targets_of}
use Rattle.vs_values.specs.Added.{AreAdded}
use Rattle.vs_values.specs.Templates.{renamed, renamed_call}
use Rattle.vs_values.proofs.Lists.{all_left, all_right, map_agree, map_at}

-- ---- slots

-- the slots that are named stand below the new ones, and there is room for these
pub record IsRenaming (names : List ℕ) (first next : ℕ) : Type 0 where
  pub below : All (λ slot. slot < first) names
  pub some : length names ≤ next
  pub room : first + (next - length names) ≤ 2 ^ 32

pub high : (names : List ℕ) (first slot : ℕ) → length names ≤ slot → renamed names first slot ≡ slot - length names + first
high names first slot l = get_or_past names slot (slot - length names + first) l

pub low : (names : List ℕ) (first slot : ℕ) → All (λ s. s < first) names → slot < length names → renamed names first slot < first
low names first slot h l = h slot (slot - length names + first) l

-- a new slot stands for no other one
one_slot : (names : List ℕ) (first s t : ℕ) → All (λ slot. slot < first) names → length names ≤ t → (b : Bool) → nat_lt s (length names) ≡ b → renamed names first t ≡ renamed names first s → t ≡ s
one_slot names first s t h l true is e = let x = low names first s h (lt_is s (length names) is) in let y = high names first t l in absurd (omega arith)
  where
    lt_is : (m n : ℕ) → nat_lt m n ≡ true → m < n
    lt_is m n h = grind arith
one_slot names first s t h l false is e =
    let m : length names ≤ s = not_lt s (length names) is in
    omega (arith, e, high names first t l, high names first s m, l, m)
  where
    not_lt : (m n : ℕ) → nat_lt m n ≡ false → n ≤ m
    not_lt m n h = grind arith

pub same_slot : (names : List ℕ) (first s t : ℕ) → All (λ slot. slot < first) names → length names ≤ t → renamed names first t ≡ renamed names first s → t ≡ s
same_slot names first s t h l e = one_slot names first s t h l (nat_lt s (length names)) refl e

-- what a slot stands for is below the next one that is new
within : (names : List ℕ) (first next slot : ℕ) → IsRenaming names first next → (b : Bool) → nat_lt slot (length names) ≡ b → slot < next → renamed names first slot < first + (next - length names)
within names first next slot r true is l = let x = low names first slot r.below (lt_is slot (length names) is) in omega arith
  where
    lt_is : (m n : ℕ) → nat_lt m n ≡ true → m < n
    lt_is m n h = grind arith
within names first next slot r false is l =
    let m : length names ≤ slot = not_lt slot (length names) is in
    omega (arith, high names first slot m, m, r.some)
  where
    not_lt : (m n : ℕ) → nat_lt m n ≡ false → n ≤ m
    not_lt m n h = grind arith

pub slot_within : (names : List ℕ) (first next slot : ℕ) → IsRenaming names first next → slot < next → renamed names first slot < first + (next - length names)
slot_within names first next slot r l = within names first next slot r (nat_lt slot (length names)) refl l

-- ---- lists of slots

pub map_map : {A B C : Type 0} (f : B → C) (g : A → B) (xs : List A) → map f (map g xs) ≡ map (λ x. f (g x)) xs
map_map f g [] = refl
map_map f g (x ∷ xs) = ap (λ ys. f (g x) ∷ ys) (map_map f g xs)

not_among : (name : ℕ → ℕ) (xs : List ℕ) (slot : ℕ) → All (λ t. name t ≡ name slot → t ≡ slot) xs → ¬ Contains xs slot → ¬ Contains (map name xs) (name slot)
not_among name xs slot one out m =
    let apart : All (λ t. name t ≡ name slot → ⊥) xs = λ k d l e. out (subst (Contains xs) (one k d l e) (Contains-get_or xs k d l)) in
    All-contains (λ y. y ≡ name slot → ⊥) (map name xs) (name slot) (All-map (λ y. y ≡ name slot → ⊥) name xs apart) m refl

all_within : (names : List ℕ) (first next : ℕ) (xs : List ℕ) → IsRenaming names first next → All (λ slot. slot < next) xs → All (λ slot. slot < first + (next - length names)) (map (renamed names first) xs)
all_within names first next xs r h =
    All-map (λ slot. slot < first + (next - length names)) (renamed names first) xs (All-weaker (λ slot. slot < next) (λ slot. renamed names first slot < first + (next - length names)) (λ slot l. slot_within names first next slot r l) xs h)

all_below : (names : List ℕ) (first next : ℕ) (xs : List ℕ) → IsRenaming names first next → All (λ slot. slot < next) xs → All (λ slot. slot < 2 ^ 32) (map (renamed names first) xs)
all_below names first next xs r h = All-weaker (λ slot. slot < first + (next - length names)) (λ slot. slot < 2 ^ 32) (λ slot l. omega (arith, l, r.room)) (map (renamed names first) xs) (all_within names first next xs r h)

-- new ones are renamed to new ones
all_fresh : (names : List ℕ) (first : ℕ) (xs : List ℕ) → All (λ slot. length names ≤ slot) xs → All (λ slot. first ≤ slot) (map (renamed names first) xs)
all_fresh names first xs h =
    All-map (λ slot. first ≤ slot) (renamed names first) xs (All-weaker (λ slot. length names ≤ slot) (λ slot. first ≤ renamed names first slot) (λ slot l. let e = high names first slot l in omega arith) xs h)

different : (names : List ℕ) (first : ℕ) (xs : List ℕ) → All (λ slot. slot < first) names → All (λ slot. length names ≤ slot) xs → AreDifferent xs → AreDifferent (map (renamed names first) xs)
different names first xs h f d = record {
  place = λ j k l m e.
      let name = renamed names first in
      let lj : j < length xs = omega (arith, l, length-map xs name) in
      let lk : k < length xs = omega (arith, m, length-map xs name) in
      d.place j k lj lk (same_slot names first (slice_index xs k) (slice_index xs j) h (f j 0 lj) (sym (map_at name xs j lj) ∙ e ∙ map_at name xs k lk));
}

apart : (names : List ℕ) (first : ℕ) (xs ys : List ℕ) → All (λ slot. slot < first) names → All (λ slot. length names ≤ slot) ys → AreApart xs ys → AreApart (map (renamed names first) xs) (map (renamed names first) ys)
apart names first xs ys h f d = record {
  differ = λ j k l m e.
      let name = renamed names first in
      let lj : j < length xs = omega (arith, l, length-map xs name) in
      let lk : k < length ys = omega (arith, m, length-map ys name) in
      d.differ j k lj lk (sym (same_slot names first (slice_index xs j) (slice_index ys k) h (f k 0 lk) (sym (map_at name ys k lk) ∙ sym e ∙ map_at name xs j lj)));
}

-- ---- one call

length_args : (name : ℕ → ℕ) (args : List (List ℕ)) → map length (map (map name) args) ≡ map length args
length_args name args = map_map length (map name) args ∙ map_agree (λ (arg : List ℕ). length (map name arg)) length args (λ k d l. length-map (get_or args k d) name)

pub lengths_same : (name : ℕ → ℕ) (call : Call) → lengths_of (renamed_call name call) ≡ lengths_of call
lengths_same name call = ap (λ (ns : List ℕ). ns ++ length (map name call.to) ∷ []) (length_args name call.args) ∙ ap (λ (n : ℕ). map length call.args ++ n ∷ []) (length-map call.to name)

pub cost_same : (name : ℕ → ℕ) (call : Call) → call_cost (renamed_call name call) ≡ call_cost call
cost_same name call = ap (cost_of call.kernel) (lengths_same name call)

concat_renamed : (name : ℕ → ℕ) (args : List (List ℕ)) → concat (map (map name) args) ≡ map name (concat args)
concat_renamed name [] = refl
concat_renamed name (arg ∷ args) = ap (λ (xs : List ℕ). map name arg ++ xs) (concat_renamed name args) ∙ sym (map-append name arg (concat args))

targets_renamed : (name : ℕ → ℕ) (call : Call) → call_targets (renamed_call name call) ≡ map name (call_targets call)
targets_renamed name call = sym (map-append name call.to call.scratch)

slots_renamed : (name : ℕ → ℕ) (call : Call) → call_slots (renamed_call name call) ≡ map name (call_slots call)
slots_renamed name call =
    ap (λ (xs : List ℕ). xs ++ call_targets (renamed_call name call)) (concat_renamed name call.args)
    ∙ ap (λ (xs : List ℕ). map name (concat call.args) ++ xs) (targets_renamed name call)
    ∙ sym (map-append name (concat call.args) (call_targets call))

pub all_args : (P : ℕ → Type 0) (args : List (List ℕ)) → All P (concat args) → All (λ arg. All P arg) args
all_args P [] h = All-nil (λ arg. All P arg)
all_args P (arg ∷ args) h = All-cons (λ arg. All P arg) arg args (all_left P arg (concat args) h) (all_args P args (all_right P arg (concat args) h))

pub call_renamed : (names : List ℕ) (first next : ℕ) (call : Call) → IsRenaming names first next → IsCall call → All (λ slot. slot < next) (call_slots call) → All (λ slot. length names ≤ slot) (call_targets call)
    → IsCall (renamed_call (renamed names first) call)
call_renamed names first next call r is named fresh =
    let name = renamed names first in
    let below = λ (slot : ℕ). slot < next in
    let args = all_left below (concat call.args) (call_targets call) named in
    let written = all_right below (concat call.args) (call_targets call) named in
    let f = λ (slot : ℕ). length names ≤ slot in
    let to_fresh = all_left f call.to call.scratch fresh in
    let scratch_fresh = all_right f call.to call.scratch fresh in
    record {
      lengths = subst (λ (ns : List ℕ). takes call.kernel ns ≡ true) (sym (lengths_same name call)) is.lengths;
      short = subst (All (λ n. n < 2 ^ 32)) (sym (lengths_same name call)) is.short;
      room = subst (λ (n : ℕ). room_of call.kernel (lengths_of (renamed_call name call)) ≤ n) (sym (length-map call.scratch name)) (subst (λ (ns : List ℕ). room_of call.kernel ns ≤ length call.scratch) (sym (lengths_same name call)) is.room);
      targets = record {
        to_below = all_below names first next call.to r (all_left below call.to call.scratch written);
        scratch_below = all_below names first next call.scratch r (all_right below call.to call.scratch written);
        to_differ = different names first call.to r.below to_fresh is.targets.to_differ;
        scratch_differ = different names first call.scratch r.below scratch_fresh is.targets.scratch_differ;
        both_apart = apart names first call.to call.scratch r.below scratch_fresh is.targets.both_apart;
      };
      arguments = All-map (λ arg. IsArgument (2 ^ 32) arg (map name call.to) (map name call.scratch)) (map name) call.args
          (λ k d l.
          let arg = get_or call.args k d in
          let was : IsArgument (2 ^ 32) arg call.to call.scratch = is.arguments k d l in
          record {
            below = all_below names first next arg r (all_args below call.args args k d l);
            to_apart = apart names first arg call.to r.below to_fresh was.to_apart;
            scratch_apart = apart names first arg call.scratch r.below scratch_fresh was.scratch_apart;
          });
    }

-- what it does to the slots that stand for others
pub called_renamed : (names : List ℕ) (first : ℕ) (call : Call) (before after : State) → All (λ slot. slot < first) names → All (λ slot. length names ≤ slot) (call_targets call)
    → IsCalled (renamed_call (renamed names first) call) before after → IsCalled call (λ slot. before (renamed names first slot)) (λ slot. after (renamed names first slot))
called_renamed names first call before after below fresh h =
    let name = renamed names first in
    let f = λ (slot : ℕ). length names ≤ slot in
    let one = λ (xs : List ℕ) (a : All f xs) (slot : ℕ). All-weaker f (λ t. name t ≡ name slot → t ≡ slot) (λ t l e. same_slot names first slot t below l e) xs a in
    record {
      value = sym (map_map after name call.to) ∙ h.value
          ∙ ap (λ (n : ℕ). operator_of call.kernel n (map (λ (arg : List ℕ). map before arg) (map (map name) call.args))) (length-map call.to name)
          ∙ ap (operator_of call.kernel (length call.to)) (map_map (λ (arg : List ℕ). map before arg) (map name) call.args ∙ map_agree (λ (arg : List ℕ). map before (map name arg)) (λ (arg : List ℕ). map (λ slot. before (name slot)) arg) call.args (λ k d l. map_map before name (get_or call.args k d)));
      kept = λ slot not_to not_scratch. h.kept (name slot)
          (not_among name call.to slot (one call.to (all_left f call.to call.scratch fresh) slot) not_to)
          (not_among name call.scratch slot (one call.scratch (all_right f call.to call.scratch fresh) slot) not_scratch);
    }

-- ---- all calls

pub are_called_renamed : (names : List ℕ) (first : ℕ) (calls : List Call) (before after : State) → All (λ slot. slot < first) names → All (λ slot. length names ≤ slot) (targets_of calls)
    → AreCalled (map (renamed_call (renamed names first)) calls) before after → AreCalled calls (λ slot. before (renamed names first slot)) (λ slot. after (renamed names first slot))
are_called_renamed names first [] before after below fresh h = λ slot. h (renamed names first slot)
are_called_renamed names first (call ∷ calls) before after below fresh h =
    let f = λ (slot : ℕ). length names ≤ slot in (
      (λ slot. h.0 (renamed names first slot)),
      called_renamed names first call before h.0 below (all_left f (call_targets call) (targets_of calls) fresh) h.1,
      are_called_renamed names first calls h.0 after below (all_right f (call_targets call) (targets_of calls) fresh) h.2,
    )

pub length_renamed : (name : ℕ → ℕ) (calls : List Call) → length_of (map (renamed_call name) calls) ≡ length_of calls
length_renamed name [] = refl
length_renamed name (call ∷ calls) =
    sum_by-cons call_cost (renamed_call name call) (map (renamed_call name) calls)
    ∙ ap (λ (n : ℕ). n + length_of (map (renamed_call name) calls)) (cost_same name call)
    ∙ ap (λ (n : ℕ). call_cost call + n) (length_renamed name calls)
    ∙ sym (sum_by-cons call_cost call calls)

all_slots_renamed : (name : ℕ → ℕ) (calls : List Call) → slots_of (map (renamed_call name) calls) ≡ map name (slots_of calls)
all_slots_renamed name [] = refl
all_slots_renamed name (call ∷ calls) =
    ap (λ (xs : List ℕ). xs ++ slots_of (map (renamed_call name) calls)) (slots_renamed name call)
    ∙ ap (λ (xs : List ℕ). map name (call_slots call) ++ xs) (all_slots_renamed name calls)
    ∙ sym (map-append name (call_slots call) (slots_of calls))

all_targets_renamed : (name : ℕ → ℕ) (calls : List Call) → targets_of (map (renamed_call name) calls) ≡ map name (targets_of calls)
all_targets_renamed name [] = refl
all_targets_renamed name (call ∷ calls) =
    ap (λ (xs : List ℕ). xs ++ targets_of (map (renamed_call name) calls)) (targets_renamed name call)
    ∙ ap (λ (xs : List ℕ). map name (call_targets call) ++ xs) (all_targets_renamed name calls)
    ∙ sym (map-append name (call_targets call) (targets_of calls))

calls_renamed : (names : List ℕ) (first next : ℕ) (calls : List Call) → IsRenaming names first next → All IsCall calls → All (λ slot. slot < next) (slots_of calls) → All (λ slot. length names ≤ slot) (targets_of calls)
    → All IsCall (map (renamed_call (renamed names first)) calls)
calls_renamed names first next [] r is named fresh = All-nil IsCall
calls_renamed names first next (call ∷ calls) r is named fresh =
    let name = renamed_call (renamed names first) in
    let below = λ (slot : ℕ). slot < next in
    let f = λ (slot : ℕ). length names ≤ slot in
    All-cons IsCall (name call) (map name calls)
    (call_renamed names first next call r (All-head IsCall call calls is) (all_left below (call_slots call) (slots_of calls) named) (all_left f (call_targets call) (targets_of calls) fresh))
    (calls_renamed names first next calls r (All-tail IsCall call calls is) (all_right below (call_slots call) (slots_of calls) named) (all_right f (call_targets call) (targets_of calls) fresh))

pub added_renamed : (names : List ℕ) (first next most : ℕ) (calls : List Call) → IsRenaming names first next → AreAdded (length names) calls next most
    → AreAdded first (map (renamed_call (renamed names first)) calls) (first + (next - length names)) most
added_renamed names first next most calls r a =
    let name = renamed names first in
    let total = length_renamed name calls in
    record {
      are_calls = calls_renamed names first next calls r a.are_calls a.named a.fresh;
      named = subst (All (λ slot. slot < first + (next - length names))) (sym (all_slots_renamed name calls)) (all_within names first next (slots_of calls) r a.named);
      fresh = subst (All (λ slot. first ≤ slot)) (sym (all_targets_renamed name calls)) (all_fresh names first (targets_of calls) a.fresh);
      grown = omega arith;
      paid = omega (arith, a.paid, total);
      stores = omega (arith, a.stores, total);
    }

-- the slots of the result
pub result_within : (names : List ℕ) (first next : ℕ) (to : List ℕ) → IsRenaming names first next → All (λ slot. slot < next) to → All (λ slot. slot < first + (next - length names)) (map (renamed names first) to)
result_within names first next to r h = all_within names first next to r h
