-- Calls one after the other, and the lanes that they change.
use Rattle.std.proofs.Common.{◌≡◌, ℕ, zero, suc, ◌<◌, Bool, List, [], ◌∷◌, ◌++◌, length, get_or, slice_get, take, drop, ◌+◌, ◌-◌, ◌≤◌, sym, ap, ◌∙◌, subst, refl, arith}
use Rattle.std.proofs.lemmas.List.{take_more}
use Rattle.std.proofs.lemmas.List.Sums.{sum_by_more, sum_by-take-le, sum_by-take-drop}
use Rattle.std.specs.List.{All, Contains, flat_map, slice_range}
use Rattle.std.proofs.lemmas.List.Elements.{All-contains, Contains-get_or, Contains-append_left, Contains-append_right, All-take, All-drop}
use mathlib.Core.Path.{fun_ext}
use Rattle.vs_plane.specs.declared.pairs.Pair.{Pair}
use Rattle.vs_plane.specs.Lanes.{slot_lane, lane_or_x}
use Rattle.vs_plane.specs.Kernels.{Computes}
use Rattle.vs_code.specs.Kernels.{operator_of}
use Rattle.vs_code.specs.Calls.{Call, State, IsCalled, AreCalled, call_cost, call_targets, length_of, targets_of}
use Rattle.vs_code.proofs.Arguments.{HasRun}

-- calls, and then others from the state that they led to
pub called-append : (first second : List Call) (before middle after : State) → AreCalled first before middle → AreCalled second middle after → AreCalled (first ++ second) before after
called-append [] second before middle after h k = subst (λ (s : State). AreCalled second s after) (fun_ext h) k
called-append (call ∷ first) second before middle after h k = (h.0, h.1, called-append first second h.0 middle after h.2 k)

pub called_parts : (first second : List Call) (before after : State) → AreCalled (first ++ second) before after → (middle : State) × AreCalled first before middle × AreCalled second middle after
called_parts [] second before after h = (before, (λ slot. refl), h)
called_parts (call ∷ first) second before after h =
    let rest = called_parts first second h.0 after h.2 in
    (rest.0, (h.0, h.1, rest.1), rest.2)

-- one call
pub called_one : (call : Call) (before after : State) → IsCalled call before after → AreCalled (call ∷ []) before after
called_one call before after h = (after, h, λ slot. refl)

pub one_called : (call : Call) (before after : State) → AreCalled (call ∷ []) before after → IsCalled call before after
one_called call before after h = subst (λ (s : State). IsCalled call before s) (sym (fun_ext h.2)) h.1

-- one call more
called_more : (calls : List Call) (n : ℕ) (call : Call) (before middle after : State) → n < length calls → call ≡ get_or calls n call
    → AreCalled (take n calls) before middle → IsCalled call middle after → AreCalled (take (n + 1) calls) before after
called_more calls n call before middle after l e h k =
    subst (λ (cs : List Call). AreCalled cs before after)
    (ap (λ (c : Call). take n calls ++ c ∷ []) e ∙ sym (take_more calls n call l))
    (called-append (take n calls) (call ∷ []) before middle after h (called_one call middle after k))

length_more : (calls : List Call) (n : ℕ) (call : Call) → n < length calls → call ≡ get_or calls n call → length_of (take (n + 1) calls) ≡ length_of (take n calls) + call_cost call
length_more calls n call l e = sum_by_more call_cost calls n call l ∙ ap (λ (c : Call). length_of (take n calls) + call_cost c) (sym e)

-- what holds of all holds of a part; a part of calls makes no more stores than all of them
pub part_all : {X : Type 0} (P : X → Type 0) (xs : List X) (i j : ℕ) → All P xs → All P (slice_range xs i j)
part_all P xs i j h = All-take P (j - i) (drop i xs) (All-drop P i xs h)

pub part_length : (calls : List Call) (i j : ℕ) → length_of (slice_range calls i j) ≤ length_of calls
part_length calls i j = omega (arith, sum_by-take-le call_cost (drop i calls) (j - i), sum_by-take-drop call_cost calls i)

-- what a kernel computes in all lanes it does in each
lane_called : {W : Type 0} (lane : W → ℕ → Bool) (lanes : ℕ) (call : Call) (before after : List (Pair W)) (i : ℕ) → i < lanes
    → Computes lane lanes (operator_of call.kernel (length call.to)) call.args call.to call.scratch before after
    → IsCalled call (λ slot. slot_lane lane before slot i) (λ slot. slot_lane lane after slot i)
lane_called lane lanes call before after i l h = record {
  value = h.value i l;
  kept = λ slot t s. ap (λ p. lane_or_x lane p i) (h.others.kept slot t s);
}

-- a number in the list of one element is in the list of all
in_all : {X : Type 0} (f : X → List ℕ) (xs : List X) (n : ℕ) (x : X) (slot : ℕ) → n < length xs → x ≡ get_or xs n x → Contains (f x) slot → Contains (flat_map f xs) slot
in_all f [] n x slot l e h = absurd (omega arith)
in_all f (y ∷ ys) zero x slot l e h = Contains-append_left (f y) (flat_map f ys) slot (subst (λ z. Contains (f z) slot) e h)
in_all f (y ∷ ys) (suc n) x slot l e h = Contains-append_right (f y) (flat_map f ys) slot (in_all f ys n x slot (omega arith) e h)

-- what holds of all numbers of the lists holds of those of one
pub all_of_one : {X : Type 0} (P : ℕ → Type 0) (f : X → List ℕ) (xs : List X) (n : ℕ) (x : X) → n < length xs → x ≡ get_or xs n x → All P (flat_map f xs) → All P (f x)
all_of_one P f xs n x l e h = λ k d m. All-contains P (flat_map f xs) (get_or (f x) k d) h (in_all f xs n x (get_or (f x) k d) l e (Contains-get_or (f x) k d m))

-- ---- in all lanes

-- these of the calls were made
pub record HaveRun {W : Type 0} (lane : W → ℕ → Bool) (lanes : ℕ) (before after : List (Pair W)) (old new : ℕ) (calls made : List Call) : Type 0 where
  pub applied : (i : ℕ) → i < lanes → AreCalled made (λ slot. slot_lane lane before slot i) (λ slot. slot_lane lane after slot i)
  pub slots : length after ≡ length before
  pub kept : (slot : ℕ) → ¬ Contains (targets_of calls) slot → slice_get after slot ≡ slice_get before slot
  pub ticked : new ≡ old + length_of made

-- the next one was made too
pub made_more : {W : Type 0} (lane : W → ℕ → Bool) (lanes : ℕ) (before middle after : List (Pair W)) (old mid new : ℕ) (calls : List Call) (n : ℕ) (call : Call)
    → n < length calls → call ≡ get_or calls n call
    → HaveRun lane lanes before middle old mid calls (take n calls) → HasRun lane lanes middle after mid new call
    → HaveRun lane lanes before after old new calls (take (n + 1) calls)
made_more lane lanes before middle after old mid new calls n call l e h k = record {
  applied = λ i m.
      called_more calls n call (λ slot. slot_lane lane before slot i) (λ slot. slot_lane lane middle slot i) (λ slot. slot_lane lane after slot i)
      l e (h.applied i m) (lane_called lane lanes call middle after i m k.computes);
  slots = k.computes.others.slots ∙ h.slots;
  kept = λ slot other.
      k.computes.others.kept slot
      (λ t. other (in_all call_targets calls n call slot l e (Contains-append_left call.to call.scratch slot t)))
      (λ t. other (in_all call_targets calls n call slot l e (Contains-append_right call.to call.scratch slot t)))
      ∙ h.kept slot other;
  ticked = omega (arith, k.ticked, h.ticked, length_more calls n call l e);
}
