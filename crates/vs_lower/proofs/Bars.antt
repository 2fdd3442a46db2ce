-- Bars: that they stay, and the calls of the bars of what is reached where a condition is one, and where it isn't.
use Rattle.std.proofs.Common.{◌≡◌, ℕ, ◌+◌, ◌<◌, ◌≤◌, ◌^◌, Bool, true, false, not, ◌||◌, List, [], ◌∷◌, if◌then◌else◌, map, length, sym, ap, ◌∙◌, refl, arith}
use Rattle.std.specs.List.{All, range_with_len}
use Rattle.std.proofs.lemmas.List.Elements.{All-nil, All-cons}
use Rattle.std.proofs.lemmas.List.FromFn.{length-range_with_len}
use Rattle.std.proofs.lemmas.List.Sums.{sum_by-append, sum_by-cons}
use Rattle.vs_four.specs.declared.Bit4.{Bit4}
use Rattle.vs_four.specs.declared.Bit4.TheVariants.{One}
use Rattle.vs_four.specs.Logic.{BitList, truth}
use Rattle.vs_four.specs.Tables.{is_one}
use Rattle.vs_kern_select.specs.declared.costs.Kernel.TheVariants as S
use Rattle.vs_code.specs.declared.kernels.AnyKernel.TheVariants.{Select}
use Rattle.vs_code.specs.Calls.{Call, State, IsCall, IsCalled, AreCalled, call_cost, length_of, targets_of}
use Rattle.vs_program.specs.Lowered.{HasConstants}
use Rattle.vs_values.specs.Added.{AreAdded, fresh_call}
use Rattle.vs_values.specs.Coded.{Coding}
use Rattle.vs_values.specs.Made.{IsCallable}
use Rattle.vs_lower.specs.Unless.{bar_args, is_barred, with_bar, with_bars}
use Rattle.vs_values.proofs.Adding.{added_call, added_more, called_parts, is_fresh_call, one_called, stays, vector_stays}
use Rattle.vs_lower.proofs.Branching.{choice_takes}

-- ---- one

pub bar_stays : (calls : List Call) (mark : ℕ) (before after : State) (bar : ℕ) → All (λ s. mark ≤ s) (targets_of calls) → AreCalled calls before after → bar < mark → is_barred bar after ≡ is_barred bar before
bar_stays calls mark before after bar fresh called below = ap is_one (stays calls mark before after fresh called bar below)

-- the truth of one bit
pub one_truth : (b : Bit4) → is_one (truth (b ∷ [])) ≡ is_one b
one_truth One = refl
one_truth _ = refl

-- slot 0 bars nothing, slot 1 all
pub free_bar : (slots : State) → HasConstants slots → is_barred 0 slots ≡ false
free_bar slots c = ap is_one c.zero

full_bar : (slots : State) → HasConstants slots → is_barred 1 slots ≡ true
full_bar slots c = ap is_one c.one

-- ---- the call of one

abbrev pub bar_call : List ℕ → (taken other n : ℕ) → Call
bar_call tc taken other n = fresh_call (Select S.Branch) (bar_args tc taken other) n 1

-- what such a call needs
pub record IsBarReady (tc : List ℕ) (taken other n : ℕ) : Type 0 where
  pub taken_below : taken < n
  pub other_below : other < n
  pub below : All (λ slot. slot < n) tc
  pub some : 1 ≤ length tc
  pub short : length tc < 2 ^ 32

below_args : (tc : List ℕ) (taken other n : ℕ) → IsBarReady tc taken other n → All (λ to. All (λ slot. slot < n) to) (bar_args tc taken other)
below_args tc taken other n r =
    let P : List ℕ → Type 0 = λ to. All (λ slot. slot < n) to in
    let Q : ℕ → Type 0 = λ slot. slot < n in
    All-cons P tc ((taken ∷ []) ∷ (other ∷ []) ∷ []) r.below
    (All-cons P (taken ∷ []) ((other ∷ []) ∷ []) (All-cons Q taken [] r.taken_below (All-nil Q)) (All-cons P (other ∷ []) [] (All-cons Q other [] r.other_below (All-nil Q)) (All-nil P)))

bar_is_call : (tc : List ℕ) (taken other n : ℕ) → IsBarReady tc taken other n → n + 1 ≤ 2 ^ 32 → IsCall (bar_call tc taken other n)
bar_is_call tc taken other n r fits =
    let Q : ℕ → Type 0 = λ k. k < 2 ^ 32 in
    is_fresh_call (Select S.Branch) (bar_args tc taken other) n 1 (choice_takes (length tc) 1 r.some (omega arith))
    (All-cons Q (length tc) (1 ∷ 1 ∷ 1 ∷ []) r.short (All-cons Q 1 (1 ∷ 1 ∷ []) (omega arith) (All-cons Q 1 (1 ∷ []) (omega arith) (All-cons Q 1 [] (omega arith) (All-nil Q)))))
    (omega arith) fits (below_args tc taken other n r)

pub bar_cost : (tc : List ℕ) (taken other n : ℕ) → call_cost (bar_call tc taken other n) ≡ 1
bar_cost tc taken other n = length-range_with_len n 1

pub bar_callable : (tc : List ℕ) (taken other : ℕ) (code : Coding) → IsBarReady tc taken other code.next → code.next + 1 < 2 ^ 32 → length_of code.calls + 1 ≤ 2 ^ 32 → IsCallable code (Select S.Branch) (bar_args tc taken other) 1
bar_callable tc taken other code r slots few =
    record { is = bar_is_call tc taken other code.next r (omega (arith, slots)); slots = slots; few = omega (arith, few, bar_cost tc taken other code.next) }

pub bar_added : (tc : List ℕ) (taken other n : ℕ) → IsBarReady tc taken other n → n + 1 ≤ 2 ^ 32 → AreAdded n (bar_call tc taken other n ∷ []) (n + 1) 1
bar_added tc taken other n r fits =
    added_call (Select S.Branch) (bar_args tc taken other) n 1 1 (bar_is_call tc taken other n r fits) (below_args tc taken other n r) (omega (arith, bar_cost tc taken other n)) (omega (arith, bar_cost tc taken other n))

pub called_value : (tc : List ℕ) (taken other n : ℕ) (last after : State) → IsCalled (bar_call tc taken other n) last after
    → map after (range_with_len n 1) ≡ (if is_one (truth (map last tc)) then map last (taken ∷ []) else map last (other ∷ []))
called_value tc taken other n last after h = h.value

either_truth : (q : Bool) (x y : Bit4) → is_one (truth (if q then (x ∷ []) else (y ∷ []))) ≡ (if q then is_one x else is_one y)
either_truth true x y = one_truth x
either_truth false x y = one_truth y

bar_value : (tc : List ℕ) (taken other n : ℕ) (last after : State) → AreCalled (bar_call tc taken other n ∷ []) last after → is_barred n after ≡ (if is_one (truth (map last tc)) then is_barred taken last else is_barred other last)
bar_value tc taken other n last after called =
    sym (one_truth (after n))
    ∙ ap (λ (v : BitList). is_one (truth v)) (called_value tc taken other n last after (one_called (bar_call tc taken other n) last after called))
    ∙ either_truth (is_one (truth (map last tc))) (last taken) (last other)

-- ---- the calls of both

abbrev pub bar_calls : List ℕ → (bar n : ℕ) → List Call
bar_calls tc bar n = bar_call tc bar 1 n ∷ bar_call tc 1 bar (n + 1) ∷ []

pub record AreBarsReady (tc : List ℕ) (bar n : ℕ) : Type 0 where
  pub constants : 4 ≤ n
  pub bar_below : bar < n
  pub below : All (λ slot. slot < n) tc
  pub some : 1 ≤ length tc
  pub short : length tc < 2 ^ 32

first_ready : (tc : List ℕ) (bar n : ℕ) → AreBarsReady tc bar n → IsBarReady tc bar 1 n
first_ready tc bar n r = record { taken_below = r.bar_below; other_below = omega (arith, r.constants); below = r.below; some = r.some; short = r.short }

second_ready : (tc : List ℕ) (bar n : ℕ) → AreBarsReady tc bar n → IsBarReady tc 1 bar (n + 1)
second_ready tc bar n r = record {
  taken_below = omega (arith, r.constants);
  other_below = omega (arith, r.bar_below);
  below = λ k d l. omega (arith, r.below k d l);
  some = r.some;
  short = r.short;
}

pub first_callable : (tc : List ℕ) (bar : ℕ) (code : Coding) → AreBarsReady tc bar code.next → code.next + 2 < 2 ^ 32 → length_of code.calls + 2 ≤ 2 ^ 32 → IsCallable code (Select S.Branch) (bar_args tc bar 1) 1
first_callable tc bar code r slots few = bar_callable tc bar 1 code (first_ready tc bar code.next r) (omega (arith, slots)) (omega (arith, few))

pub one_more : (tc : List ℕ) (taken other : ℕ) (code : Coding) → length_of (with_bar code tc taken other).calls ≡ length_of code.calls + 1
one_more tc taken other code =
    omega (arith, sum_by-append call_cost code.calls (bar_call tc taken other code.next ∷ []), sum_by-cons call_cost (bar_call tc taken other code.next) [], bar_cost tc taken other code.next)

pub second_callable : (tc : List ℕ) (bar : ℕ) (code : Coding) → AreBarsReady tc bar code.next → code.next + 2 < 2 ^ 32 → length_of code.calls + 2 ≤ 2 ^ 32 → IsCallable (with_bar code tc bar 1) (Select S.Branch) (bar_args tc 1 bar) 1
second_callable tc bar code r slots few =
    bar_callable tc 1 bar (with_bar code tc bar 1) (second_ready tc bar code.next r) (omega (arith, slots)) (omega (arith, few, one_more tc bar 1 code))

pub two_more : (tc : List ℕ) (bar : ℕ) (code : Coding) → length_of (with_bars code tc bar).calls ≡ length_of code.calls + 2
two_more tc bar code = omega (arith, one_more tc bar 1 code, one_more tc 1 bar (with_bar code tc bar 1))

pub bars_added : (tc : List ℕ) (bar n : ℕ) → AreBarsReady tc bar n → n + 2 ≤ 2 ^ 32 → AreAdded n (bar_calls tc bar n) (n + 1 + 1) (1 + 1)
bars_added tc bar n r fits =
    added_more n (bar_call tc bar 1 n ∷ []) (n + 1) 1 (bar_call tc 1 bar (n + 1) ∷ []) (n + 1 + 1) 1 (bar_added tc bar 1 n (first_ready tc bar n r) (omega (arith, fits))) (bar_added tc 1 bar (n + 1) (second_ready tc bar n r) (omega (arith, fits)))

-- where the condition is one, the first is as the bar before, and the second bars; where it isn't, the first bars, and the second is as the bar before
pub record AreBars (tc : List ℕ) (bar n : ℕ) (last after : State) : Type 0 where
  pub first : is_barred n after ≡ (is_barred bar last || not (is_one (truth (map last tc))))
  pub second : is_barred (n + 1) after ≡ (is_barred bar last || is_one (truth (map last tc)))

pub bars_hold : (tc : List ℕ) (bar n : ℕ) (last after : State) → AreBarsReady tc bar n → n + 2 ≤ 2 ^ 32 → HasConstants last → AreCalled (bar_calls tc bar n) last after → AreBars tc bar n last after
bars_hold tc bar n last after r fits c called =
    let parts = called_parts (bar_call tc bar 1 n ∷ []) (bar_call tc 1 bar (n + 1) ∷ []) last after called in
    let mid = parts.0 in
    let one = bar_added tc bar 1 n (first_ready tc bar n r) (omega (arith, fits)) in
    let two = bar_added tc 1 bar (n + 1) (second_ready tc bar n r) (omega (arith, fits)) in
    let there : map mid tc ≡ map last tc = vector_stays (bar_call tc bar 1 n ∷ []) n last mid tc one.fresh parts.1 r.below in
    let full : is_barred 1 mid ≡ true = bar_stays (bar_call tc bar 1 n ∷ []) n last mid 1 one.fresh parts.1 (omega (arith, r.constants)) ∙ full_bar last c in
    let old : is_barred bar mid ≡ is_barred bar last = bar_stays (bar_call tc bar 1 n ∷ []) n last mid bar one.fresh parts.1 r.bar_below in
    record {
      first = bar_stays (bar_call tc 1 bar (n + 1) ∷ []) (n + 1) mid after n two.fresh parts.2 (omega arith)
          ∙ bar_value tc bar 1 n last mid parts.1
          ∙ taken (is_one (truth (map last tc))) (is_barred bar last) (is_barred 1 last) (full_bar last c);
      second = bar_value tc 1 bar (n + 1) mid after parts.2
          ∙ ap (λ (v : BitList). if is_one (truth v) then is_barred 1 mid else is_barred bar mid) there
          ∙ ap (λ (q : Bool). if is_one (truth (map last tc)) then is_barred 1 mid else q) old
          ∙ other (is_one (truth (map last tc))) (is_barred bar last) (is_barred 1 mid) full;
    }
  where
    taken : (t z o : Bool) → o ≡ true → (if t then z else o) ≡ (z || not t)
    taken true true o h = refl
    taken true false o h = refl
    taken false true o h = h
    taken false false o h = h

    other : (t z o : Bool) → o ≡ true → (if t then o else z) ≡ (z || t)
    other true true o h = h
    other true false o h = h
    other false true o h = refl
    other false false o h = refl
