-- Statements one after the other: what the lowering of each needs, and what that of all of them gives.
use Rattle.std.proofs.Common.{◌≡◌, ℕ, ◌+◌, ◌≤◌, Bool, true, false, ◌&&◌, List, [], ◌∷◌, ◌++◌, sym, ap, ◌∙◌, subst, refl, arith, append-nil, append_assoc}
use Rattle.std.proofs.lemmas.List.Sums.{sum_by-append}
use Rattle.vs_net.specs.Network as N
use Rattle.vs_design.specs.Statements.{Statement, Empty, Then}
use Rattle.vs_design.specs.Bodies.{body, no_effect, both_effects}
use Rattle.vs_design.specs.Fits.{fits_statement}
use Rattle.vs_design.specs.Footprints.{statement_bits}
use Rattle.vs_design.specs.Races.{blocking_bits, nonblocking_bits}
use Rattle.vs_design.specs.Sizes.{statement_weight}
use Rattle.vs_flat.specs.Trees.{sequence}
use Rattle.vs_code.specs.Calls.{Call, call_cost, length_of}
use Rattle.vs_values.specs.Coded.{Coding}
use Rattle.vs_lower.specs.Done.{IsDone}
use Rattle.vs_lower.specs.Stated.{IsStatementReady, AddsStatement, AreApart}
use Rattle.vs_lower.proofs.Apart.{apart_first, apart_rest}
use Rattle.vs_lower.proofs.Bodies.{empty_done, then_done}
use Rattle.vs_lower.proofs.Matching.{done_as}
use Rattle.vs_values.proofs.Values.{both_true}
use Rattle.vs_design.specs.Within.{statement_within}

-- ---- two

pub ready_head : (bits : ℕ) (now ahead : List ℕ) (code : Coding) (a b : Statement) → IsStatementReady bits now ahead code (Then a b) → IsStatementReady bits now ahead code a
ready_head bits now ahead code a b r = record {
  now_env = r.now_env;
  later_env = r.later_env;
  now_bits = r.now_bits;
  later_bits = r.later_bits;
  names = (both_true (statement_within bits a) (statement_within bits b) r.names).0;
  fit = (both_true (fits_statement a) (fits_statement b) r.fit).0;
  apart = apart_first (blocking_bits a) (blocking_bits b) (nonblocking_bits a) (nonblocking_bits b) r.apart;
  light = omega (arith, r.light);
  slots = omega (arith, r.slots);
  few = omega (arith, r.few);
}

pub ready_rest : (bits : ℕ) (now ahead : List ℕ) (old new : Coding) (a b : Statement) (now1 ahead1 : List ℕ)
    → IsStatementReady bits now ahead old (Then a b) → AddsStatement now ahead old new a now1 ahead1 → IsStatementReady bits now1 ahead1 new b
ready_rest bits now ahead old new a b now1 ahead1 r d =
    let total : length_of new.calls ≡ length_of old.calls + length_of d.calls = ap (λ (cs : List Call). length_of cs) d.is ∙ sum_by-append call_cost old.calls d.calls in
    record {
      now_env = d.done.now_env;
      later_env = d.done.later_env;
      now_bits = d.done.now_length ∙ r.now_bits;
      later_bits = d.done.later_length ∙ r.later_bits;
      names = (both_true (statement_within bits a) (statement_within bits b) r.names).1;
      fit = (both_true (fits_statement a) (fits_statement b) r.fit).1;
      apart = apart_rest (blocking_bits a) (blocking_bits b) (nonblocking_bits a) (nonblocking_bits b) r.apart;
      light = omega (arith, r.light);
      slots = omega (arith, r.slots, d.done.added.paid, d.done.added.stores);
      few = omega (arith, r.few, total, d.done.added.stores);
    }

pub adds_empty : (bits : ℕ) (now ahead : List ℕ) (code : Coding) → IsStatementReady bits now ahead code Empty → AddsStatement now ahead code code Empty now ahead
adds_empty bits now ahead code r = record { calls = []; is = sym (append-nil code.calls); done = empty_done now ahead code.next r.now_env r.later_env }

pub adds_then : (now ahead : List ℕ) (c0 c1 c2 : Coding) (a b : Statement) (now1 ahead1 now2 ahead2 : List ℕ)
    → AddsStatement now ahead c0 c1 a now1 ahead1 → AddsStatement now1 ahead1 c1 c2 b now2 ahead2 → AddsStatement now ahead c0 c2 (Then a b) now2 ahead2
adds_then now ahead c0 c1 c2 a b now1 ahead1 now2 ahead2 x y = record {
  calls = x.calls ++ y.calls;
  is = y.is ∙ ap (λ (cs : List Call). cs ++ y.calls) x.is ∙ append_assoc c0.calls x.calls y.calls;
  done = then_done now ahead c0.next a b x.calls now1 ahead1 c1.next y.calls now2 ahead2 c2.next x.done y.done;
}

-- ---- a list of them, each before the rest

abbrev pub chain : List Statement → Statement
chain [] = Empty
chain (x ∷ xs) = Then x (chain xs)

both_nothing : (e : N.Effect) → both_effects e no_effect ≡ e
both_nothing e = λ i. record { writes = append-nil e.writes i; updates = append-nil e.updates i }

pub chain_body : (xs : List Statement) (state : N.State) → body (chain xs) state ≡ body (sequence xs) state
chain_body [] state = refl
chain_body (x ∷ []) state = both_nothing (body x state)
chain_body (x ∷ y ∷ ys) state = ap (both_effects (body x state)) (chain_body (y ∷ ys) (N.write_all state (body x state).writes))

pub chain_bits : (xs : List Statement) → statement_bits (chain xs) ≡ statement_bits (sequence xs)
chain_bits [] = refl
chain_bits (x ∷ []) = append-nil (statement_bits x)
chain_bits (x ∷ y ∷ ys) = ap (λ bs. statement_bits x ++ bs) (chain_bits (y ∷ ys))

pub chain_weight : (xs : List Statement) → statement_weight (chain xs) ≡ statement_weight (sequence xs)
chain_weight [] = refl
chain_weight (x ∷ []) = omega arith
chain_weight (x ∷ y ∷ ys) = ap (λ n. statement_weight x + n) (chain_weight (y ∷ ys))

chain_blocking : (xs : List Statement) → blocking_bits (chain xs) ≡ blocking_bits (sequence xs)
chain_blocking [] = refl
chain_blocking (x ∷ []) = append-nil (blocking_bits x)
chain_blocking (x ∷ y ∷ ys) = ap (λ bs. blocking_bits x ++ bs) (chain_blocking (y ∷ ys))

chain_nonblocking : (xs : List Statement) → nonblocking_bits (chain xs) ≡ nonblocking_bits (sequence xs)
chain_nonblocking [] = refl
chain_nonblocking (x ∷ []) = append-nil (nonblocking_bits x)
chain_nonblocking (x ∷ y ∷ ys) = ap (λ bs. nonblocking_bits x ++ bs) (chain_nonblocking (y ∷ ys))

with_true : (b : Bool) → (b && true) ≡ b
with_true true = refl
with_true false = refl

pub chain_fits : (xs : List Statement) → fits_statement (chain xs) ≡ fits_statement (sequence xs)
chain_fits [] = refl
chain_fits (x ∷ []) = with_true (fits_statement x)
chain_fits (x ∷ y ∷ ys) = ap (λ b. fits_statement x && b) (chain_fits (y ∷ ys))

pub chain_within : (n : ℕ) (xs : List Statement) → statement_within n (chain xs) ≡ statement_within n (sequence xs)
chain_within n [] = refl
chain_within n (x ∷ []) = with_true (statement_within n x)
chain_within n (x ∷ y ∷ ys) = ap (λ b. statement_within n x && b) (chain_within n (y ∷ ys))

pub ready_chain : (bits : ℕ) (now ahead : List ℕ) (code : Coding) (xs : List Statement) → IsStatementReady bits now ahead code (sequence xs) → IsStatementReady bits now ahead code (chain xs)
ready_chain bits now ahead code xs r = record {
  now_env = r.now_env;
  later_env = r.later_env;
  now_bits = r.now_bits;
  later_bits = r.later_bits;
  names = chain_within bits xs ∙ r.names;
  fit = chain_fits xs ∙ r.fit;
  apart = subst (λ (bs : List ℕ). AreApart bs (nonblocking_bits (chain xs))) (sym (chain_blocking xs)) (subst (AreApart (blocking_bits (sequence xs))) (sym (chain_nonblocking xs)) r.apart);
  light = omega (arith, r.light, chain_weight xs);
  slots = omega (arith, r.slots, chain_weight xs);
  few = omega (arith, r.few, chain_weight xs);
}

pub adds_chain : (now ahead : List ℕ) (old new : Coding) (xs : List Statement) (now1 ahead1 : List ℕ) → AddsStatement now ahead old new (chain xs) now1 ahead1 → AddsStatement now ahead old new (sequence xs) now1 ahead1
adds_chain now ahead old new xs now1 ahead1 d =
    let w = chain_weight xs in
    let less : statement_weight (chain xs) ≤ statement_weight (sequence xs) = omega (arith, w) in
    record {
      calls = d.calls;
      is = d.is;
      done = done_as now ahead [] (λ state. []) old.next (body (chain xs)) (body (sequence xs)) (blocking_bits (sequence xs)) (nonblocking_bits (sequence xs)) (statement_weight (chain xs)) (statement_weight (sequence xs)) d.calls now1 ahead1 new.next (chain_body xs) less
          (subst (λ (bs : List ℕ). IsDone now ahead [] (λ state. []) old.next (body (chain xs)) bs (nonblocking_bits (sequence xs)) (statement_weight (chain xs)) d.calls now1 ahead1 new.next) (chain_blocking xs)
          (subst (λ (bs : List ℕ). IsDone now ahead [] (λ state. []) old.next (body (chain xs)) (blocking_bits (chain xs)) bs (statement_weight (chain xs)) d.calls now1 ahead1 new.next) (chain_nonblocking xs) d.done));
    }

-- what is done so far: whatever does the rest does all
abbrev pub IsSoFar : (now ahead : List ℕ) (old : Coding) (all rest : List Statement) (now1 ahead1 : List ℕ) (new : Coding) → Type 0
IsSoFar now ahead old all rest now1 ahead1 new =
    (last : Coding) (now2 ahead2 : List ℕ) → AddsStatement now1 ahead1 new last (chain rest) now2 ahead2 → AddsStatement now ahead old last (chain all) now2 ahead2

pub one_more : (now ahead : List ℕ) (c0 c1 c2 : Coding) (all : List Statement) (x : Statement) (rest : List Statement) (now1 ahead1 now2 ahead2 : List ℕ)
    → IsSoFar now ahead c0 all (x ∷ rest) now1 ahead1 c1 → AddsStatement now1 ahead1 c1 c2 x now2 ahead2 → IsSoFar now ahead c0 all rest now2 ahead2 c2
one_more now ahead c0 c1 c2 all x rest now1 ahead1 now2 ahead2 so d last now3 ahead3 r =
    so last now3 ahead3 (adds_then now1 ahead1 c1 c2 last x (chain rest) now2 ahead2 now3 ahead3 d r)
