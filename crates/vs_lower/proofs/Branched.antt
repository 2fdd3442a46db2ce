-- An `if`: what its statements leave, and what its joins begin with.
use Rattle.std.proofs.Common.{◌≡◌, ℕ, ◌<◌, ◌≤◌, ◌&&◌, false, List, [], ◌++◌, length, slice_index, sym, ◌∙◌, arith, ◌⊎◌, inl, inr}
use Rattle.std.specs.List.{All}
use Rattle.std.proofs.lemmas.List.Elements.{All-head, All-weaker}
use Rattle.vs_design.specs.Expressions.{Expression, width, sign}
use Rattle.vs_design.specs.Fits.{fits, divides_constants, is_fit, fits_statement}
use Rattle.vs_design.specs.Footprints.{contains, statement_bits}
use Rattle.vs_design.specs.Races.{blocking_bits, nonblocking_bits}
use Rattle.vs_design.specs.Sizes.{distinct}
use Rattle.vs_design.specs.Statements.{Statement, If}
use Rattle.vs_values.specs.Coded.{Coding}
use Rattle.vs_lower.specs.Stated.{IsStatementReady, AddsStatement, AreAmong, AreApart, AreInOrder}
use Rattle.vs_values.specs.Valued.{AddsValue}
use Rattle.vs_lower.proofs.Apart.{blocking_among, nonblocking_among, outside}
use Rattle.vs_lower.proofs.Branching.{IsFork}
use Rattle.vs_lower.proofs.Conditional.{AreForked, total_of}
use Rattle.vs_lower.proofs.Distinct.{distinct_most}
use Rattle.vs_lower.proofs.Homeward.{rising_once}
use Rattle.vs_lower.proofs.Joining.{neither}
use Rattle.vs_lower.proofs.Placing.{by_test}
use Rattle.vs_values.proofs.Readying.{fits_length}
use Rattle.vs_values.proofs.Values.{both_true}

-- ---- what stays

-- an environment after which these bits alone have other slots, all below `next`
pub record IsKept (env after bits : List ℕ) (next : ℕ) : Type 0 where
  pub long : length after ≡ length env
  pub same : (b : ℕ) → contains bits b ≡ false → slice_index after b ≡ slice_index env b
  pub below : All (λ slot. slot < next) after

pub now_kept : (now later : List ℕ) (old new : Coding) (st : Statement) (now1 later1 : List ℕ) → AddsStatement now later old new st now1 later1 → IsKept now now1 (blocking_bits st) new.next
now_kept now later old new st now1 later1 d = record { long = d.done.now_length; same = d.done.now_kept; below = d.done.now_env.below }

pub later_kept : (now later : List ℕ) (old new : Coding) (st : Statement) (now1 later1 : List ℕ) → AddsStatement now later old new st now1 later1 → IsKept later later1 (nonblocking_bits st) new.next
later_kept now later old new st now1 later1 d = record { long = d.done.later_length; same = d.done.later_kept; below = d.done.later_env.below }

pub kept_more : (env after bits more : List ℕ) (next : ℕ) → AreAmong bits more → IsKept env after bits next → IsKept env after more next
kept_more env after bits more next among k = record { long = k.long; same = λ b out. k.same b (outside bits more b among out); below = k.below }

-- so do bits that are none that the statement writes
pub statement_now : (now later : List ℕ) (old new : Coding) (st : Statement) (now1 later1 : List ℕ) → AddsStatement now later old new st now1 later1 → IsKept now now1 (statement_bits st) new.next
statement_now now later old new st now1 later1 d = kept_more now now1 (blocking_bits st) (statement_bits st) new.next (blocking_among st) (now_kept now later old new st now1 later1 d)

pub statement_later : (now later : List ℕ) (old new : Coding) (st : Statement) (now1 later1 : List ℕ) → AddsStatement now later old new st now1 later1 → IsKept later later1 (statement_bits st) new.next
statement_later now later old new st now1 later1 d = kept_more later later1 (nonblocking_bits st) (statement_bits st) new.next (nonblocking_among st) (later_kept now later old new st now1 later1 d)

-- ---- forks

pub fork : (env env1 env2 bits1 bits2 bits : List ℕ) (n n1 n2 : ℕ) → n1 ≤ n → n2 ≤ n → AreAmong (bits1 ++ bits2) bits → IsKept env env1 bits1 n1 → IsKept env env2 bits2 n2 → IsFork env1 env2 bits n
fork env env1 env2 bits1 bits2 bits n n1 n2 l m among h k = record {
  long = h.long ∙ sym k.long;
  same = λ b out. let q = neither bits1 bits2 b (outside (bits1 ++ bits2) bits b among out) in h.same b q.0 ∙ sym (k.same b q.1);
  below1 = All-weaker (λ slot. slot < n1) (λ slot. slot < n) (λ slot x. omega (arith, x, l)) env1 h.below;
  below2 = All-weaker (λ slot. slot < n2) (λ slot. slot < n) (λ slot x. omega (arith, x, m)) env2 k.below;
}

-- a bit keeps its slot among the values now after both branches, or among those ahead
pub have_sides : (now later now1 later1 now2 later2 once1 once2 updated1 updated2 : List ℕ) (n1 n2 m1 m2 : ℕ) → AreApart (once1 ++ once2) (updated1 ++ updated2)
    → IsKept now now1 once1 n1 → IsKept now now2 once2 n2 → IsKept later later1 updated1 m1 → IsKept later later2 updated2 m2
    → (b : ℕ) → (slice_index now1 b ≡ slice_index now2 b) ⊎ (slice_index later1 b ≡ slice_index later2 b)
have_sides now later now1 later1 now2 later2 once1 once2 updated1 updated2 n1 n2 m1 m2 apart h1 h2 k1 k2 b =
    by_test (contains (updated1 ++ updated2) b)
    (λ e. let q = neither once1 once2 b (apart b e) in inl (h1.same b q.0 ∙ sym (h2.same b q.1)))
    (λ e. let q = neither updated1 updated2 b e in inr (k1.same b q.0 ∙ sym (k2.same b q.1)))

pub if_forked : (count : ℕ) (now later : List ℕ) (c0 c1 c2 c3 : Coding) (c : Expression) (taken other : Statement) (tc bits now1 later1 now2 later2 : List ℕ)
    → IsStatementReady count now later c0 (If c taken other)
    → AddsValue now c0.calls c0.next c1.calls c1.next c (width c) (sign c) tc
    → AddsStatement now later c1 c2 taken now1 later1 → AddsStatement now later c2 c3 other now2 later2
    → AreInOrder count bits (statement_bits taken ++ statement_bits other)
    → AreForked count bits now1 later1 now2 later2 tc c3
if_forked count now later c0 c1 c2 c3 c taken other tc bits now1 later1 now2 later2 r v t o i =
    let x = both_true (is_fit c && fits_statement taken) (fits_statement other) r.fit in
    let y = both_true (is_fit c) (fits_statement taken) x.0 in
    let l = fits_length c (both_true (fits c) (divides_constants c) y.0).0 in
    let a = v.value.values.added in
    let d = t.done.added in
    let e = o.done.added in
    let total1 = total_of c0 c1 v.calls v.is in
    let total2 = total_of c1 c2 t.calls t.is in
    let total3 = total_of c2 c3 o.calls o.is in
    let most : length bits ≤ distinct (statement_bits taken ++ statement_bits other) = distinct_most (statement_bits taken ++ statement_bits other) bits (rising_once bits i.rising) i.alone in
    record {
      now = fork now now1 now2 (statement_bits taken) (statement_bits other) bits c3.next c2.next c3.next e.grown (omega arith) i.all (statement_now now later c1 c2 taken now1 later1 t) (statement_now now later c2 c3 other now2 later2 o);
      later = fork later later1 later2 (statement_bits taken) (statement_bits other) bits c3.next c2.next c3.next e.grown (omega arith) i.all (statement_later now later c1 c2 taken now1 later1 t) (statement_later now later c2 c3 other now2 later2 o);
      now_long = o.done.now_length ∙ r.now_bits;
      later_long = o.done.later_length ∙ r.later_bits;
      inside = i.inside;
      sides = have_sides now later now1 later1 now2 later2 (blocking_bits taken) (blocking_bits other) (nonblocking_bits taken) (nonblocking_bits other) c2.next c3.next c2.next c3.next r.apart
          (now_kept now later c1 c2 taken now1 later1 t) (now_kept now later c2 c3 other now2 later2 o) (later_kept now later c1 c2 taken now1 later1 t) (later_kept now later c2 c3 other now2 later2 o);
      below = All-weaker (λ slot. slot < c1.next) (λ slot. slot < c3.next) (λ slot h. omega (arith, h, d.grown, e.grown)) tc (All-head (λ to. All (λ slot. slot < c1.next) to) tc [] v.value.values.below);
      some = omega (arith, v.value.length, l.0);
      short = omega (arith, v.value.length, l.1);
      constants = omega (arith, r.now_env.constants, a.grown, d.grown, e.grown);
      slots = omega (arith, r.slots, most, a.paid, a.stores, d.paid, d.stores, e.paid, e.stores);
      few = omega (arith, r.few, most, total1, total2, total3, a.stores, d.stores, e.stores);
    }
