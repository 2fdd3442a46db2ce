-- What the lowering of an `if` needs for its parts, and what it gives.
use Rattle.std.proofs.Common.{◌≡◌, ℕ, ◌+◌, ◌<◌, ◌≤◌, ◌^◌, true, ◌&&◌, List, [], ◌∷◌, ◌++◌, length, sym, ap, ◌∙◌, subst, arith, append-nil, inl, inr}
use Rattle.std.specs.List.{All}
use Rattle.std.proofs.lemmas.List.{ext_get_or}
use Rattle.std.proofs.lemmas.List.Elements.{All-weaker}
use Rattle.std.proofs.lemmas.List.Sums.{sum_by-append}
use Rattle.vs_design.specs.Expressions.{Expression, width, sign}
use Rattle.vs_design.specs.Statements.{Statement, If}
use Rattle.vs_design.specs.Fits.{fits, divides_constants, is_fit, fits_statement}
use Rattle.vs_design.specs.Footprints.{contains, statement_bits}
use Rattle.vs_design.specs.Races.{blocking_bits, nonblocking_bits}
use Rattle.vs_design.specs.Sizes.{distinct}
use Rattle.vs_kern_select.specs.declared.costs.Kernel.TheVariants as S
use Rattle.vs_code.specs.declared.kernels.AnyKernel.TheVariants.{Select}
use Rattle.vs_code.specs.Calls.{Call, call_cost, length_of}
use Rattle.vs_values.specs.Added.{IsEnv, fresh_call}
use Rattle.vs_values.specs.Coded.{Coding}
use Rattle.vs_lower.specs.Joined.{AreJoinable, AreJoined, IsJoinable, IsJoined, differing_bits, join_args}
use Rattle.vs_values.specs.Ready.{IsReady}
use Rattle.vs_lower.specs.Stated.{IsStatementReady, AddsStatement}
use Rattle.vs_values.specs.Valued.{AddsValue}
use Rattle.vs_values.proofs.Adding.{env_more}
use Rattle.vs_values.specs.Made.{IsCallable}
use Rattle.vs_lower.proofs.Apart.{apart_first, apart_rest}
use Rattle.vs_lower.proofs.Bodies.{if_done}
use Rattle.vs_lower.proofs.Branching.{CanJoin, HaveSides, IsFork, both_few, can_join}
use Rattle.vs_lower.proofs.Differing.{bits_alike, slots_are}
use Rattle.vs_lower.proofs.Joining.{IsMerged, picked, join_call, merged_call, merged_same}
use Rattle.vs_lower.proofs.Placing.{by_test}
use Rattle.vs_values.proofs.Readying.{fits_length, two_added}
use Rattle.vs_values.proofs.Values.{both_true}
use Rattle.vs_design.specs.Within.{names_within, statement_within}

-- ---- what its parts need

pub ready_if : (bits : ℕ) (now ahead : List ℕ) (code : Coding) (c : Expression) (taken other : Statement) → IsStatementReady bits now ahead code (If c taken other) → IsReady now code c (width c)
ready_if bits now ahead code c taken other r =
    let x = both_true (is_fit c && fits_statement taken) (fits_statement other) r.fit in
    let y = both_true (is_fit c) (fits_statement taken) x.0 in
    let l = fits_length c (both_true (fits c) (divides_constants c) y.0).0 in
    let n = both_true (names_within bits c && statement_within bits taken) (statement_within bits other) r.names in
    record {
      is_env = r.now_env;
      has_bits = subst (λ (k : ℕ). names_within k c ≡ true) (sym r.now_bits) (both_true (names_within bits c) (statement_within bits taken) n.0).0;
      fit = y.0;
      wide = omega arith;
      at_most_64 = l.1;
      light = omega (arith, r.light);
      slots = omega (arith, r.slots);
      few = omega (arith, r.few);
    }

pub ready_yes : (bits : ℕ) (now ahead : List ℕ) (c0 c1 : Coding) (c : Expression) (taken other : Statement) (tc : List ℕ)
    → IsStatementReady bits now ahead c0 (If c taken other) → AddsValue now c0.calls c0.next c1.calls c1.next c (width c) (sign c) tc → IsStatementReady bits now ahead c1 taken
ready_yes bits now ahead c0 c1 c taken other tc r v =
    let x = both_true (is_fit c && fits_statement taken) (fits_statement other) r.fit in
    let a = v.value.values.added in
    let total : length_of c1.calls ≡ length_of c0.calls + length_of v.calls = ap (λ (cs : List Call). length_of cs) v.is ∙ sum_by-append call_cost c0.calls v.calls in
    record {
      now_env = env_more now c0.next c1.next a.grown r.now_env;
      later_env = env_more ahead c0.next c1.next a.grown r.later_env;
      now_bits = r.now_bits;
      later_bits = r.later_bits;
      names = (both_true (names_within bits c) (statement_within bits taken) (both_true (names_within bits c && statement_within bits taken) (statement_within bits other) r.names).0).1;
      fit = (both_true (is_fit c) (fits_statement taken) x.0).1;
      apart = apart_first (blocking_bits taken) (blocking_bits other) (nonblocking_bits taken) (nonblocking_bits other) r.apart;
      light = omega (arith, r.light);
      slots = omega (arith, r.slots, a.paid, a.stores);
      few = omega (arith, r.few, total, a.stores);
    }

pub ready_no : (bits : ℕ) (now ahead : List ℕ) (c0 c1 c2 : Coding) (c : Expression) (taken other : Statement) (tc now1 ahead1 : List ℕ)
    → IsStatementReady bits now ahead c0 (If c taken other) → AddsValue now c0.calls c0.next c1.calls c1.next c (width c) (sign c) tc → AddsStatement now ahead c1 c2 taken now1 ahead1
    → IsStatementReady bits now ahead c2 other
ready_no bits now ahead c0 c1 c2 c taken other tc now1 ahead1 r v t =
    let a = v.value.values.added in
    let b = t.done.added in
    let total1 : length_of c1.calls ≡ length_of c0.calls + length_of v.calls = ap (λ (cs : List Call). length_of cs) v.is ∙ sum_by-append call_cost c0.calls v.calls in
    let total2 : length_of c2.calls ≡ length_of c1.calls + length_of t.calls = ap (λ (cs : List Call). length_of cs) t.is ∙ sum_by-append call_cost c1.calls t.calls in
    record {
      now_env = env_more now c0.next c2.next (omega (arith, a.grown, b.grown)) r.now_env;
      later_env = env_more ahead c0.next c2.next (omega (arith, a.grown, b.grown)) r.later_env;
      now_bits = r.now_bits;
      later_bits = r.later_bits;
      names = (both_true (names_within bits c && statement_within bits taken) (statement_within bits other) r.names).1;
      fit = (both_true (is_fit c && fits_statement taken) (fits_statement other) r.fit).1;
      apart = apart_rest (blocking_bits taken) (blocking_bits other) (nonblocking_bits taken) (nonblocking_bits other) r.apart;
      light = omega (arith, r.light);
      slots = omega (arith, r.slots, a.paid, a.stores, b.paid, b.stores);
      few = omega (arith, r.few, total1, total2, a.stores, b.stores);
    }

-- ---- an environment after both branches

-- where none differs, both are the same
fork_same : (env1 env2 bits : List ℕ) (next : ℕ) → IsFork env1 env2 bits next → differing_bits bits (picked env1 bits) env2 ≡ [] → env1 ≡ env2
fork_same env1 env2 bits next f none =
    ext_get_or 0 env1 env2 f.long (λ b l. by_test (contains bits b) (λ h. bits_alike env1 bits env2 b h (ap (λ (js : List ℕ). contains js b) none)) (f.same b))

-- the call of the join, in whatever way its arguments are told
is_join_call : (tc env1 env2 bits : List ℕ) (n : ℕ)
    → fresh_call (Select S.Branch) (join_args tc bits (picked env1 bits) env2) n (length (differing_bits bits (picked env1 bits) env2)) ≡ join_call tc env1 env2 (differing_bits bits (picked env1 bits) env2) n
is_join_call tc env1 env2 bits n =
    let js = differing_bits bits (picked env1 bits) env2 in
    ap (λ (x : List ℕ). fresh_call (Select S.Branch) (tc ∷ x ∷ picked env2 js ∷ []) n (length js)) (slots_are env1 bits env2)

-- its join
pub record Merges (env1 env2 tc : List ℕ) (old new : Coding) (env : List ℕ) (most : ℕ) : Type 0 where
  pub calls : List Call
  pub is : new.calls ≡ old.calls ++ calls
  pub merged : IsMerged env1 env2 tc old.next calls env new.next most

pub merges : (env1 env2 bits tc env3 : List ℕ) (old new : Coding) → IsFork env1 env2 bits old.next → All (λ slot. slot < old.next) tc → 4 ≤ old.next
    → ((differing_bits bits (picked env1 bits) env2 ≡ [] → ⊥) → CanJoin env1 env2 (differing_bits bits (picked env1 bits) env2) tc old)
    → IsJoined tc bits (picked env1 bits) env2 env3 old new
    → Merges env1 env2 tc old new env3 (length (differing_bits bits (picked env1 bits) env2))
merges env1 env2 bits tc env3 old new f below four can (inl q) =
    let js = differing_bits bits (picked env1 bits) env2 in
    let none : 0 ≡ length js = sym (ap (λ (xs : List ℕ). length xs) q.none) in
    record {
      calls = [];
      is = ap (λ (k : Coding). k.calls) q.same ∙ sym (append-nil old.calls);
      merged = subst (λ (k : Coding). IsMerged env1 env2 tc old.next [] env3 k.next (length js)) (sym q.same)
          (subst (λ (env : List ℕ). IsMerged env1 env2 tc old.next [] env old.next (length js)) (sym q.slots)
          (subst (λ (n : ℕ). IsMerged env1 env2 tc old.next [] env2 old.next n) none (merged_same env1 env2 tc old.next (fork_same env1 env2 bits old.next f q.none) f.below2)));
    }
merges env1 env2 bits tc env3 old new f below four can (inr q) =
    let js = differing_bits bits (picked env1 bits) env2 in
    let call = join_call tc env1 env2 js old.next in
    record {
      calls = call ∷ [];
      is = ap (λ (k : Coding). k.calls) q.call ∙ ap (λ (x : Call). old.calls ++ x ∷ []) (is_join_call tc env1 env2 bits old.next);
      merged = subst (λ (k : Coding). IsMerged env1 env2 tc old.next (call ∷ []) env3 k.next (length js)) (sym q.call)
          (subst (λ (env : List ℕ). IsMerged env1 env2 tc old.next (call ∷ []) env (old.next + length js) (length js)) (sym q.slots)
          (merged_call env1 env2 tc js old.next f.long below f.below1 (record { constants = four; below = f.below2 }) (can q.some).join));
    }

-- how much it adds
pub record HasGrown (old new : Coding) (most : ℕ) : Type 0 where
  pub grown : old.next ≤ new.next
  pub slots : new.next ≤ old.next + most
  pub stores : length_of new.calls ≤ length_of old.calls + most

pub total_of : (old new : Coding) (calls : List Call) → new.calls ≡ old.calls ++ calls → length_of new.calls ≡ length_of old.calls + length_of calls
total_of old new calls e = ap (λ (cs : List Call). length_of cs) e ∙ sum_by-append call_cost old.calls calls

pub merges_grown : (env1 env2 tc : List ℕ) (old new : Coding) (env : List ℕ) (most : ℕ) → Merges env1 env2 tc old new env most → HasGrown old new most
merges_grown env1 env2 tc old new env most m =
    let d = m.merged.added in
    let total = total_of old new m.calls m.is in
    record { grown = d.grown; slots = omega (arith, d.paid, d.stores); stores = omega (arith, total, d.stores) }

-- ---- both environments

-- what stands before their joins: this condition, and the slots after both branches, in which these bits alone differ, each in one of both environments
pub record AreForked (count : ℕ) (bits now1 later1 now2 later2 tc : List ℕ) (code : Coding) : Type 0 where
  pub now : IsFork now1 now2 bits code.next
  pub later : IsFork later1 later2 bits code.next
  pub now_long : length now2 ≡ count
  pub later_long : length later2 ≡ count
  pub inside : All (λ b. b < count) bits
  pub sides : HaveSides now1 later1 now2 later2
  pub below : All (λ slot. slot < code.next) tc
  pub some : 1 ≤ length tc
  pub short : length tc < 2 ^ 32
  pub constants : 4 ≤ code.next
  pub slots : code.next + length bits < 2 ^ 32
  pub few : length_of code.calls + length bits ≤ 2 ^ 32

in_env : (count : ℕ) (env bits : List ℕ) → length env ≡ count → All (λ b. b < count) bits → All (λ b. b < length env) bits
in_env count env bits e h = All-weaker (λ b. b < count) (λ b. b < length env) (λ b l. omega (arith, l, e)) bits h

now_joins : (count : ℕ) (bits now1 later1 now2 later2 tc : List ℕ) (code : Coding) → AreForked count bits now1 later1 now2 later2 tc code
    → (differing_bits bits (picked now1 bits) now2 ≡ [] → ⊥) → CanJoin now1 now2 (differing_bits bits (picked now1 bits) now2) tc code
now_joins count bits now1 later1 now2 later2 tc code f =
    let few = both_few bits now1 later1 now2 later2 f.sides in
    can_join now1 now2 bits tc code f.now (in_env count now2 bits f.now_long f.inside) f.below f.some f.short (omega (arith, few, f.slots)) (omega (arith, few, f.few))

fork_more : (env1 env2 bits : List ℕ) (m n : ℕ) → m ≤ n → IsFork env1 env2 bits m → IsFork env1 env2 bits n
fork_more env1 env2 bits m n l f = record {
  long = f.long;
  same = f.same;
  below1 = All-weaker (λ slot. slot < m) (λ slot. slot < n) (λ slot h. omega (arith, h, l)) env1 f.below1;
  below2 = All-weaker (λ slot. slot < m) (λ slot. slot < n) (λ slot h. omega (arith, h, l)) env2 f.below2;
}

later_joins : (count : ℕ) (bits now1 later1 now2 later2 tc : List ℕ) (code mid : Coding) → AreForked count bits now1 later1 now2 later2 tc code
    → HasGrown code mid (length (differing_bits bits (picked now1 bits) now2))
    → (differing_bits bits (picked later1 bits) later2 ≡ [] → ⊥) → CanJoin later1 later2 (differing_bits bits (picked later1 bits) later2) tc mid
later_joins count bits now1 later1 now2 later2 tc code mid f g =
    let few = both_few bits now1 later1 now2 later2 f.sides in
    can_join later1 later2 bits tc mid (fork_more later1 later2 bits code.next mid.next g.grown f.later) (in_env count later2 bits f.later_long f.inside)
    (All-weaker (λ slot. slot < code.next) (λ slot. slot < mid.next) (λ slot h. omega (arith, h, g.grown)) tc f.below) f.some f.short
    (omega (arith, few, f.slots, g.slots)) (omega (arith, few, f.few, g.stores))

-- what the joins give
pub record BothMerge (bits now1 later1 now2 later2 tc : List ℕ) (old new : Coding) (now3 later3 : List ℕ) : Type 0 where
  pub mid : Coding
  pub more : ℕ
  pub extra : ℕ
  pub now : Merges now1 now2 tc old mid now3 more
  pub later : Merges later1 later2 tc mid new later3 extra
  pub few : more + extra ≤ length bits

pub both_merge : (count : ℕ) (bits now1 later1 now2 later2 tc now3 later3 : List ℕ) (old new : Coding) → AreForked count bits now1 later1 now2 later2 tc old
    → AreJoined tc bits (picked now1 bits) (picked later1 bits) now2 later2 now3 later3 old new → BothMerge bits now1 later1 now2 later2 tc old new now3 later3
both_merge count bits now1 later1 now2 later2 tc now3 later3 old new f j =
    let a = merges now1 now2 bits tc now3 old j.mid f.now f.below f.constants (now_joins count bits now1 later1 now2 later2 tc old f) j.now_joined in
    let g = merges_grown now1 now2 tc old j.mid now3 (length (differing_bits bits (picked now1 bits) now2)) a in
    record {
      mid = j.mid;
      more = length (differing_bits bits (picked now1 bits) now2);
      extra = length (differing_bits bits (picked later1 bits) later2);
      now = a;
      later = merges later1 later2 bits tc later3 j.mid new (fork_more later1 later2 bits old.next j.mid.next g.grown f.later)
          (All-weaker (λ slot. slot < old.next) (λ slot. slot < j.mid.next) (λ slot h. omega (arith, h, g.grown)) tc f.below) (omega (arith, f.constants, g.grown))
          (later_joins count bits now1 later1 now2 later2 tc old j.mid f g) j.later_joined;
      few = both_few bits now1 later1 now2 later2 f.sides;
    }

-- the call of a join, in the words of its arguments
pub join_callable : (env1 env2 bits tc first : List ℕ) (code : Coding) → first ≡ picked env1 bits
    → ((differing_bits bits (picked env1 bits) env2 ≡ [] → ⊥) → CanJoin env1 env2 (differing_bits bits (picked env1 bits) env2) tc code)
    → IsJoinable tc bits first env2 code
join_callable env1 env2 bits tc first code e can =
    subst (λ (fs : List ℕ). IsJoinable tc bits fs env2 code) (sym e)
    (λ differ.
    let js = differing_bits bits (picked env1 bits) env2 in
    subst (λ (x : List ℕ). IsCallable code (Select S.Branch) (tc ∷ x ∷ picked env2 js ∷ []) (length js)) (sym (slots_are env1 bits env2)) (can differ).call)

pub both_joinable : (count : ℕ) (bits now1 later1 now2 later2 tc first_now first_later : List ℕ) (code : Coding) → AreForked count bits now1 later1 now2 later2 tc code
    → first_now ≡ picked now1 bits → first_later ≡ picked later1 bits → AreJoinable tc bits first_now first_later now2 later2 code
both_joinable count bits now1 later1 now2 later2 tc first_now first_later code f en el = record {
  now_call = join_callable now1 now2 bits tc first_now code en (now_joins count bits now1 later1 now2 later2 tc code f);
  later_call = λ now3 mid j.
      let k = subst (λ (x : List ℕ). IsJoined tc bits x now2 now3 code mid) en j in
      let a = merges now1 now2 bits tc now3 code mid f.now f.below f.constants (now_joins count bits now1 later1 now2 later2 tc code f) k in
      join_callable later1 later2 bits tc first_later mid el
      (later_joins count bits now1 later1 now2 later2 tc code mid f (merges_grown now1 now2 tc code mid now3 (length (differing_bits bits (picked now1 bits) now2)) a));
}

-- ---- the whole

three_added : (z a b d c1 c2 c3 : List Call) → c1 ≡ (z ++ a) → c2 ≡ (c1 ++ b) → c3 ≡ (c2 ++ d) → c3 ≡ (z ++ ((a ++ b) ++ d))
three_added z a b d c1 c2 c3 h k l = two_added z (a ++ b) d c2 c3 (two_added z a b c1 c2 h k) l

-- three parts, and then the joins
pub five_added : (z a b d e f c1 c2 c3 c4 c5 : List Call) → c1 ≡ (z ++ a) → c2 ≡ (c1 ++ b) → c3 ≡ (c2 ++ d) → c4 ≡ (c3 ++ e) → c5 ≡ (c4 ++ f) → c5 ≡ (z ++ ((((a ++ b) ++ d) ++ e) ++ f))
five_added z a b d e f c1 c2 c3 c4 c5 h k l m n =
    two_added z (((a ++ b) ++ d) ++ e) f c4 c5 (two_added z ((a ++ b) ++ d) e c3 c4 (three_added z a b d c1 c2 c3 h k l) m) n

pub adds_if : (now later : List ℕ) (c0 c1 c2 c3 c4 : Coding) (c : Expression) (taken other : Statement) (tc bits now1 later1 now2 later2 now3 later3 : List ℕ)
    → IsEnv now c0.next → IsEnv later c0.next
    → AddsValue now c0.calls c0.next c1.calls c1.next c (width c) (sign c) tc
    → AddsStatement now later c1 c2 taken now1 later1 → AddsStatement now later c2 c3 other now2 later2
    → BothMerge bits now1 later1 now2 later2 tc c3 c4 now3 later3 → length bits ≤ distinct (statement_bits taken ++ statement_bits other)
    → AddsStatement now later c0 c4 (If c taken other) now3 later3
adds_if now later c0 c1 c2 c3 c4 c taken other tc bits now1 later1 now2 later2 now3 later3 e f v t o m most = record {
  calls = (((v.calls ++ t.calls) ++ o.calls) ++ m.now.calls) ++ m.later.calls;
  is = five_added c0.calls v.calls t.calls o.calls m.now.calls m.later.calls c1.calls c2.calls c3.calls m.mid.calls c4.calls v.is t.is o.is m.now.is m.later.is;
  done = if_done now later c0.next c taken other v.calls tc c1.next t.calls now1 later1 c2.next o.calls now2 later2 c3.next m.now.calls now3 m.mid.next m.more m.later.calls later3 c4.next m.extra
      e f v.value t.done o.done m.now.merged m.later.merged (omega (arith, m.few, most));
}
