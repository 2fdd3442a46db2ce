-- Writes under a bar: the write to a part of a target and the join with what was there, and those of all parts.
use Rattle.std.proofs.Common.{◌≡◌, ◌⊎◌, inl, inr, ℕ, zero, suc, ◌+◌, ◌<◌, ◌≤◌, Bool, true, false, ◌&&◌, ◌||◌, ◌==◌, List, [], ◌∷◌, ◌++◌, if◌then◌else◌, map, length, slice_index, sum_by, Option, sym, ap, ◌∙◌, subst, refl, arith, eqb-true, true≢false}
use Rattle.std.specs.List.{All, Contains}
use Rattle.std.proofs.lemmas.List.Elements.{All-cons, All-head, All-nil, All-weaker}
use Rattle.std.proofs.lemmas.List.Sums.{sum_by-append, sum_by-cons}
use Rattle.vs_four.specs.Logic.{BitList}
use Rattle.vs_four.specs.Selects.{Part, places}
use Rattle.vs_net.specs.Network as N
use Rattle.vs_design.specs.Bodies.{target_writes}
use Rattle.vs_design.specs.Expressions.{Expression, Signal, is_constant, sign, signal_length}
use Rattle.vs_design.specs.Fits.{fits_target}
use Rattle.vs_design.specs.Footprints.{contains, target_bits}
use Rattle.vs_design.specs.Statements.{Target, PartOf, WordOf, target_width}
use Rattle.vs_design.specs.Values.{bits_of_signal, constant_value, count_from, word_places}
use Rattle.vs_design.specs.Within.{names_within, signal_within, target_within}
use Rattle.vs_design.proofs.WordParts.{part_bits_within}
use Rattle.vs_flat.specs.Arena.{Arena}
use Rattle.vs_flat.specs.DesignOf.{arena_signals, arena_trees}
use Rattle.vs_flat.specs.Trees.{signal_at, tree_at}
use Rattle.vs_code.specs.Calls.{call_cost, length_of}
use Rattle.vs_lower.specs.declared.leaves.Leaf.{Leaf}
use Rattle.vs_lower.specs.declared.leaves.Leaf.TheVariants as L
use Rattle.vs_values.specs.Added.{Holds, IsNew}
use Rattle.vs_values.specs.Coded.{Coding}
use Rattle.vs_lower.specs.Joined.{IsJoinable, IsJoined, differing_bits}
use Rattle.vs_lower.specs.Leaves.{leaf_name, leaf_target, leaves_of, named_signal}
use Rattle.vs_lower.specs.Unless.{AddsUnlessWrite, IsUnlessWriteReady, unless_weight}
use Rattle.vs_lower.specs.Written.{AddsWrites, AreIndexed, HasRoom, IsIndexed, IsVariedPart, write_weight}
use Rattle.vs_values.proofs.Adding.{added_more, added_within, called_parts, holds_after}
use Rattle.vs_values.proofs.Named.{all_run}
use Rattle.vs_values.proofs.Readying.{stores_of, two_added}
use Rattle.vs_values.proofs.Unary.{not_true}
use Rattle.vs_values.proofs.Values.{both_true}
use Rattle.vs_lower.proofs.Bars.{bar_stays, free_bar, one_truth}
use Rattle.vs_lower.proofs.Branching.{CanJoin, IsFork, can_join, differs, still_once}
use Rattle.vs_lower.proofs.Conditional.{Merges, join_callable, merges}
use Rattle.vs_lower.proofs.Distinct.{Once, distinct_most}
use Rattle.vs_lower.proofs.Joining.{picked}
use Rattle.vs_lower.proofs.Partwise.{fit_part, part_selecting, somes_within, word_selecting}
use Rattle.vs_lower.proofs.Placing.{by_test}
use Rattle.vs_lower.proofs.Reaching.{within_is}
use Rattle.vs_lower.proofs.Targets.{IsSelecting}
use Rattle.vs_lower.proofs.Widths.{distinct_length}

-- ---- one part

pub one_leaf : (a : Arena) (leaf : Leaf) → leaves_of (leaf_target a leaf) ≡ leaf_target a leaf ∷ []
one_leaf a (L.Whole signal) = refl
one_leaf a (L.Select signal range up width index) = refl
one_leaf a (L.Word signal index) = refl
one_leaf a (L.WordPart signal address range up width index) = refl

pub leaf_weighs : (a : Arena) (leaf : Leaf) → unless_weight (leaf_target a leaf) ≡ target_width (leaf_target a leaf) + write_weight (leaf_target a leaf)
leaf_weighs a leaf =
    let t = leaf_target a leaf in
    omega (arith, ap (λ (ts : List Target). sum_by write_weight ts) (one_leaf a leaf), sum_by-cons write_weight t [])

-- what the write alone needs
pub record IsLeafReady (env : List ℕ) (code : Coding) (t : Target) (ti value : List ℕ) : Type 0 where
  pub room : HasRoom env code (write_weight t)
  pub index_below : All (λ slot. slot < code.next) ti
  pub indexed : IsIndexed t ti

pub leaf_ready : (a : Arena) (env : List ℕ) (code : Coding) (leaf : Leaf) (ti value : List ℕ) (bar : ℕ) → IsUnlessWriteReady env code (leaf_target a leaf) (ti ∷ []) value bar → IsLeafReady env code (leaf_target a leaf) ti value
leaf_ready a env code leaf ti value bar r =
    let t = leaf_target a leaf in
    let weighs = leaf_weighs a leaf in
    let indexed : AreIndexed (t ∷ []) (ti ∷ []) = subst (λ (ts : List Target). AreIndexed ts (ti ∷ [])) (one_leaf a leaf) r.indexed in
    record {
      room = record { is_env = r.is_env; light = omega (arith, r.light, weighs); slots = omega (arith, r.slots, weighs); few = omega (arith, r.few, weighs) };
      index_below = All-head (λ to. All (λ slot. slot < code.next) to) ti [] r.at_below;
      indexed = indexed.0;
    }

-- ---- the bits of its signal

run_once : (first n : ℕ) → Once (count_from first n)
run_once first zero = tt
run_once first (suc n) = (not_true (contains (count_from (suc first) n) first) (λ h. above (suc first) n first h (omega arith)), run_once (suc first) n)
  where
    above : (m n b : ℕ) → contains (count_from m n) b ≡ true → b < m → ⊥
    above m zero b h l = true≢false (sym h)
    above m (suc n) b h l =
        by_test (b == m)
        (λ e. let same : b ≡ m = eqb-true b m e in omega (arith, l, same))
        (λ e. above (suc m) n b (sym (ap (λ (q : Bool). q || contains (count_from (suc m) n) b) e) ∙ h) (omega (arith, l)))

pub signal_once : (signal : Signal) → Once (bits_of_signal signal)
signal_once signal = run_once signal.first (signal_length signal)

selected_in : (t : Target) (signal : Signal) (index : Expression) (at : BitList → List (Option ℕ)) → IsSelecting t signal index at → (b : ℕ) → contains (target_bits t) b ≡ true → contains (bits_of_signal signal) b ≡ true
selected_in t signal index at s b h = by (is_constant index) refl
  where
    by : (q : Bool) → is_constant index ≡ q → contains (bits_of_signal signal) b ≡ true
    by true e = somes_within signal (at (constant_value index)) b (s.within (constant_value index)) (subst (λ (bs : List ℕ). contains bs b ≡ true) (s.fixed e) h)
    by false e = subst (λ (bs : List ℕ). contains bs b ≡ true) (s.varied e) h

pub leaf_covered : (a : Arena) (leaf : Leaf) (b : ℕ) → fits_target (leaf_target a leaf) ≡ true → contains (target_bits (leaf_target a leaf)) b ≡ true → contains (bits_of_signal (named_signal a (leaf_name leaf))) b ≡ true
leaf_covered a (L.Whole signal) b f h = h
leaf_covered a (L.Select signal range up width index) b f h =
    let s = named_signal a signal in
    let part : Part = record { range = range; up = up; width = width } in
    let i = tree_at (arena_trees a) index in
    selected_in (PartOf s part i) s i (places part (sign i)) (part_selecting s part i (fit_part s part i f).range) b h
leaf_covered a (L.Word signal index) b f h =
    let s = signal_at (arena_signals a) signal in
    let i = tree_at (arena_trees a) index in
    selected_in (WordOf s i) s i (word_places s (sign i)) (word_selecting s i) b h
leaf_covered a (L.WordPart signal address range up width index) b f h =
    part_bits_within (signal_at (arena_signals a) signal) (tree_at (arena_trees a) address) (record { range = range; up = up; width = width }) (tree_at (arena_trees a) index) b h

pub leaf_inside : (a : Arena) (n : ℕ) (leaf : Leaf) → target_within n (leaf_target a leaf) ≡ true → All (λ b. b < n) (bits_of_signal (named_signal a (leaf_name leaf)))
leaf_inside a n leaf h = let s = named_signal a (leaf_name leaf) in all_run s.first (signal_length s) n (within_is n s (named leaf h))
  where
    named : (l : Leaf) → target_within n (leaf_target a l) ≡ true → signal_within n (named_signal a (leaf_name l)) ≡ true
    named (L.Whole signal) h = h
    named (L.Select signal range up width index) h = (both_true (signal_within n (named_signal a signal)) (names_within n (tree_at (arena_trees a) index)) h).0
    named (L.Word signal index) h = (both_true (signal_within n (signal_at (arena_signals a) signal)) (names_within n (tree_at (arena_trees a) index)) h).0
    named (L.WordPart signal address range up width index) h =
        let s = signal_at (arena_signals a) signal in
        let both = both_true (signal_within n s && names_within n (tree_at (arena_trees a) address)) (names_within n (tree_at (arena_trees a) index)) h in
        (both_true (signal_within n s) (names_within n (tree_at (arena_trees a) address)) both.0).0

-- ---- where it is always reached

from_written : {A : Type 0} (mark x : ℕ) {B : Type 0} → A ⊎ (B ⊎ (mark ≤ x)) → A ⊎ (B ⊎ IsNew mark x)
from_written mark x (inl e) = inl e
from_written mark x (inr (inl c)) = inr (inl c)
from_written mark x (inr (inr l)) = inr (inr (inr l))

pub writes_free : (a : Arena) (env env1 : List ℕ) (code code1 : Coding) (leaf : Leaf) (ti value : List ℕ) (bar : ℕ) → bar ≡ 0 → AddsWrites env env1 code code1 (leaf_target a leaf) (ti ∷ []) value (write_weight (leaf_target a leaf))
    → AddsUnlessWrite env env1 code code1 (leaf_target a leaf) (ti ∷ []) value bar
writes_free a env env1 code code1 leaf ti value bar none w =
    let t = leaf_target a leaf in
    let d = w.written in
    subst (AddsUnlessWrite env env1 code code1 t (ti ∷ []) value) (sym none) (record {
      calls = w.calls;
      is = w.is;
      written = record {
        added = added_within code.next w.calls code1.next (write_weight t) (unless_weight t) (omega (arith, leaf_weighs a leaf)) d.added;
        is_env = d.is_env;
        same_length = d.same_length;
        kept = d.kept;
        from = λ b l. from_written code.next (slice_index env1 b) (d.from b l);
        values = λ before after state base h is called.
            subst (λ (q : Bool). Holds env1 after (if q then base else N.write_all base (target_writes t (map before value) state))) (sym (free_bar before h.constants)) (d.values before after state base h is called);
      };
    })

-- ---- under a bar

module _ (env env1 : List ℕ) (code code1 : Coding) (t : Target) (at : List (List ℕ)) (value : List ℕ) (bar : ℕ) (bits : List ℕ) (r : IsUnlessWriteReady env code t at value bar) (w : AddsWrites env env1 code code1 t at value (write_weight t))
    (weighs : unless_weight t ≡ target_width t + write_weight t) (light : IsVariedPart t at → ⊥) (once : Once bits) (covered : (b : ℕ) → contains (target_bits t) b ≡ true → contains bits b ≡ true) (inside : All (λ b. b < length env) bits) where
  outside : (b : ℕ) → contains bits b ≡ false → contains (target_bits t) b ≡ false
  outside b out = not_true (contains (target_bits t) b) (λ h. true≢false (sym (covered b h) ∙ out))

  fork : IsFork env env1 bits code1.next
  fork =
      let d = w.written in
      record {
        long = sym d.same_length;
        same = λ b out. sym (d.kept b (outside b out));
        below1 = All-weaker (λ slot. slot < code.next) (λ slot. slot < code1.next) (λ slot h. omega (arith, h, d.added.grown)) env r.is_env.below;
        below2 = d.is_env.below;
      }

  bar_there : All (λ slot. slot < code1.next) (bar ∷ [])
  bar_there = All-cons (λ slot. slot < code1.next) bar [] (omega (arith, r.bar_below, w.written.added.grown)) (All-nil (λ slot. slot < code1.next))

  -- what differs is written
  differ_in : (b : ℕ) → contains (differing_bits bits (picked env bits) env1) b ≡ true → contains (target_bits t) b ≡ true
  differ_in b h = by_test (contains (target_bits t) b) (λ e. e) (λ e. absurd (true≢false (sym h ∙ differs env env1 bits b (sym (w.written.kept b e)))))

  differ_few : length (differing_bits bits (picked env bits) env1) ≤ length (target_bits t)
  differ_few =
      let most = distinct_most (target_bits t) (differing_bits bits (picked env bits) env1) (still_once env env1 bits once) differ_in in
      omega (arith, most, distinct_length (target_bits t))

  few_stores : length_of w.calls + length (target_bits t) ≤ unless_weight t
  few_stores = omega (arith, w.few light, weighs)

  pub bar_joins : (differing_bits bits (picked env bits) env1 ≡ [] → ⊥) → CanJoin env env1 (differing_bits bits (picked env bits) env1) (bar ∷ []) code1
  bar_joins =
      can_join env env1 bits (bar ∷ []) code1 fork (All-weaker (λ b. b < length env) (λ b. b < length env1) (λ b l. omega (arith, l, w.written.same_length)) bits inside) bar_there (omega arith) (omega arith)
      (omega (arith, r.slots, few_stores, differ_few, w.written.added.paid))
      (omega (arith, r.few, few_stores, differ_few, stores_of code.calls w.calls code1.calls w.is))

  pub bar_joinable : (bs fs tc : List ℕ) → bs ≡ bits → fs ≡ picked env bits → tc ≡ bar ∷ [] → IsJoinable tc bs fs env1 code1
  bar_joinable bs fs tc eb ef et =
      subst (λ (x : List ℕ). IsJoinable x bs fs env1 code1) (sym et) (subst (λ (x : List ℕ). IsJoinable (bar ∷ []) x fs env1 code1) (sym eb) (join_callable env env1 bits (bar ∷ []) fs code1 ef bar_joins))

  pub writes_barred : (env2 : List ℕ) (code2 : Coding) → IsJoined (bar ∷ []) bits (picked env bits) env1 env2 code1 code2 → AddsUnlessWrite env env2 code code2 t at value bar
  writes_barred env2 code2 j =
      let d = w.written in
      let m : Merges env env1 (bar ∷ []) code1 code2 env2 (length (differing_bits bits (picked env bits) env1)) = merges env env1 bits (bar ∷ []) env2 code1 code2 fork bar_there (omega (arith, r.is_env.constants, d.added.grown)) bar_joins j in
      let both = added_more code.next w.calls code1.next (write_weight t) m.calls code2.next (length (differing_bits bits (picked env bits) env1)) d.added m.merged.added in
      let total = sum_by-append call_cost w.calls m.calls in
      record {
        calls = w.calls ++ m.calls;
        is = two_added code.calls w.calls m.calls code1.calls code2.calls w.is m.is;
        written = record {
          added = record { are_calls = both.are_calls; named = both.named; fresh = both.fresh; grown = both.grown; paid = both.paid; stores = omega (arith, total, few_stores, differ_few, m.merged.added.stores) };
          is_env = record { constants = omega (arith, r.is_env.constants, both.grown); below = m.merged.below };
          same_length = m.merged.long ∙ d.same_length;
          kept = λ b h. m.merged.kept b (sym (d.kept b h)) ∙ d.kept b h;
          from = λ b l. from b l (m.merged.from b (omega (arith, l, d.same_length)));
          values = λ before after state base h is called.
              let parts = called_parts w.calls m.calls before after called in
              let mid = parts.0 in
              let written = d.values before mid state base h is parts.1 in
              let kept = holds_after env w.calls code.next before mid base r.is_env d.added.fresh parts.1 h in
              let merged = m.merged.values mid after (map mid (bar ∷ [])) base (N.write_all base (target_writes t (map before value) state)) kept written refl parts.2 in
              subst (λ (q : Bool). Holds env2 after (if q then base else N.write_all base (target_writes t (map before value) state))) (one_truth (mid bar) ∙ bar_stays w.calls code.next before mid bar d.added.fresh parts.1 r.bar_below) merged;
        };
      }
    where
      new : (x : ℕ) → IsNew code1.next x → IsNew code.next x
      new x (inl h) = inl h
      new x (inr h) = inr (omega (arith, h, w.written.added.grown))

      from : (b : ℕ) → b < length env → (slice_index env2 b ≡ slice_index env1 b) ⊎ IsNew code1.next (slice_index env2 b) → (slice_index env2 b ≡ slice_index env b) ⊎ (Contains value (slice_index env2 b) ⊎ IsNew code.next (slice_index env2 b))
      from b l (inl e) =
          subst (λ (x : ℕ). (x ≡ slice_index env b) ⊎ (Contains value x ⊎ IsNew code.next x)) (sym e) (from_written code.next (slice_index env1 b) (w.written.from b l))
      from b l (inr k) = inr (inr (new (slice_index env2 b) k))
