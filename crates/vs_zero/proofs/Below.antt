-- Bits that are written, all among the first n.
use Rattle.std.proofs.Common.{◌≡◌, ℕ, zero, suc, ◌+◌, ◌-◌, ◌*◌, ◌<◌, ◌≤◌, Bool, true, false, List, [], ◌∷◌, ◌++◌, length, map, get_or, Option, Some, None, refl, sym, ap, ◌∙◌, subst, arith, ◌⊎◌, inl, inr, ◌≢◌}
use Rattle.std.specs.Prelude.{All, ◌||◌, ◌==◌, option_map, if◌then◌else◌}
use Rattle.std.proofs.lemmas.Bool.{cond-true}
use Rattle.std.proofs.lemmas.Bool.Decides.{nat_tests}
use Rattle.std.proofs.lemmas.List.Folds.{list_any-append}
use Rattle.vs_four.specs.Logic.{BitList}
use Rattle.vs_four.specs.Selects.{Part, places}
use Rattle.vs_design.specs.Expressions as E
use Rattle.vs_design.specs.Footprints.{contains, somes, statement_bits, arms_bits, target_bits}
use Rattle.vs_design.specs.Statements.{CaseKind, Whole, PartOf, Both, Statement}
use Rattle.vs_design.specs.Bodies.{is_taken}
use Rattle.vs_design.specs.Values.{constant_value, count_from, spread, address_place, word_places}
use Rattle.vs_flat.specs.declared.statements.Arm as F
use Rattle.vs_flat.specs.Arena.{Arena}
use Rattle.vs_flat.specs.Trees as R
use Rattle.vs_flat.specs.Trees.{joined}
use Rattle.vs_flat.specs.declared.expressions.Node.{Node}
use Rattle.vs_flat.specs.declared.expressions.Node.TheVariants.{Name, Local}
use Rattle.vs_flat.specs.DesignOf.{local_of}
use Rattle.vs_flat.specs.Targets.{source_of}
use Rattle.vs_sets.specs.Nodes.{place_of, signal_of, tree_of, tree_of_node}
use Rattle.vs_sets.specs.StatementParts.{Covers, statement_of, arms_of}
use Rattle.vs_sets.specs.TargetsOf.{IsTarget, target_tree}
use Rattle.vs_sets.proofs.Families.{count_has, same_or_other}
use Rattle.vs_sets.proofs.TargetFacts.{both_facts, joined_more, target_few}
use Rattle.vs_zero.specs.Constants.{TargetBelow, WritesBelow, taken_arm}
use Rattle.vs_zero.specs.States.{unknown}

-- ---- lists

or_left : (a b : Bool) → a ≡ true → (a || b) ≡ true
or_left true b h = refl
or_left false b h = absurd (let z : ⊥ = cc in z)

or_right : (a b : Bool) → b ≡ true → (a || b) ≡ true
or_right true b h = refl
or_right false b h = h

pub left_has : (xs ys : List ℕ) (b : ℕ) → contains xs b ≡ true → contains (xs ++ ys) b ≡ true
left_has xs ys b h = list_any-append (λ c. b == c) xs ys ∙ or_left (contains xs b) (contains ys b) h

pub right_has : (xs ys : List ℕ) (b : ℕ) → contains ys b ≡ true → contains (xs ++ ys) b ≡ true
right_has xs ys b h = list_any-append (λ c. b == c) xs ys ∙ or_right (contains xs b) (contains ys b) h

equal : (m n : ℕ) → m ≡ n → (m == n) ≡ true
equal m n h = grind (arith, nat_tests, h)

pub place_has : (first : ℕ) (ps : List (Option ℕ)) (k m : ℕ) → get_or ps k None ≡ Some m → contains (somes (map (λ p. option_map (λ n. first + n) p) ps)) (first + m) ≡ true
place_has first [] k m h = absurd (let z : ⊥ = cc in z)
place_has first (None ∷ ps) zero m h = absurd (let z : ⊥ = cc in z)
place_has first (None ∷ ps) (suc k) m h = place_has first ps k m h
place_has first (Some x ∷ ps) zero m h =
    let same : x ≡ m = cc in
    or_left ((first + m) == (first + x)) _ (equal (first + m) (first + x) (omega (arith, same)))
place_has first (Some x ∷ ps) (suc k) m h = or_right ((first + m) == (first + x)) _ (place_has first ps k m h)

run_at : (first n k : ℕ) → k < n → get_or (map Some (count_from first n)) k None ≡ Some (first + k)
run_at first zero k h = absurd (omega (arith, h))
run_at first (suc n) zero h = ap Some (omega arith)
run_at first (suc n) (suc k) h = run_at (suc first) n k (omega (arith, h)) ∙ ap Some (omega arith)

-- ---- targets

pub whole_below : (n : ℕ) (s : E.Signal) → 1 ≤ E.signal_length s → TargetBelow n (Whole s) → s.first + E.signal_length s ≤ n
whole_below n s some h =
    let last = s.first + (E.signal_length s - 1) in
    let l = h last (count_has s.first (E.signal_length s) last (omega arith) (omega (arith, some))) in
    omega (arith, l, some)

pub part_below : (n : ℕ) (src : E.Source) (s : E.Signal) (p : Part) (index : E.Expression) → src ≡ E.OfSignal s → E.is_constant index ≡ true → TargetBelow n (target_tree (E.Select src p index))
    → (k m : ℕ) → get_or (places p (E.sign index) (constant_value index)) k None ≡ Some m → s.first + m < n
part_below n src s p index e constant h k m at =
    let own : TargetBelow n (PartOf s p index) = subst (λ (x : E.Source). TargetBelow n (target_tree (E.Select x p index))) e h in
    own (s.first + m) (ap (λ bs. contains bs (s.first + m)) (cond-true (E.is_constant index) _ _ constant) ∙ place_has s.first (places p (E.sign index) (constant_value index)) k m at)

pub word_below : (n : ℕ) (s : E.Signal) (index : E.Expression) → E.is_constant index ≡ true → 1 ≤ E.word_length s → TargetBelow n (target_tree (E.Word s index))
    → (m : ℕ) → address_place s (E.sign index) (constant_value index) ≡ Some m → s.first + (m * E.word_length s + E.word_length s) ≤ n
word_below n s index constant some h m at =
    let len = E.word_length s in
    let last = m * len + (len - 1) in
    let is : get_or (word_places s (E.sign index) (constant_value index)) (len - 1) None ≡ Some last = ap (λ p. get_or (spread len p) (len - 1) None) at ∙ run_at (m * len) len (len - 1) (omega (arith, some)) in
    let l = h (s.first + last) (ap (λ bs. contains bs (s.first + last)) (cond-true (E.is_constant index) _ _ constant) ∙ place_has s.first (word_places s (E.sign index) (constant_value index)) (len - 1) last is) in
    omega (arith, l, some)

pub both_below : (tree : ℕ → E.Expression) (parts : List ℕ) (f : ℕ) (rest : List ℕ) (n : ℕ) → parts ≡ f ∷ rest → 0 < length rest → IsTarget (joined (map tree parts)) → TargetBelow n (target_tree (joined (map tree parts)))
    → TargetBelow n (target_tree (tree f)) × TargetBelow n (target_tree (joined (map tree rest)))
both_below tree parts f rest n e some target h =
    let whole = ap (λ (ps : List ℕ). joined (map tree ps)) e ∙ joined_more tree f rest some in
    let facts = both_facts (tree f) (joined (map tree rest)) (subst IsTarget whole target) in
    let both : TargetBelow n (Both (target_tree (tree f)) (target_tree (joined (map tree rest)))) = subst (TargetBelow n) (ap target_tree whole ∙ facts.is) h in
    (λ b k. both b (left_has (target_bits (target_tree (tree f))) (target_bits (target_tree (joined (map tree rest)))) b k), λ b k. both b (right_has (target_bits (target_tree (tree f))) (target_bits (target_tree (joined (map tree rest)))) b k))

-- ---- statements

listed_below : (n : ℕ) (bits : List ℕ) → All (λ b. b < n) bits → (b : ℕ) → contains bits b ≡ true → b < n
listed_below n [] all b h = absurd (let z : ⊥ = cc in z)
listed_below n (x ∷ bits) all b h = at (same_or_other b x) h (listed_below n bits (λ k d i. all (suc k) d (omega (arith, i))) b) where
  at : (((b == x) ≡ true) × (b ≡ x)) ⊎ (((b == x) ≡ false) × (b ≢ x)) → ((b == x) || contains bits b) ≡ true → (contains bits b ≡ true → b < n) → b < n
  at (inl e) i rest = let l = all 0 x (omega arith) in omega (arith, l, e.1)
  at (inr e) i rest = rest (sym (ap (λ q. q || contains bits b) e.0) ∙ i)

pub covered_below : (n : ℕ) (bits : List ℕ) (s : Statement) → All (λ b. b < n) bits → Covers bits s → WritesBelow n s
covered_below n bits s below covers b h = listed_below n bits below b (covers b h)

pub taken_below : (a : Arena) (n : ℕ) (kind : CaseKind) (w : ℕ) (g : Bool) (v : BitList) (other : Option ℕ) (arms : List F.Arm) → ((b : ℕ) → contains (arms_bits (arms_of a other arms)) b ≡ true → b < n)
    → WritesBelow n (R.branch (statement_of a) (taken_arm (tree_of a) kind w g v other arms))
taken_below a n kind w g v other [] h = λ b k. h b k
taken_below a n kind w g v other (arm ∷ arms) h =
    at (is_taken kind w g v (E.items_of (map (tree_of a) arm.items)) unknown) (taken_below a n kind w g v other arms (λ b k. h b (right_has (statement_bits (statement_of a arm.statement)) (arms_bits (arms_of a other arms)) b k)))
  where
    at : (t : Bool) → WritesBelow n (R.branch (statement_of a) (taken_arm (tree_of a) kind w g v other arms)) → WritesBelow n (R.branch (statement_of a) (if t then Some arm.statement else taken_arm (tree_of a) kind w g v other arms))
    at true rest = λ b k. h b (left_has (statement_bits (statement_of a arm.statement)) (arms_bits (arms_of a other arms)) b k)
    at false rest = rest

pub part_writes : (st : ℕ → Statement) (n : ℕ) (parts : List ℕ) (k : ℕ) → WritesBelow n (R.sequence (map st parts)) → k < length parts → WritesBelow n (st (get_or parts k 0))
part_writes st n [] k h l = absurd (omega (arith, l))
part_writes st n (p ∷ []) zero h l = h
part_writes st n (p ∷ []) (suc k) h l = absurd (omega (arith, l))
part_writes st n (p ∷ q ∷ parts) zero h l = λ b i. h b (left_has (statement_bits (st p)) (statement_bits (R.sequence (map st (q ∷ parts)))) b i)
part_writes st n (p ∷ q ∷ parts) (suc k) h l = part_writes st n (q ∷ parts) k (λ b i. h b (right_has (statement_bits (st p)) (statement_bits (R.sequence (map st (q ∷ parts)))) b i)) (omega (arith, l))

-- ---- names

at_end : (k first : ℕ) (place : ℕ) (e : E.Expression) (s : E.Signal) → e ≡ E.At place (E.Name s) → IsTarget e → TargetBelow k (target_tree e) → ((x : E.Signal) → source_of e ≡ E.OfSignal x → first ≡ x.first) → first + E.width e ≤ k
at_end k first place e s named target below begins =
    let few = target_few (E.At place (E.Name s)) (subst IsTarget named target) in
    let ends = whole_below k s few.0 (subst (λ x. TargetBelow k (target_tree x)) named below) in
    omega (arith, ends, begins s (ap source_of named), ap E.width named)

pub named_below : (a : Arena) (e k first : ℕ) (n : Node) → tree_of a e ≡ E.At (place_of a e) (tree_of_node a n) → ((x : ℕ) × (n ≡ Name x)) ⊎ ((f : ℕ) × (x : ℕ) × (n ≡ Local f x)) → IsTarget (tree_of a e) → TargetBelow k (target_tree (tree_of a e))
    → ((x : E.Signal) → source_of (tree_of a e) ≡ E.OfSignal x → first ≡ x.first) → first + E.width (tree_of a e) ≤ k
named_below a e k first n tree (inl (x, is)) target below begins = at_end k first (place_of a e) (tree_of a e) (signal_of a x) (tree ∙ ap (λ m. E.At (place_of a e) (tree_of_node a m)) is) target below begins
named_below a e k first n tree (inr (f, x, is)) target below begins = at_end k first (place_of a e) (tree_of a e) (local_of a f x) (tree ∙ ap (λ m. E.At (place_of a e) (tree_of_node a m)) is) target below begins
