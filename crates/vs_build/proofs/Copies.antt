-- Copies of parts that differ (IEEE 1364-2005, 5.1.14).
use Rattle.std.proofs.Common.{◌≡◌, ℕ, zero, suc, ◌+◌, ◌-◌, ◌≤◌, Bool, true, false, not, ◌&&◌, ◌||◌, ◌==◌, cond, nat_lt, List, [], ◌∷◌, ◌++◌, length, get_or, map, max, take, drop, Result, OnOk, refl, sym, ap, ◌∙◌, subst, arith, append_assoc, eqb-true, eq-eqb}
use Rattle.std.specs.Prelude.{nat_eq}
use Rattle.std.specs.List.{take_while}
use Rattle.std.specs.Cmp.Lexicographic.{pointwise}
use Rattle.std.proofs.lemmas.Bool.{le-leb}
use Rattle.std.proofs.lemmas.List.{take-append-drop, length-map, length-drop}
use Rattle.std.proofs.lemmas.List.Folds.{list_all-append}
use Rattle.std.proofs.lemmas.List.Sums.{take_while-cons}
use Rattle.std.proofs.Math.Seq.{take-length}
use Rattle.vs_four.specs.Lengths.{repeat}
use Rattle.vs_design.specs.Expressions as E
use Rattle.vs_design.specs.Fits.{fits_64}
use Rattle.vs_design.specs.Footprints.{contains}
use Rattle.vs_design.specs.Elaborated.{is_nil, is_formed}
use Rattle.vs_flat.specs.declared.expressions.Node.TheVariants as N
use Rattle.vs_flat.specs.Arena.{Arena, placed}
use Rattle.vs_flat.specs.Named.{all_below}
use Rattle.vs_flat.specs.Trees.{first_copy, copy_count, joined, tree_at, placed_tree}
use Rattle.vs_flat.specs.DesignOf.{arena_names, arena_trees}
use Rattle.vs_flat.specs.Lawful.{are_different, are_copies, deepest, node_depths}
use Rattle.vs_flat.proofs.Agreeing.{and_both, and_true}
use Rattle.vs_flat.proofs.Different.{once_different}
use Rattle.vs_build.specs.Drafts.{Root, Draft, most_levels, EndsWith, AddsExpression, AddsParts}
use Rattle.vs_build.specs.Growth.{times, current, Growing, IsGrowing, root_at, draft_of, draft}
use Rattle.vs_build.proofs.Counting.{by_test, times-append, times_here, times_elsewhere}
use Rattle.vs_build.proofs.Steps.{ends_enough, parts_are, levels_are, used_below, AreFormed, used_formed, IsStep, IsAdded, step_adds}
use Rattle.vs_build.proofs.NodeKinds.{covered, ends_in, few_used}

pub nil_end : {A : Type 0} (ys : List A) → ys ≡ ys ++ []
nil_end [] = refl
nil_end (y ∷ ys) = ap (λ zs. y ∷ zs) (nil_end ys)

-- one copy more at the end is one more at the front
pub repeat_more : {A : Type 0} (n : ℕ) (xs : List A) → repeat n xs ++ xs ≡ repeat (suc n) xs
repeat_more zero xs = nil_end xs
repeat_more (suc n) xs = append_assoc xs (repeat n xs) xs ∙ ap (λ ys. xs ++ ys) (repeat_more n xs)

pub below_copies : (l n : ℕ) (xs : List ℕ) → all_below l xs ≡ true → all_below l (repeat n xs) ≡ true
below_copies l zero xs h = refl
below_copies l (suc n) xs h = list_all-append (λ m. nat_lt m l) xs (repeat n xs) ∙ and_true (all_below l xs) (all_below l (repeat n xs)) h (below_copies l n xs h)

deepest-append : (d xs ys : List ℕ) → deepest d (xs ++ ys) ≡ max (deepest d xs) (deepest d ys)
deepest-append d [] ys = omega arith
deepest-append d (x ∷ xs) ys = ap (λ m. max (get_or d x 0) m) (deepest-append d xs ys) ∙ omega arith

pub deepest_copies : (d : List ℕ) (n : ℕ) (xs : List ℕ) → deepest d (repeat n xs) ≤ deepest d xs
deepest_copies d zero xs = omega arith
deepest_copies d (suc n) xs = omega (arith, deepest-append d xs (repeat n xs), deepest_copies d n xs)

-- ---- the first copy

other : (k p : ℕ) → (p == k) ≡ false → not (k == p) ≡ true
other k p h = by_test (k == p) (λ e. absurd (clash (eq-eqb p k (sym (eqb-true k p e))))) (λ e. ap not e)
  where
    clash : (p == k) ≡ true → ⊥
    clash e = cc

passes : (f : ℕ → Bool) (x : ℕ) (xs ys : List ℕ) → f x ≡ true → take_while f xs ≡ ys → take_while f (x ∷ xs) ≡ x ∷ ys
passes f x xs ys h e = take_while-cons f x xs ∙ ap (λ b. cond b (x ∷ take_while f xs) []) h ∙ ap (λ zs. x ∷ zs) e

stops : (f : ℕ → Bool) (x : ℕ) (xs : List ℕ) → f x ≡ false → take_while f (x ∷ xs) ≡ []
stops f x xs h = take_while-cons f x xs ∙ ap (λ b. cond b (x ∷ take_while f xs) []) h

until : (p n : ℕ) (ps qs : List ℕ) → contains ps p ≡ false → take_while (λ k. not (k == p)) (ps ++ repeat n (p ∷ qs)) ≡ ps
until p zero [] qs h = refl
until p (suc n) [] qs h = stops (λ k. not (k == p)) p (qs ++ repeat n (p ∷ qs)) (ap not (eq-eqb p p refl))
until p n (k ∷ ps) qs h =
    by_test (p == k) (λ f. let t : (p == k) || contains ps p ≡ true = ap (λ b. b || contains ps p) f in cc)
    (λ f.
    let free : contains ps p ≡ false = sym (ap (λ b. b || contains ps p) f) ∙ h in
    passes (λ m. not (m == p)) k (ps ++ repeat n (p ∷ qs)) ps (other k p f) (until p n ps qs free))

pub first_of_copies : (n : ℕ) (xs : List ℕ) → are_different xs ≡ true → first_copy (repeat (suc n) xs) ≡ xs
first_of_copies zero [] h = refl
first_of_copies (suc n) [] h = first_of_copies n [] h
first_of_copies n (p ∷ ps) h =
    let free : contains ps p ≡ false = by_test (contains ps p) (λ c. let t : not (contains ps p) ≡ false = ap not c in let b = (and_both (not (contains ps p)) (are_different ps) h).0 in cc) (λ c. c) in
    ap (λ zs. p ∷ zs) (until p n ps ps free)

absent : (n : ℕ) (ms : List ℕ) → contains ms n ≡ false → times n ms ≡ 0
absent n [] h = refl
absent n (m ∷ ms) h =
    by_test (n == m) (λ e. let t : (n == m) || contains ms n ≡ true = ap (λ b. b || contains ms n) e in cc)
    (λ e.
    let rest : contains ms n ≡ false = sym (ap (λ b. b || contains ms n) e) ∙ h in
    by_test (m == n) (λ f. absurd (clash (eq-eqb n m (sym (eqb-true m n f))) e)) (λ f. omega (arith, times_elsewhere n m ms f, absent n ms rest)))
  where
    clash : (n == m) ≡ true → (n == m) ≡ false → ⊥
    clash f g = cc

times_copies : (k n : ℕ) (xs : List ℕ) → times k xs ≡ 1 → times k (repeat n xs) ≡ n
times_copies k zero xs h = refl
times_copies k (suc n) xs h = omega (arith, times-append k xs (repeat n xs), times_copies k n xs h, h)

first_once : (p : ℕ) (ps : List ℕ) → are_different (p ∷ ps) ≡ true → times p (p ∷ ps) ≡ 1
first_once p ps h =
    let free : contains ps p ≡ false = by_test (contains ps p) (λ c. let t : not (contains ps p) ≡ false = ap not c in let b = (and_both (not (contains ps p)) (are_different ps) h).0 in cc) (λ c. c) in
    omega (arith, times_here p p ps (eq-eqb p p refl), absent p ps free)

pub count_of_copies : (n : ℕ) (xs : List ℕ) → 1 ≤ length xs → are_different xs ≡ true → copy_count (repeat (suc n) xs) ≡ suc n
count_of_copies n [] some h = absurd (omega arith)
count_of_copies n (p ∷ ps) some h =
    let all : times p (repeat (suc n) (p ∷ ps)) ≡ suc n = times_copies p (suc n) (p ∷ ps) (first_once p ps h) in
    omega (arith, times_here p p (ps ++ repeat n (p ∷ ps)) (eq-eqb p p refl), all)

itself : (xs : List ℕ) → pointwise nat_eq xs xs ≡ true
itself [] = refl
itself (x ∷ xs) = and_true (nat_eq x x) (pointwise nat_eq xs xs) (eq-eqb x x refl) (itself xs)

pub copies_are : (n : ℕ) (xs : List ℕ) → 1 ≤ length xs → are_different xs ≡ true → are_copies (repeat (suc n) xs) ≡ true
copies_are n [] some h = absurd (omega arith)
copies_are n (p ∷ ps) some h =
    let xs : List ℕ = p ∷ ps in
    let first : first_copy (repeat (suc n) xs) ≡ xs = first_of_copies n xs h in
    let count : copy_count (repeat (suc n) xs) ≡ suc n = count_of_copies n xs some h in
    and_true (not (is_nil (repeat (suc n) xs)) && are_different (first_copy (repeat (suc n) xs))) (pointwise nat_eq (repeat (suc n) xs) (repeat (copy_count (repeat (suc n) xs)) (first_copy (repeat (suc n) xs))))
    (and_true true (are_different (first_copy (repeat (suc n) xs))) refl (ap are_different first ∙ h))
    (ap (λ ys. pointwise nat_eq (repeat (suc n) xs) (repeat (copy_count (repeat (suc n) xs)) ys)) first ∙ ap (λ k. pointwise nat_eq (repeat (suc n) xs) (repeat k xs)) count ∙ itself (repeat (suc n) xs))

-- ---- the step

joined_formed : (a : Arena) (x : ℕ) (xs : List ℕ) → AreFormed a (x ∷ xs) → is_formed (current a) (joined (map (tree_at (arena_trees a)) (x ∷ xs))) ≡ true
joined_formed a x [] h = h.0
joined_formed a x (y ∷ ys) h = and_true (is_formed (current a) (tree_at (arena_trees a) x)) (is_formed (current a) (joined (map (tree_at (arena_trees a)) (y ∷ ys)))) h.0 (joined_formed a y ys h.1)

pub trees_of : (a : Arena) (used : List ℕ) → map (λ (r : Root). r.tree) (map (root_at a) used) ≡ map (tree_at (arena_trees a)) used
trees_of a [] = refl
trees_of a (x ∷ xs) = ap (λ ts. tree_at (arena_trees a) x ∷ ts) (trees_of a xs)

join_tree : (a : Arena) (used : List ℕ) (n at : ℕ) → 1 ≤ length used → are_different used ≡ true
    → placed_tree (arena_names a) (tree_at (arena_trees a)) (placed (N.Join (repeat (suc n) used)) at) ≡ E.At at (E.Repeat (suc n) (joined (map (tree_at (arena_trees a)) used)))
join_tree a used n at some h =
    ap (λ k. E.At at (E.Repeat k (joined (map (tree_at (arena_trees a)) (first_copy (repeat (suc n) used)))))) (count_of_copies n used some h)
    ∙ ap (λ ys. E.At at (E.Repeat (suc n) (joined (map (tree_at (arena_trees a)) ys)))) (first_of_copies n used h)

pub join_step : (a : Arena) (rs rest used bs : List ℕ) (n at : ℕ) → IsGrowing a rs bs → rs ≡ rest ++ used → 1 ≤ length used → suc n ≤ 64 → EndsWith (length used) (draft_of a rs bs) → IsStep a rs bs rest used (N.Join (repeat (suc n) used)) at
join_step a rs rest [] bs n at g e some most ends = absurd (omega arith)
join_step a rs rest (x ∷ xs) bs n at g e some most ends =
    let used : List ℕ = x ∷ xs in
    let below = used_below a rs rest used bs g e in
    let different : are_different used ≡ true =
    once_different used (λ k. omega (arith, g.expressions_once k, ap (times k) e, times-append k rest used))
    in
    let fits : fits_64 (suc n) ≡ true = and_true _ _ (le-leb 1 (suc n) (omega arith)) (le-leb (suc n) 64 (omega (arith, most))) in
    record {
      growing = g;
      is = e;
      names = λ k. ap (times k) (sym (first_of_copies n used different));
      covers = covered (all_below (length a.nodes) (repeat (suc n) used)) (below_copies (length a.nodes) (suc n) used below);
      copies = copies_are n used some different;
      formed = ap (is_formed (current a)) (join_tree a used n at some different) ∙ and_true (fits_64 (suc n)) (is_formed (current a) (joined (map (tree_at (arena_trees a)) used))) fits (joined_formed a x xs (used_formed a rs rest used bs g e));
      few = omega (arith, deepest_copies (node_depths a.nodes) (suc n) used, few_used (length used) a rs rest used bs e refl ends);
    }

pub join_adds : {U F : Type 0} (r : Result U F) (a b : Arena) (rs after rest used bs : List ℕ) (n at : ℕ) (s : Draft) (ts : List E.Expression) (m : ℕ)
    → IsStep a rs bs rest used (N.Join (repeat (suc n) used)) at → IsAdded r a b rs after rest (N.Join (repeat (suc n) used)) at → 1 ≤ length used → AddsParts s (draft_of a rs bs) ts m → length ts ≡ length used
    → OnOk r (AddsExpression s (draft_of b after bs) (E.At at (E.Repeat (suc n) (joined ts))) (1 + m))
join_adds r a b rs after rest used bs n at s ts m p d some h l =
    let q = parts_are a rest used bs s h.roots (ap (λ xs. draft_of a xs bs) (sym p.is) ∙ h.is) (sym l ∙ ap length (sym h.are) ∙ length-map h.roots (λ (r : Root). r.tree)) in
    let different : are_different used ≡ true = once_different used (λ k. omega (arith, p.growing.expressions_once k, ap (times k) p.is, times-append k rest used)) in
    let trees : map (tree_at (arena_trees a)) used ≡ ts = sym (trees_of a used) ∙ ap (map (λ (r : Root). r.tree)) q.0 ∙ h.are in
    step_adds r a b rs after bs rest used (N.Join (repeat (suc n) used)) at s (E.At at (E.Repeat (suc n) (joined ts))) m p d q.1
    (join_tree a used n at some different ∙ ap (λ xs. E.At at (E.Repeat (suc n) (joined xs))) trees)
    (omega (arith, deepest_copies (node_depths a.nodes) (suc n) used, levels_are a used, ap most_levels q.0, h.few))

-- ---- found at the end of the stack

pub split_at : (rs : List ℕ) (k : ℕ) → rs ≡ take k rs ++ drop k rs
split_at rs k = sym (take-append-drop k rs)

pub used_length : (rs : List ℕ) (count : ℕ) → count ≤ length rs → length (drop (length rs - count) rs) ≡ count
used_length rs count h = length-drop (length rs - count) rs ∙ omega arith

pub join_found : (a : Arena) (rs bs : List ℕ) (v : Growing) (count copies at : ℕ) → IsGrowing a rs bs → (let w : Growing = record { arena = a; roots = rs; bodies = bs } in w) ≡ v → EndsWith count (draft v) → 1 ≤ count → 1 ≤ copies → copies ≤ 64
    → IsStep a rs bs (take (length rs - count) rs) (drop (length rs - count) rs) (N.Join (repeat copies (drop (length rs - count) rs))) at
join_found a rs bs v count zero at g view h some one most = absurd (omega arith)
join_found a rs bs v count (suc n) at g view h some one most =
    let ends = ends_in count a rs bs v view h in
    let l = used_length rs count (ends_enough count a rs bs ends) in
    join_step a rs (take (length rs - count) rs) (drop (length rs - count) rs) bs n at g (split_at rs (length rs - count)) (omega (arith, l, some)) most (subst (λ k. EndsWith k (draft_of a rs bs)) (sym l) ends)

pub join_added : {U F : Type 0} (r : Result U F) (a b : Arena) (rs after bs : List ℕ) (v : Growing) (count copies at : ℕ) (s : Draft) (ts : List E.Expression) (m : ℕ) → (let w : Growing = record { arena = a; roots = rs; bodies = bs } in w) ≡ v → EndsWith count (draft v)
    → IsStep a rs bs (take (length rs - count) rs) (drop (length rs - count) rs) (N.Join (repeat copies (drop (length rs - count) rs))) at
    → IsAdded r a b rs after (take (length rs - count) rs) (N.Join (repeat copies (drop (length rs - count) rs))) at → 1 ≤ count → 1 ≤ copies → AddsParts s (draft v) ts m → length ts ≡ count
    → OnOk r (AddsExpression s (draft_of b after bs) (E.At at (E.Repeat copies (joined ts))) (1 + m))
join_added r a b rs after bs v count zero at s ts m view h p d some one parts l = absurd (omega arith)
join_added r a b rs after bs v count (suc n) at s ts m view h p d some one parts l =
    let k = used_length rs count (ends_enough count a rs bs (ends_in count a rs bs v view h)) in
    join_adds r a b rs after (take (length rs - count) rs) (drop (length rs - count) rs) bs n at s ts m p d (omega (arith, k, some)) (subst (λ (w : Growing). AddsParts s (draft w) ts m) (sym view) parts) (l ∙ sym k)

-- where the copies were made
pub join_parts : (a : Arena) (rs bs : List ℕ) (v : Growing) (count copies at : ℕ) (ps : List ℕ) → ps ≡ repeat copies (drop (length rs - count) rs) → IsGrowing a rs bs → (let w : Growing = record { arena = a; roots = rs; bodies = bs } in w) ≡ v
    → EndsWith count (draft v) → 1 ≤ count → 1 ≤ copies → copies ≤ 64 → IsStep a rs bs (take (length rs - count) rs) (drop (length rs - count) rs) (N.Join ps) at
join_parts a rs bs v count copies at ps e g view h some one most =
    subst (λ xs. IsStep a rs bs (take (length rs - count) rs) (drop (length rs - count) rs) (N.Join xs) at) (sym e) (join_found a rs bs v count copies at g view h some one most)

pub join_part_adds : {U F : Type 0} (r : Result U F) (a b : Arena) (rs after bs : List ℕ) (v : Growing) (count copies at : ℕ) (ps : List ℕ) → ps ≡ repeat copies (drop (length rs - count) rs) → (s : Draft) (ts : List E.Expression) (m : ℕ)
    → (let w : Growing = record { arena = a; roots = rs; bodies = bs } in w) ≡ v → EndsWith count (draft v)
    → IsStep a rs bs (take (length rs - count) rs) (drop (length rs - count) rs) (N.Join ps) at → IsAdded r a b rs after (take (length rs - count) rs) (N.Join ps) at → 1 ≤ count → 1 ≤ copies → AddsParts s (draft v) ts m → length ts ≡ count
    → OnOk r (AddsExpression s (draft_of b after bs) (E.At at (E.Repeat copies (joined ts))) (1 + m))
join_part_adds r a b rs after bs v count copies at ps e s ts m view h p d some one parts l =
    join_added r a b rs after bs v count copies at s ts m view h
    (subst (λ xs. IsStep a rs bs (take (length rs - count) rs) (drop (length rs - count) rs) (N.Join xs) at) e p)
    (subst (λ xs. IsAdded r a b rs after (take (length rs - count) rs) (N.Join xs) at) e d) some one parts l

pub slice_rest : (rs xs : List ℕ) (len count : ℕ) → xs ≡ rs → len ≡ length rs → take (length xs - (len - count)) (drop (len - count) xs) ≡ drop (length rs - count) rs
slice_rest rs xs len count e h =
    ap (λ ys. take (length ys - (len - count)) (drop (len - count) ys)) e
    ∙ ap (λ n. take (length rs - (n - count)) (drop (n - count) rs)) h
    ∙ ap (λ n. take n (drop (length rs - count) rs)) (sym (length-drop (length rs - count) rs)) ∙ take-length (drop (length rs - count) rs)
