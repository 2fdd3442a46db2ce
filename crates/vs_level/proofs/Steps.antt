-- What the steps of a search keep.
use Rattle.std.proofs.Common.{◌≡◌, ℕ, suc, ◌+◌, ◌-◌, ◌≤◌, ◌<◌, Bool, true, false, List, [], ◌∷◌, ◌++◌, ◌||◌, ◌==◌, refl, sym, ap, ◌∙◌, subst, length, reverse, arith, get_or, set, sum_by, get_or-set_same, get_or-set_other, eqb-true, eq-eqb, Some, None, ◌≢◌}
use Rattle.std.proofs.Math.ListN.{length-set}
use Rattle.std.proofs.lemmas.List.Sums.{sum_by-set}
use Rattle.vs_design.specs.Footprints.{contains}
use Rattle.vs_design.specs.Cycles.{AreApart}
use Rattle.vs_level.specs.declared.search.Mark.{Mark}
use Rattle.vs_level.specs.declared.search.Mark.TheVariants.{Fresh, Open, Placed}
use Rattle.vs_level.specs.Graph.{Feeding, feeders_at, is_node, is_fed_by, IsLinked, IsRing, IsClosed, IsPlaced, IsSorted}
use Rattle.vs_level.specs.Search.{Progress, mark_at, left_at, is_open, is_placed, first_of, rest_of, opened, with_placed, looked, IsWay, IsSearch, weight, effort, has_met, KeepsMet, IsUpTo}
use Rattle.vs_reads.proofs.Tests.{by_test, either_way, or_left, or_right, place_of, member_at, contains_head, contains_tail}
use Rattle.vs_level.proofs.Apart.{apart_left}

-- the path is this process and the rest of it
pub path_is : (s : Progress) (p : ℕ) → first_of s.path ≡ Some p → s.path ≡ p ∷ rest_of s.path
path_is s p h = go s.path h
  where
    go : (xs : List ℕ) → first_of xs ≡ Some p → xs ≡ p ∷ rest_of xs
    go [] h = cc
    go (x ∷ xs) h = cc

pub path_empty : (s : Progress) → first_of s.path ≡ None → s.path ≡ []
path_empty s h = go s.path h
  where
    go : (xs : List ℕ) → first_of xs ≡ None → xs ≡ []
    go [] h = refl
    go (x ∷ xs) h = cc

same_other : (q p : ℕ) → (q == p) ≡ false → q ≡ p → ⊥
same_other q p h e = either_way (q == p) (subst (λ m. (q == m) ≡ true) e (eq-eqb q q refl)) h

mark_other : (s : Progress) (p q : ℕ) (m : Mark) → (q == p) ≡ false → get_or (set s.marks p m) q Fresh ≡ mark_at s q
mark_other s p q m h = let ne : q ≢ p = same_other q p h in rw get_or-set_other refl

mark_same : (s : Progress) (p : ℕ) (m : Mark) → p < length s.marks → get_or (set s.marks p m) p Fresh ≡ m
mark_same s p m h = rw get_or-set_same refl

-- what is open or placed is a process
pub open_mark : (g : Feeding) (s : Progress) (p : ℕ) → IsSearch g s → contains s.path p ≡ true → mark_at s p ≡ Open
open_mark g s p i h = go (mark_at s p) (sym (i.are_open p) ∙ h)
  where
    go : (m : Mark) → is_open m ≡ true → m ≡ Open
    go Fresh h = cc
    go Open h = refl
    go Placed h = cc

pub placed_mark : (g : Feeding) (s : Progress) (p : ℕ) → IsSearch g s → mark_at s p ≡ Placed → contains s.placed p ≡ true
placed_mark g s p i h = i.are_placed p ∙ ap is_placed h

-- ---- a process is opened

pub search_opened : (g : Feeding) (s : Progress) (p : ℕ) → IsSearch g s → p < length s.marks → mark_at s p ≡ Fresh → is_node g p ≡ true → IsWay g (p ∷ s.path) → IsSearch g (opened s p)
search_opened g s p i l f n w = record {
  marks = length-set s.marks p Open ∙ i.marks;
  left = i.left;
  most = i.most;
  done = i.done;
  are_open = are_open;
  are_placed = are_placed;
  way = w;
  apart = (i.are_open p ∙ ap is_open f, i.apart);
  nodes = nodes;
  order = i.order;
}
  where
    are_open : (q : ℕ) → contains (p ∷ s.path) q ≡ is_open (get_or (set s.marks p Open) q Fresh)
    are_open q =
        by_test (q == p)
        (λ e. or_left (q == p) (contains s.path q) e ∙ sym (ap is_open (subst (λ m. get_or (set s.marks p Open) m Fresh ≡ Open) (sym (eqb-true q p e)) (mark_same s p Open l))))
        (λ e. ap (λ t. t || contains s.path q) e ∙ i.are_open q ∙ sym (ap is_open (mark_other s p q Open e)))

    are_placed : (q : ℕ) → contains s.placed q ≡ is_placed (get_or (set s.marks p Open) q Fresh)
    are_placed q =
        by_test (q == p)
        (λ e. subst (λ m. contains s.placed m ≡ is_placed (get_or (set s.marks p Open) m Fresh)) (sym (eqb-true q p e)) (i.are_placed p ∙ ap is_placed f ∙ sym (ap is_placed (mark_same s p Open l))))
        (λ e. i.are_placed q ∙ sym (ap is_placed (mark_other s p q Open e)))

    nodes : (q : ℕ) → contains (p ∷ s.path) q ≡ true → is_node g q ≡ true
    nodes q h =
        by_test (q == p)
        (λ e. subst (λ m. is_node g m ≡ true) (sym (eqb-true q p e)) n)
        (λ e. i.nodes q (subst (λ t. (t || contains s.path q) ≡ true) e h))

-- one that feeds the last open one
pub way_to : (g : Feeding) (s : Progress) (p q : ℕ) → IsSearch g s → first_of s.path ≡ Some p → is_fed_by g p q ≡ true → IsWay g (q ∷ s.path)
way_to g s p q i h f = subst (λ zs. IsWay g (q ∷ zs)) (sym (path_is s p h)) (f, subst (IsWay g) (path_is s p h) i.way)

pub way_alone : (g : Feeding) (s : Progress) (p : ℕ) → s.path ≡ [] → IsWay g (p ∷ s.path)
way_alone g s p h = subst (λ zs. IsWay g (p ∷ zs)) (sym h) tt

pub met_opened : (s : Progress) (p : ℕ) → KeepsMet s (opened s p)
met_opened s p q h = by_test (q == p) (λ e. rw e refl) (λ e. rw e h)

pub effort_opened : (g : Feeding) (s : Progress) (p : ℕ) → p < length s.marks → mark_at s p ≡ Fresh → effort (opened s p) < effort s
effort_opened g s p l f =
    let e : sum_by weight (set s.marks p Open) + weight (mark_at s p) ≡ sum_by weight s.marks + 1 = sum_by-set weight s.marks p Open Fresh l in
    let k : weight (mark_at s p) ≡ 2 = ap weight f in
    omega (arith, e, k)

-- ---- the last open process is placed

pub search_placed : (g : Feeding) (s : Progress) (p : ℕ) → IsSearch g s → p < length s.marks → first_of s.path ≡ Some p → left_at s p ≡ 0 → IsSearch g (with_placed s p)
search_placed g s p i l h z = record {
  marks = length-set s.marks p Placed ∙ i.marks;
  left = i.left;
  most = i.most;
  done = λ q k a b. contains_tail (get_or (feeders_at g q) k 0) p s.placed (i.done q k a b);
  are_open = are_open;
  are_placed = are_placed;
  way = way_rest (rest_of s.path) (subst (IsWay g) whole i.way);
  apart = apart.1;
  nodes = λ q c. i.nodes q (subst (λ zs. contains zs q ≡ true) (sym whole) (contains_tail q p (rest_of s.path) c));
  order = (i.are_placed p ∙ ap is_placed was_open, i.nodes p (subst (λ zs. contains zs p ≡ true) (sym whole) (contains_head p (rest_of s.path))), fed, i.order);
}
  where
    whole : s.path ≡ p ∷ rest_of s.path
    whole = path_is s p h

    was_open : mark_at s p ≡ Open
    was_open = open_mark g s p i (subst (λ zs. contains zs p ≡ true) (sym whole) (contains_head p (rest_of s.path)))

    apart : AreApart (p ∷ rest_of s.path)
    apart = subst AreApart whole i.apart

    way_rest : (zs : List ℕ) → IsWay g (p ∷ zs) → IsWay g zs
    way_rest [] w = tt
    way_rest (x ∷ zs) w = w.1

    fed : (q : ℕ) → is_fed_by g p q ≡ true → contains s.placed q ≡ true
    fed q f = let k = place_of (feeders_at g p) q f in subst (λ m. contains s.placed m ≡ true) k.2 (i.done p k.0 (omega (arith, z)) k.1)

    are_open : (q : ℕ) → contains (rest_of s.path) q ≡ is_open (get_or (set s.marks p Placed) q Fresh)
    are_open q =
        by_test (q == p)
        (λ e. subst (λ m. contains (rest_of s.path) m ≡ is_open (get_or (set s.marks p Placed) m Fresh)) (sym (eqb-true q p e)) (apart.0 ∙ sym (ap is_open (mark_same s p Placed l))))
        (λ e. sym (ap (λ t. t || contains (rest_of s.path) q) e) ∙ sym (ap (λ zs. contains zs q) whole) ∙ i.are_open q ∙ sym (ap is_open (mark_other s p q Placed e)))

    are_placed : (q : ℕ) → contains (p ∷ s.placed) q ≡ is_placed (get_or (set s.marks p Placed) q Fresh)
    are_placed q =
        by_test (q == p)
        (λ e. or_left (q == p) (contains s.placed q) e ∙ sym (ap is_placed (subst (λ m. get_or (set s.marks p Placed) m Fresh ≡ Placed) (sym (eqb-true q p e)) (mark_same s p Placed l))))
        (λ e. ap (λ t. t || contains s.placed q) e ∙ i.are_placed q ∙ sym (ap is_placed (mark_other s p q Placed e)))

pub met_placed : (s : Progress) (p : ℕ) → first_of s.path ≡ Some p → KeepsMet s (with_placed s p)
met_placed s p h q m = go (q == p) (contains (rest_of s.path) q) (contains s.placed q) (sym (ap (λ zs. contains zs q || contains s.placed q) (path_is s p h)) ∙ m)
  where
    go : (a b c : Bool) → ((a || b) || c) ≡ true → (b || (a || c)) ≡ true
    go true true c h = refl
    go true false c h = refl
    go false b c h = h

pub effort_placed : (s : Progress) (p : ℕ) → p < length s.marks → mark_at s p ≡ Open → effort (with_placed s p) < effort s
effort_placed s p l f =
    let e : sum_by weight (set s.marks p Placed) + weight (mark_at s p) ≡ sum_by weight s.marks + 0 = sum_by-set weight s.marks p Placed Fresh l in
    let k : weight (mark_at s p) ≡ 1 = ap weight f in
    omega (arith, e, k)

-- ---- a feeder was placed already

pub search_looked : (g : Feeding) (s : Progress) (p k : ℕ) → IsSearch g s → p < length s.left → suc k ≡ left_at s p → contains s.placed (get_or (feeders_at g p) k 0) ≡ true → IsSearch g (looked s p k)
search_looked g s p k i l e c = record {
  marks = i.marks;
  left = length-set s.left p k ∙ i.left;
  most = most;
  done = done;
  are_open = i.are_open;
  are_placed = i.are_placed;
  way = i.way;
  apart = i.apart;
  nodes = i.nodes;
  order = i.order;
}
  where
    left_same : get_or (set s.left p k) p 0 ≡ k
    left_same = rw get_or-set_same refl

    left_other : (q : ℕ) → (q == p) ≡ false → get_or (set s.left p k) q 0 ≡ left_at s q
    left_other q h = let ne : q ≢ p = same_other q p h in rw get_or-set_other refl

    most : (q : ℕ) → get_or (set s.left p k) q 0 ≤ length (feeders_at g q)
    most q =
        by_test (q == p)
        (λ h. subst (λ m. get_or (set s.left p k) m 0 ≤ length (feeders_at g m)) (sym (eqb-true q p h)) (subst (λ m. m ≤ length (feeders_at g p)) (sym left_same) (let m = i.most p in omega (arith, m, e))))
        (λ h. subst (λ m. m ≤ length (feeders_at g q)) (sym (left_other q h)) (i.most q))

    done_here : (j : ℕ) → k ≤ j → j < length (feeders_at g p) → contains s.placed (get_or (feeders_at g p) j 0) ≡ true
    done_here j a b =
        by_test (j == k)
        (λ h. subst (λ m. contains s.placed (get_or (feeders_at g p) m 0) ≡ true) (sym (eqb-true j k h)) c)
        (λ h. i.done p j (let ne : j ≢ k = same_other j k h in omega (arith, a, e)) b)

    done : (q j : ℕ) → get_or (set s.left p k) q 0 ≤ j → j < length (feeders_at g q) → contains s.placed (get_or (feeders_at g q) j 0) ≡ true
    done q j a b =
        by_test (q == p)
        (λ h. subst (λ m. contains s.placed (get_or (feeders_at g m) j 0) ≡ true) (sym (eqb-true q p h)) (done_here j (subst (λ m. m ≤ j) left_same (subst (λ m. get_or (set s.left p k) m 0 ≤ j) (eqb-true q p h) a)) (subst (λ m. j < length (feeders_at g m)) (eqb-true q p h) b)))
        (λ h. i.done q j (subst (λ m. m ≤ j) (left_other q h) a) b)

pub effort_looked : (s : Progress) (p k : ℕ) → p < length s.left → suc k ≡ left_at s p → effort (looked s p k) < effort s
effort_looked s p k l e =
    let f : sum_by (λ (n : ℕ). n) (set s.left p k) + left_at s p ≡ sum_by (λ (n : ℕ). n) s.left + k = sum_by-set (λ (n : ℕ). n) s.left p k 0 l in
    omega (arith, f, e)

-- ---- the feeder is open

linked : (g : Feeding) (xs : List ℕ) (q : ℕ) (ys : List ℕ) (last : ℕ) → IsWay g ((xs ++ q ∷ []) ++ ys) → is_fed_by g last q ≡ true → IsLinked g (xs ++ q ∷ []) last
linked g [] q ys last w f = f
linked g (x ∷ []) q ys last w f = (w.0, f)
linked g (x ∷ z ∷ xs) q ys last w f = (w.0, linked g (z ∷ xs) q ys last w.1 f)

ring_from : (g : Feeding) (p : ℕ) (rest before : List ℕ) (q : ℕ) (after : List ℕ) → p ∷ rest ≡ (before ++ q ∷ []) ++ after → IsWay g ((before ++ q ∷ []) ++ after) → AreApart (before ++ q ∷ []) → is_fed_by g p q ≡ true → IsRing g (before ++ q ∷ [])
ring_from g p rest [] q after e w a f = (subst (λ m. is_fed_by g m q ≡ true) (same_head p q rest after e) f, a)
  where
    same_head : (x y : ℕ) (xs ys : List ℕ) → x ∷ xs ≡ y ∷ ys → x ≡ y
    same_head x y xs ys e = cc
ring_from g p rest (b ∷ bs) q after e w a f = (subst (λ m. IsLinked g (b ∷ bs ++ q ∷ []) m) (same_head p b rest ((bs ++ q ∷ []) ++ after) e) (linked g (b ∷ bs) q after p w f), a)
  where
    same_head : (x y : ℕ) (xs ys : List ℕ) → x ∷ xs ≡ y ∷ ys → x ≡ y
    same_head x y xs ys e = cc

-- the way up to q, which feeds the last one
pub ring_of : (g : Feeding) (s : Progress) (p q : ℕ) (part : List ℕ) → IsSearch g s → first_of s.path ≡ Some p → is_fed_by g p q ≡ true → IsUpTo s.path q part → IsRing g part
ring_of g s p q part i h f u =
    let whole : s.path ≡ (u.before ++ q ∷ []) ++ u.after = u.is_whole ∙ ap (λ zs. zs ++ u.after) u.is_part in
    subst (IsRing g) (sym u.is_part)
    (ring_from g p (rest_of s.path) u.before q u.after (sym (path_is s p h) ∙ whole) (subst (IsWay g) whole i.way) (apart_left (u.before ++ q ∷ []) u.after (subst AreApart whole i.apart)) f)

-- ---- the end

-- with no process open, what was met is placed
pub met_is_placed : (s : Progress) (q : ℕ) → s.path ≡ [] → has_met s q ≡ true → contains s.placed q ≡ true
met_is_placed s q e h = subst (λ (zs : List ℕ). (contains zs q || contains s.placed q) ≡ true) e h

-- and what isn't fresh was met
pub met_mark : (g : Feeding) (s : Progress) (q : ℕ) → IsSearch g s → (mark_at s q ≡ Fresh → ⊥) → has_met s q ≡ true
met_mark g s q i h = go (mark_at s q) h (i.are_open q) (i.are_placed q)
  where
    go : (m : Mark) → (m ≡ Fresh → ⊥) → contains s.path q ≡ is_open m → contains s.placed q ≡ is_placed m → has_met s q ≡ true
    go Fresh h a b = absurd (h refl)
    go Open h a b = or_left (contains s.path q) (contains s.placed q) a
    go Placed h a b = or_right (contains s.path q) (contains s.placed q) b

-- ---- all of these are processes

pub last_there : (g : Feeding) (s : Progress) (p : ℕ) → IsClosed g → IsSearch g s → first_of s.path ≡ Some p → p < length g.feeders
last_there g s p c i h = c.there p (i.nodes p (subst (λ zs. contains zs p ≡ true) (sym (path_is s p h)) (contains_head p (rest_of s.path))))

pub feeder_there : (g : Feeding) (p k : ℕ) → IsClosed g → k < length (feeders_at g p) → get_or (feeders_at g p) k 0 < length g.feeders
feeder_there g p k c h = c.there (get_or (feeders_at g p) k 0) (c.feeders p (get_or (feeders_at g p) k 0) (member_at (feeders_at g p) k h))

pub last_mark : (g : Feeding) (s : Progress) (p : ℕ) → IsClosed g → IsSearch g s → first_of s.path ≡ Some p → p < length s.marks
last_mark g s p c i h = subst (λ n. p < n) (sym i.marks) (last_there g s p c i h)

pub last_left : (g : Feeding) (s : Progress) (p : ℕ) → IsClosed g → IsSearch g s → first_of s.path ≡ Some p → p < length s.left
last_left g s p c i h = subst (λ n. p < n) (sym i.left) (last_there g s p c i h)

pub last_open : (g : Feeding) (s : Progress) (p : ℕ) → IsSearch g s → first_of s.path ≡ Some p → mark_at s p ≡ Open
last_open g s p i h = open_mark g s p i (subst (λ zs. contains zs p ≡ true) (sym (path_is s p h)) (contains_head p (rest_of s.path)))

-- q is the feeder of p to look at next
pub record IsNext (g : Feeding) (s : Progress) (p k q : ℕ) : Type 0 where
  pub here : p < length s.left
  pub below : suc k ≡ left_at s p
  pub is : get_or (feeders_at g p) k 0 ≡ q
  pub fed : is_fed_by g p q ≡ true
  pub there : q < length s.marks

pub next_is : (g : Feeding) (s : Progress) (p n : ℕ) (fs : List ℕ) → IsClosed g → IsSearch g s → first_of s.path ≡ Some p → n ≡ left_at s p → 0 < left_at s p → fs ≡ feeders_at g p → IsNext g s p (n - 1) (get_or fs (n - 1) 0)
next_is g s p n fs c i h e z f = record {
  here = last_left g s p c i h;
  below = omega (arith, e, z);
  is = ap (λ xs. get_or xs (n - 1) 0) (sym f);
  fed = subst (λ xs. contains (feeders_at g p) (get_or xs (n - 1) 0) ≡ true) (sym f) (member_at (feeders_at g p) (n - 1) within);
  there = subst (λ m. get_or fs (n - 1) 0 < m) (sym i.marks) (subst (λ xs. get_or xs (n - 1) 0 < length g.feeders) (sym f) (feeder_there g p (n - 1) c within));
}
  where
    within : n - 1 < length (feeders_at g p)
    within = let m = i.most p in omega (arith, m, e, z)

pub found_node : (g : Feeding) (s : Progress) (p k q : ℕ) → IsClosed g → IsNext g s p k q → is_node g q ≡ true
found_node g s p k q c n = c.feeders p q n.fed

pub found_placed : (g : Feeding) (s : Progress) (p k q : ℕ) → IsSearch g s → IsNext g s p k q → mark_at s q ≡ Placed → contains s.placed (get_or (feeders_at g p) k 0) ≡ true
found_placed g s p k q i n m = subst (λ z. contains s.placed z ≡ true) (sym n.is) (placed_mark g s q i m)

-- ---- an order

-- each node to visit is a process
pub root_there : (g : Feeding) (s : Progress) (ns : List ℕ) (k : ℕ) → IsClosed g → IsSearch g s → ns ≡ g.nodes → k < length ns → get_or ns k 0 < length s.marks
root_there g s ns k c i e l = subst (λ m. get_or ns k 0 < m) (sym i.marks) (c.there (get_or ns k 0) (subst (λ zs. contains zs (get_or ns k 0) ≡ true) e (member_at ns k l)))

pub sorted : (g : Feeding) (s : Progress) (order : List ℕ) → IsSearch g s → s.path ≡ [] → ((k : ℕ) → k < length g.nodes → contains s.placed (get_or g.nodes k 0) ≡ true) → reverse order ≡ s.placed → IsSorted g order
sorted g s order i e h r = record {
  placed = subst (IsPlaced g) (sym r) i.order;
  all = λ p n. subst (λ zs. contains zs p ≡ true) (sym r) (let k = place_of g.nodes p n in subst (λ m. contains s.placed m ≡ true) k.2 (h k.0 k.1));
}
