-- One more expression over the last ones.
use Rattle.std.proofs.Common.{◌≡◌, ℕ, zero, suc, ◌+◌, ◌-◌, ◌<◌, ◌≤◌, ◌^◌, true, List, [], ◌∷◌, ◌++◌, length, get_or, map, max, take, drop, Result, Ok, Err, OnOk, OnErr, refl, sym, ap, ◌∙◌, subst, arith, append_assoc, length-append, drop-cons}
use Rattle.std.proofs.lemmas.List.{map-append, take-append-drop, length-map}
use Rattle.vs_design.specs.Expressions as E
use Rattle.vs_design.specs.Elaborated.{is_formed}
use Rattle.vs_flat.specs.declared.expressions.Node.{Node}
use Rattle.vs_flat.specs.Arena.{Arena, placed, with_node}
use Rattle.vs_flat.specs.Named.{all_below, node_expressions, covers_node}
use Rattle.vs_flat.specs.Trees.{tree_at, placed_tree}
use Rattle.vs_flat.specs.DesignOf.{arena_names, arena_trees, design_of}
use Rattle.vs_flat.specs.Lawful.{has_copies, node_names, deepest, node_depths}
use Rattle.vs_flat.proofs.Agreeing.{below_append, first_below, rest_below}
use Rattle.vs_grammar.specs.Shapes.{Each}
use Rattle.vs_build.specs.Drafts.{Root, Draft, home_in, and_root, and_roots, most_levels, EndsWith, AddsExpression}
use Rattle.vs_build.specs.Growth.{times, open_header, current, expression_header, IsGrowing, root_at, body_at, draft_of}
use Rattle.vs_build.proofs.Counting.{times-append, each_counted, each_parts}
use Rattle.vs_build.proofs.Nodes.{node_kept, node_draft, roots_below}

-- ---- lists that end alike

pub append_same : {A : Type 0} (xs ys us ws : List A) → xs ++ us ≡ ys ++ ws → length us ≡ length ws → (xs ≡ ys) × (us ≡ ws)
append_same [] [] us ws e h = (refl, e)
append_same [] (y ∷ ys) us ws e h = absurd (omega (arith, ap length e, length-append ys ws, h))
append_same (x ∷ xs) [] us ws e h = absurd (omega (arith, ap length e, length-append xs us, h))
append_same (x ∷ xs) (y ∷ ys) us ws e h =
    let rest : xs ++ us ≡ ys ++ ws = cc in
    let r = append_same xs ys us ws rest h in
    let first : x ≡ y = cc in
    let more : xs ≡ ys = r.0 in
    let same : x ∷ xs ≡ y ∷ ys = cc in
    (same, r.1)

none_over : {A : Type 0} (xs : List A) (i : ℕ) → length xs ≤ i → drop i xs ≡ []
none_over [] zero l = refl
none_over [] (suc i) l = refl
none_over (x ∷ xs) zero l = absurd (omega arith)
none_over (x ∷ xs) (suc i) l = none_over xs i (omega arith)

at_end : (xs : List ℕ) (k x : ℕ) → k + 1 ≡ length xs → x ≡ get_or xs k x → drop k xs ≡ x ∷ []
at_end xs k x h e = drop-cons xs k x (omega (arith, h)) ∙ ap (λ y. y ∷ drop (suc k) xs) (sym e) ∙ ap (λ ys. x ∷ ys) (none_over xs (suc k) (omega (arith, h)))

pub last_one : (xs : List ℕ) (x : ℕ) → 1 ≤ length xs → x ≡ get_or xs (length xs - 1) x → xs ≡ take (length xs - 1) xs ++ x ∷ []
last_one xs x h e = sym (take-append-drop (length xs - 1) xs) ∙ ap (λ ys. take (length xs - 1) xs ++ ys) (at_end xs (length xs - 1) x (omega arith) e)

next : (xs : List ℕ) (i k x : ℕ) (ys : List ℕ) → i < length xs → k ≡ suc i → x ≡ get_or xs i x → drop k xs ≡ ys → drop i xs ≡ x ∷ ys
next xs i k x ys h j e d = drop-cons xs i x h ∙ ap (λ y. y ∷ drop (suc i) xs) (sym e) ∙ ap (λ n. x ∷ drop n xs) (sym j) ∙ ap (λ zs. x ∷ zs) d

pub last_two : (xs : List ℕ) (x y : ℕ) → 2 ≤ length xs → x ≡ get_or xs (length xs - 2) x → y ≡ get_or xs (length xs - 1) y → xs ≡ take (length xs - 2) xs ++ x ∷ y ∷ []
last_two xs x y h e f =
    sym (take-append-drop (length xs - 2) xs)
    ∙ ap (λ zs. take (length xs - 2) xs ++ zs) (next xs (length xs - 2) (length xs - 1) x (y ∷ []) (omega arith) (omega arith) e (at_end xs (length xs - 1) y (omega arith) f))

pub last_three : (xs : List ℕ) (x y z : ℕ) → 3 ≤ length xs → x ≡ get_or xs (length xs - 3) x → y ≡ get_or xs (length xs - 2) y → z ≡ get_or xs (length xs - 1) z → xs ≡ take (length xs - 3) xs ++ x ∷ y ∷ z ∷ []
last_three xs x y z h e f g =
    sym (take-append-drop (length xs - 3) xs)
    ∙ ap (λ zs. take (length xs - 3) xs ++ zs)
    (next xs (length xs - 3) (length xs - 2) x (y ∷ z ∷ []) (omega arith) (omega arith) e (next xs (length xs - 2) (length xs - 1) y (z ∷ []) (omega arith) (omega arith) f (at_end xs (length xs - 1) z (omega arith) g)))

-- ---- what stands on the stack of expressions

pub ends_enough : (count : ℕ) (a : Arena) (rs bs : List ℕ) → EndsWith count (draft_of a rs bs) → count ≤ length rs
ends_enough count a rs bs e =
    omega (arith, ap (λ (s : Draft). length s.expressions) e.is, length-map rs (root_at a), length-append e.before.expressions e.last, e.many)

-- the last trees are those of the last numbers
pub parts_are : (a : Arena) (rest used bs : List ℕ) (s : Draft) (ts : List Root) → draft_of a (rest ++ used) bs ≡ and_roots s ts → length used ≡ length ts → (map (root_at a) used ≡ ts) × (draft_of a rest bs ≡ s)
parts_are a rest used bs s ts e h =
    let trees : map (root_at a) rest ++ map (root_at a) used ≡ s.expressions ++ ts = sym (map-append (root_at a) rest used) ∙ ap (λ (d : Draft). d.expressions) e in
    let p = append_same (map (root_at a) rest) s.expressions (map (root_at a) used) ts trees (length-map used (root_at a) ∙ h) in (
      p.1,
      ap (λ d. record (draft_of a rest bs) { design = d }) (ap (λ (d : Draft). d.design) e)
          ∙ ap (λ xs. (let r : Draft = record { design = s.design; function = open_header a; expressions = xs; statements = map (body_at a) bs } in r)) p.0
          ∙ ap (λ o. (let r : Draft = record { design = s.design; function = o; expressions = s.expressions; statements = map (body_at a) bs } in r)) (ap (λ (d : Draft). d.function) e)
          ∙ ap (λ xs. (let r : Draft = record { design = s.design; function = s.function; expressions = s.expressions; statements = xs } in r)) (ap (λ (d : Draft). d.statements) e),
    )

pub levels_are : (a : Arena) (used : List ℕ) → deepest (node_depths a.nodes) used ≡ most_levels (map (root_at a) used)
levels_are a [] = refl
levels_are a (n ∷ ns) = ap (λ x. max (get_or (node_depths a.nodes) n 0) x) (levels_are a ns)

pub used_below : (a : Arena) (rs rest used bs : List ℕ) → IsGrowing a rs bs → rs ≡ rest ++ used → all_below (length a.nodes) used ≡ true
used_below a rs rest used bs g e = (below_append (length a.nodes) rest used (subst (λ xs. all_below (length a.nodes) xs ≡ true) e (roots_below a rs bs g))).1

-- each of these is formed where the next one stands
abbrev pub AreFormed : Arena → List ℕ → Type 0
AreFormed a ns = Each (λ n. is_formed (current a) (tree_at (arena_trees a) n) ≡ true) ns

formed_here : (a : Arena) (rs bs ns : List ℕ) → IsGrowing a rs bs → all_below (length a.nodes) ns ≡ true → Each (λ n. expression_header a n ≡ open_header a) ns → AreFormed a ns
formed_here a rs bs [] g h k = tt
formed_here a rs bs (n ∷ ns) g h k =
    (subst (λ o. is_formed (home_in (design_of a) o) (tree_at (arena_trees a) n) ≡ true) k.0 (g.expressions n (first_below (length a.nodes) n ns h)), formed_here a rs bs ns g (rest_below (length a.nodes) n ns h) k.1)

pub used_formed : (a : Arena) (rs rest used bs : List ℕ) → IsGrowing a rs bs → rs ≡ rest ++ used → AreFormed a used
used_formed a rs rest used bs g e =
    formed_here a rs bs used g (used_below a rs rest used bs g e) (each_parts (λ n. expression_header a n ≡ open_header a) rest used (subst (Each (λ n. expression_header a n ≡ open_header a)) e g.rooted)).1

-- ---- the step

-- a node over the last numbers
pub record IsStep (a : Arena) (rs bs rest used : List ℕ) (n : Node) (at : ℕ) : Type 0 where
  pub growing : IsGrowing a rs bs
  pub is : rs ≡ rest ++ used
  pub names : (k : ℕ) → times k used ≡ times k (node_names n)
  pub covers : covers_node a n ≡ true
  pub copies : has_copies n ≡ true
  pub formed : is_formed (current a) (placed_tree (arena_names a) (tree_at (arena_trees a)) (placed n at)) ≡ true
  pub few : deepest (node_depths a.nodes) (node_expressions n) ≤ 255

-- what adding it does
pub record IsAdded {U F : Type 0} (r : Result U F) (a b : Arena) (rs after rest : List ℕ) (n : Node) (at : ℕ) : Type 0 where
  pub flat : OnOk r (b ≡ with_node a n at)
  pub roots : OnOk r (after ≡ rest ++ length a.nodes ∷ [])
  pub room : OnOk r (length a.nodes < 2 ^ 32 - 1)
  pub same_flat : OnErr r (b ≡ a)
  pub same_roots : OnErr r (after ≡ rs)

regrouped : (a : Arena) (rs bs rest used names : List ℕ) → IsGrowing a rs bs → rs ≡ rest ++ used → ((k : ℕ) → times k used ≡ times k names) → IsGrowing a (rest ++ names) bs
regrouped a rs bs rest used names g e h =
    let count : (k : ℕ) → times k (rest ++ names) ≡ times k rs = λ k. times-append k rest names ∙ ap (λ m. times k rest + m) (sym (h k)) ∙ sym (times-append k rest used) ∙ ap (times k) (sym e) in
    record {
      few_scopes = g.few_scopes;
      few_nodes = g.few_nodes;
      few_statements = g.few_statements;
      names = g.names;
      few_functions = g.few_functions;
      open_one = g.open_one;
      begun = g.begun;
      locals = g.locals;
      header = g.header;
      functions = g.functions;
      expressions = g.expressions;
      statements = g.statements;
      rooted = each_counted (λ n. expression_header a n ≡ open_header a) rs (rest ++ names) count g.rooted;
      embodied = g.embodied;
      copies = g.copies;
      assign_targets = g.assign_targets;
      statement_targets = g.statement_targets;
      expressions_once = λ k. omega (arith, g.expressions_once k, count k);
      expressions_there = λ k l. omega (arith, g.expressions_there k l, count k);
      statements_once = g.statements_once;
      statements_there = g.statements_there;
      node_chains = g.node_chains;
      statement_chains = g.statement_chains;
    }

pub step_kept : {U F : Type 0} (r : Result U F) (a b : Arena) (rs after bs rest used : List ℕ) (n : Node) (at : ℕ) → IsStep a rs bs rest used n at → IsAdded r a b rs after rest n at → IsGrowing b after bs
step_kept (Ok u) a b rs after bs rest used n at s d =
    subst (λ c. IsGrowing c after bs) (sym d.flat)
    (subst (λ xs. IsGrowing (with_node a n at) xs bs) (sym d.roots) (node_kept a rest bs n at (regrouped a rs bs rest used (node_names n) s.growing s.is s.names) s.covers d.room s.copies s.formed s.few))
step_kept (Err e) a b rs after bs rest used n at s d = subst (λ c. IsGrowing c after bs) (sym d.same_flat) (subst (λ xs. IsGrowing a xs bs) (sym d.same_roots) s.growing)

-- the tree of the new node, over what stood before the last ones
pub step_adds : {U F : Type 0} (r : Result U F) (a b : Arena) (rs after bs rest used : List ℕ) (n : Node) (at : ℕ) (s : Draft) (tree : E.Expression) (most : ℕ)
    → IsStep a rs bs rest used n at → IsAdded r a b rs after rest n at → draft_of a rest bs ≡ s
    → placed_tree (arena_names a) (tree_at (arena_trees a)) (placed n at) ≡ tree → deepest (node_depths a.nodes) (node_expressions n) ≤ most
    → OnOk r (AddsExpression s (draft_of b after bs) tree (1 + most))
step_adds (Ok u) a b rs after bs rest used n at s tree most p d before is few =
    record {
      levels = suc (deepest (node_depths a.nodes) (node_expressions n));
      few = omega (arith, few);
      is =
          ap (λ c. draft_of c after bs) d.flat ∙ ap (λ xs. draft_of (with_node a n at) xs bs) d.roots
          ∙ node_draft a rest bs n at p.growing.names (kept_below p.growing p.is)
          ∙ ap (λ c. and_root c (record { tree = placed_tree (arena_names a) (tree_at (arena_trees a)) (placed n at); levels = suc (deepest (node_depths a.nodes) (node_expressions n)) })) before
          ∙ ap (λ t. and_root s (record { tree = t; levels = suc (deepest (node_depths a.nodes) (node_expressions n)) })) is;
    }
  where
    kept_below : IsGrowing a rs bs → rs ≡ rest ++ used → all_below (length a.nodes) rest ≡ true
    kept_below g e = (below_append (length a.nodes) rest used (subst (λ xs. all_below (length a.nodes) xs ≡ true) e (roots_below a rs bs g))).0
step_adds (Err e) a b rs after bs rest used n at s tree most p d before is few = tt

-- ---- what was added one after the other

pub added_two : (s r v : Draft) (t u : E.Expression) (m n : ℕ) (x : AddsExpression s r t m) (y : AddsExpression r v u n) → v ≡ and_roots s (record { tree = t; levels = x.levels } ∷ record { tree = u; levels = y.levels } ∷ [])
added_two s r v t u m n x y =
    y.is ∙ ap (λ z. and_root z (record { tree = u; levels = y.levels })) x.is
    ∙ ap (λ xs. record s { expressions = xs }) (append_assoc s.expressions (record { tree = t; levels = x.levels } ∷ []) (record { tree = u; levels = y.levels } ∷ []))

pub added_three : (s r q v : Draft) (t u w : E.Expression) (m n k : ℕ) (x : AddsExpression s r t m) (y : AddsExpression r q u n) (z : AddsExpression q v w k)
    → v ≡ and_roots s (record { tree = t; levels = x.levels } ∷ record { tree = u; levels = y.levels } ∷ record { tree = w; levels = z.levels } ∷ [])
added_three s r q v t u w m n k x y z =
    z.is ∙ ap (λ c. and_root c (record { tree = w; levels = z.levels })) (added_two s r q t u m n x y)
    ∙ ap (λ xs. record s { expressions = xs }) (append_assoc s.expressions (record { tree = t; levels = x.levels } ∷ record { tree = u; levels = y.levels } ∷ []) (record { tree = w; levels = z.levels } ∷ []))
