-- One more statement over the last expressions and statements.
use Rattle.std.proofs.Common.{◌≡◌, ℕ, ◌+◌, ◌-◌, ◌<◌, ◌≤◌, ◌^◌, true, List, [], ◌∷◌, ◌++◌, length, get_or, map, max, Result, Ok, Err, OnOk, OnErr, refl, sym, ap, ◌∙◌, subst, arith, length-append}
use Rattle.std.proofs.lemmas.List.{map-append, length-map}
use Rattle.vs_design.specs.Expressions as E
use Rattle.vs_design.specs.Statements as T
use Rattle.vs_design.specs.Elaborated.{is_formed_statement}
use Rattle.vs_flat.specs.declared.statements.Statement.{Statement}
use Rattle.vs_flat.specs.Arena.{Arena, with_statement}
use Rattle.vs_flat.specs.Named.{all_below, statement_expressions, statement_statements, covers_statement}
use Rattle.vs_flat.specs.Trees.{tree_at, statement_at, statement_tree}
use Rattle.vs_flat.specs.DesignOf.{arena_trees, arena_statements, design_of}
use Rattle.vs_flat.specs.Lawful.{assigns_target, deepest, node_depths, statement_depths}
use Rattle.vs_flat.proofs.Agreeing.{and_true, below_append, first_below, rest_below}
use Rattle.vs_grammar.specs.Shapes.{Each}
use Rattle.vs_build.specs.Drafts.{Root, Body, Draft, home_in, and_roots, and_body, and_bodies, most_levels, most_body_levels, AddsStatement, Adds}
use Rattle.vs_build.specs.Growth.{open_header, current, statement_header, Growing, IsGrowing, root_at, body_at, draft_of, draft}
use Rattle.vs_build.proofs.Bodies.{levels_of, statement_kept, bodies_below, statement_draft}
use Rattle.vs_build.proofs.Counting.{each_parts}
use Rattle.vs_build.proofs.Steps.{append_same, levels_are, used_below}

-- ---- the statements that stand there

pub body_levels_are : (a : Arena) (used : List ℕ) → deepest (statement_depths (node_depths a.nodes) a.statements) used ≡ most_body_levels (map (body_at a) used)
body_levels_are a [] = refl
body_levels_are a (n ∷ ns) = ap (λ x. max (get_or (statement_depths (node_depths a.nodes) a.statements) n 0) x) (body_levels_are a ns)

pub used_bodies_below : (a : Arena) (rs bs brest bused : List ℕ) → IsGrowing a rs bs → bs ≡ brest ++ bused → all_below (length a.statements) bused ≡ true
used_bodies_below a rs bs brest bused g e = (below_append (length a.statements) brest bused (subst (λ xs. all_below (length a.statements) xs ≡ true) e (bodies_below a rs bs g))).1

-- each of these is formed where the next one stands
abbrev pub AreFormedBodies : Arena → List ℕ → Type 0
AreFormedBodies a ns = Each (λ n. is_formed_statement (current a) (statement_at (arena_statements a) n) ≡ true) ns

bodies_here : (a : Arena) (rs bs ns : List ℕ) → IsGrowing a rs bs → all_below (length a.statements) ns ≡ true → Each (λ n. statement_header a n ≡ open_header a) ns → AreFormedBodies a ns
bodies_here a rs bs [] g h k = tt
bodies_here a rs bs (n ∷ ns) g h k =
    (subst (λ o. is_formed_statement (home_in (design_of a) o) (statement_at (arena_statements a) n) ≡ true) k.0 (g.statements n (first_below (length a.statements) n ns h)), bodies_here a rs bs ns g (rest_below (length a.statements) n ns h) k.1)

pub used_bodies_formed : (a : Arena) (rs bs brest bused : List ℕ) → IsGrowing a rs bs → bs ≡ brest ++ bused → AreFormedBodies a bused
used_bodies_formed a rs bs brest bused g e =
    bodies_here a rs bs bused g (used_bodies_below a rs bs brest bused g e) (each_parts (λ n. statement_header a n ≡ open_header a) brest bused (subst (Each (λ n. statement_header a n ≡ open_header a)) e g.embodied)).1

-- what was added stands at the end
pub record AreLast (a : Arena) (rest used brest bused : List ℕ) (s : Draft) (trees : List E.Expression) (statements : List T.Statement) (most : ℕ) : Type 0 where
  pub before : draft_of a rest brest ≡ s
  pub expressions : map (tree_at (arena_trees a)) used ≡ trees
  pub parts : map (statement_at (arena_statements a)) bused ≡ statements
  pub few : deepest (node_depths a.nodes) used ≤ most
  pub low : deepest (statement_depths (node_depths a.nodes) a.statements) bused ≤ most

trees_of : (a : Arena) (used : List ℕ) → map (λ (r : Root). r.tree) (map (root_at a) used) ≡ map (tree_at (arena_trees a)) used
trees_of a [] = refl
trees_of a (x ∷ xs) = ap (λ ts. tree_at (arena_trees a) x ∷ ts) (trees_of a xs)

statements_of : (a : Arena) (used : List ℕ) → map (λ (b : Body). b.statement) (map (body_at a) used) ≡ map (statement_at (arena_statements a)) used
statements_of a [] = refl
statements_of a (x ∷ xs) = ap (λ ts. statement_at (arena_statements a) x ∷ ts) (statements_of a xs)

pub are_last : (a : Arena) (rs bs rest used brest bused : List ℕ) (s : Draft) (trees : List E.Expression) (statements : List T.Statement) (most : ℕ) → rs ≡ rest ++ used → bs ≡ brest ++ bused
    → Adds s (draft_of a rs bs) trees statements most → length used ≡ length trees → length bused ≡ length statements → AreLast a rest used brest bused s trees statements most
are_last a rs bs rest used brest bused s trees statements most e f h l m =
    let is : draft_of a (rest ++ used) (brest ++ bused) ≡ and_bodies (and_roots s h.roots) h.bodies = ap (λ xs. draft_of a xs (brest ++ bused)) (sym e) ∙ ap (λ xs. draft_of a rs xs) (sym f) ∙ h.is in
    let roots : map (root_at a) rest ++ map (root_at a) used ≡ s.expressions ++ h.roots = sym (map-append (root_at a) rest used) ∙ ap (λ (d : Draft). d.expressions) is in
    let bodies : map (body_at a) brest ++ map (body_at a) bused ≡ s.statements ++ h.bodies = sym (map-append (body_at a) brest bused) ∙ ap (λ (d : Draft). d.statements) is in
    let p = append_same (map (root_at a) rest) s.expressions (map (root_at a) used) h.roots roots (length-map used (root_at a) ∙ l ∙ ap length (sym h.trees_are) ∙ length-map h.roots (λ (r : Root). r.tree)) in
    let q = append_same (map (body_at a) brest) s.statements (map (body_at a) bused) h.bodies bodies (length-map bused (body_at a) ∙ m ∙ ap length (sym h.statements_are) ∙ length-map h.bodies (λ (b : Body). b.statement)) in
    record {
      before =
          ap (λ d. record (draft_of a rest brest) { design = d }) (ap (λ (d : Draft). d.design) is)
          ∙ ap (λ xs. (let r : Draft = record { design = s.design; function = open_header a; expressions = xs; statements = map (body_at a) brest } in r)) p.0
          ∙ ap (λ o. (let r : Draft = record { design = s.design; function = o; expressions = s.expressions; statements = map (body_at a) brest } in r)) (ap (λ (d : Draft). d.function) is)
          ∙ ap (λ xs. (let r : Draft = record { design = s.design; function = s.function; expressions = s.expressions; statements = xs } in r)) q.0;
      expressions = sym (trees_of a used) ∙ ap (map (λ (r : Root). r.tree)) p.1 ∙ h.trees_are;
      parts = sym (statements_of a bused) ∙ ap (map (λ (b : Body). b.statement)) q.1 ∙ h.statements_are;
      few = omega (arith, levels_are a used, ap most_levels p.1, h.few);
      low = omega (arith, body_levels_are a bused, ap most_body_levels q.1, h.low);
    }

-- ---- the step

-- a statement over the last numbers
pub record IsBodyStep (a : Arena) (rs bs rest used brest bused : List ℕ) (s : Statement) (at : ℕ) : Type 0 where
  pub growing : IsGrowing a rs bs
  pub roots : rs ≡ rest ++ used
  pub bodies : bs ≡ brest ++ bused
  pub expressions : statement_expressions s ≡ used
  pub parts : statement_statements s ≡ bused
  pub written : assigns_target (tree_at (arena_trees a)) s ≡ true
  pub formed : is_formed_statement (current a) (statement_tree (tree_at (arena_trees a)) (statement_at (arena_statements a)) at s) ≡ true
  pub few : deepest (node_depths a.nodes) used ≤ 255
  pub low : deepest (statement_depths (node_depths a.nodes) a.statements) bused ≤ 255

-- what adding it does
pub record IsBodyAdded {U F : Type 0} (r : Result U F) (a b : Arena) (rs after rest bs bodies brest : List ℕ) (s : Statement) (at : ℕ) : Type 0 where
  pub flat : OnOk r (b ≡ with_statement a s at)
  pub roots : OnOk r (after ≡ rest)
  pub parts : OnOk r (bodies ≡ brest ++ length a.statements ∷ [])
  pub room : OnOk r (length a.statements < 2 ^ 32 - 1)
  pub same_flat : OnErr r (b ≡ a)
  pub same_roots : OnErr r (after ≡ rs)
  pub same_parts : OnErr r (bodies ≡ bs)

pub body_covers : (a : Arena) (rs bs rest used brest bused : List ℕ) (s : Statement) (at : ℕ) → IsBodyStep a rs bs rest used brest bused s at → covers_statement a s ≡ true
body_covers a rs bs rest used brest bused s at p =
    and_true (all_below (length a.nodes) (statement_expressions s)) (all_below (length a.statements) (statement_statements s))
    (ap (all_below (length a.nodes)) p.expressions ∙ used_below a rs rest used bs p.growing p.roots)
    (ap (all_below (length a.statements)) p.parts ∙ used_bodies_below a rs bs brest bused p.growing p.bodies)

step_levels : (a : Arena) (rs bs rest used brest bused : List ℕ) (s : Statement) (at most : ℕ) → IsBodyStep a rs bs rest used brest bused s at → deepest (node_depths a.nodes) used ≤ most
    → deepest (statement_depths (node_depths a.nodes) a.statements) bused ≤ most → levels_of a s ≤ 1 + most
step_levels a rs bs rest used brest bused s at most p few low =
    omega (arith, few, low, ap (deepest (node_depths a.nodes)) p.expressions, ap (deepest (statement_depths (node_depths a.nodes) a.statements)) p.parts)

pub body_kept : {U F : Type 0} (r : Result U F) (a b : Arena) (rs after rest used bs bodies brest bused : List ℕ) (s : Statement) (at : ℕ) → IsBodyStep a rs bs rest used brest bused s at
    → IsBodyAdded r a b rs after rest bs bodies brest s at → IsGrowing b after bodies
body_kept (Ok u) a b rs after rest used bs bodies brest bused s at p d =
    let grouped : IsGrowing a (rest ++ statement_expressions s) (brest ++ statement_statements s) =
    subst (λ xs. IsGrowing a (rest ++ statement_expressions s) (brest ++ xs)) (sym p.parts)
    (subst (λ xs. IsGrowing a (rest ++ xs) (brest ++ bused)) (sym p.expressions) (subst (λ xs. IsGrowing a (rest ++ used) xs) p.bodies (subst (λ xs. IsGrowing a xs bs) p.roots p.growing)))
    in
    subst (λ c. IsGrowing c after bodies) (sym d.flat)
    (subst (λ xs. IsGrowing (with_statement a s at) xs bodies) (sym d.roots)
    (subst (λ xs. IsGrowing (with_statement a s at) rest xs) (sym d.parts)
    (statement_kept a rest brest s at grouped (body_covers a rs bs rest used brest bused s at p) d.room p.written p.formed (step_levels a rs bs rest used brest bused s at 255 p p.few p.low))))
body_kept (Err e) a b rs after rest used bs bodies brest bused s at p d =
    subst (λ c. IsGrowing c after bodies) (sym d.same_flat) (subst (λ xs. IsGrowing a xs bodies) (sym d.same_roots) (subst (λ xs. IsGrowing a rs xs) (sym d.same_parts) p.growing))

pub body_adds : {U F : Type 0} (r : Result U F) (a b : Arena) (rs after rest used bs bodies brest bused : List ℕ) (s : Statement) (at : ℕ) (d : Draft) (t : T.Statement) (most : ℕ) → IsBodyStep a rs bs rest used brest bused s at
    → IsBodyAdded r a b rs after rest bs bodies brest s at → draft_of a rest brest ≡ d → statement_tree (tree_at (arena_trees a)) (statement_at (arena_statements a)) at s ≡ t
    → deepest (node_depths a.nodes) used ≤ most → deepest (statement_depths (node_depths a.nodes) a.statements) bused ≤ most → OnOk r (AddsStatement d (draft_of b after bodies) t (1 + most))
body_adds (Ok u) a b rs after rest used bs bodies brest bused s at d t most p m before is few low =
    record {
      levels = levels_of a s;
      few = step_levels a rs bs rest used brest bused s at most p few low;
      is =
          ap (λ c. draft_of c after bodies) m.flat ∙ ap (λ xs. draft_of (with_statement a s at) xs bodies) m.roots ∙ ap (λ xs. draft_of (with_statement a s at) rest xs) m.parts
          ∙ statement_draft a rest brest s at p.growing.names (below_append (length a.statements) brest bused (subst (λ xs. all_below (length a.statements) xs ≡ true) p.bodies (bodies_below a rs bs p.growing))).0
          ∙ ap (λ c. and_body c (record { statement = statement_tree (tree_at (arena_trees a)) (statement_at (arena_statements a)) at s; levels = levels_of a s })) before
          ∙ ap (λ z. and_body d (record { statement = z; levels = levels_of a s })) is;
    }
body_adds (Err e) a b rs after rest used bs bodies brest bused s at d t most p m before is few low = tt

-- ---- the draft of a builder

pub adds_in : (a : Arena) (rs bs : List ℕ) (v : Growing) (s : Draft) (trees : List E.Expression) (statements : List T.Statement) (most : ℕ) → (let w : Growing = record { arena = a; roots = rs; bodies = bs } in w) ≡ v
    → Adds s (draft v) trees statements most → Adds s (draft_of a rs bs) trees statements most
adds_in a rs bs v s trees statements most view h = subst (λ (w : Growing). Adds s (draft w) trees statements most) (sym view) h

length-roots : (a : Arena) (rs bs : List ℕ) (s : Draft) (trees : List E.Expression) (statements : List T.Statement) (most : ℕ) → Adds s (draft_of a rs bs) trees statements most → length rs ≡ length s.expressions + length trees
length-roots a rs bs s trees statements most h =
    omega (arith, length-map rs (root_at a), ap (λ (d : Draft). length d.expressions) h.is, length-append s.expressions h.roots, length-map h.roots (λ (r : Root). r.tree), ap length h.trees_are)

length-bodies : (a : Arena) (rs bs : List ℕ) (s : Draft) (trees : List E.Expression) (statements : List T.Statement) (most : ℕ) → Adds s (draft_of a rs bs) trees statements most → length bs ≡ length s.statements + length statements
length-bodies a rs bs s trees statements most h =
    omega (arith, length-map bs (body_at a), ap (λ (d : Draft). length d.statements) h.is, length-append s.statements h.bodies, length-map h.bodies (λ (b : Body). b.statement), ap length h.statements_are)

-- how many stand there
pub record HasLengths (rs bs : List ℕ) (s : Draft) (expressions statements : ℕ) : Type 0 where
  pub roots : length rs ≡ length s.expressions + expressions
  pub bodies : length bs ≡ length s.statements + statements

pub lengths : (a : Arena) (rs bs : List ℕ) (v : Growing) (s : Draft) (trees : List E.Expression) (statements : List T.Statement) (most : ℕ) → (let w : Growing = record { arena = a; roots = rs; bodies = bs } in w) ≡ v
    → Adds s (draft v) trees statements most → HasLengths rs bs s (length trees) (length statements)
lengths a rs bs v s trees statements most view h =
    let k = adds_in a rs bs v s trees statements most view h in
    record { roots = length-roots a rs bs s trees statements most k; bodies = length-bodies a rs bs s trees statements most k }
