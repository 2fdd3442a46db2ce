-- One more statement: what makes the flat design lawful stays, and what it stands for has the new statement in the place of what it names.
use Rattle.std.proofs.Common.{◌≡◌, ℕ, suc, ◌+◌, ◌-◌, ◌<◌, ◌≤◌, ◌^◌, true, nat_lt, List, [], ◌∷◌, ◌++◌, length, get_or, map, max, sym, ap, ◌∙◌, subst, arith, length-append}
use Rattle.std.specs.List.{list_all, flat_map}
use Rattle.std.proofs.lemmas.Bool.{le-leb, ltb-true, ltb-false}
use Rattle.std.proofs.lemmas.List.{map-append}
use Rattle.vs_design.specs.Statements as T
use Rattle.vs_design.specs.Elaborated.{is_formed, is_formed_statement, is_formed_header, is_formed_function}
use Rattle.vs_flat.specs.declared.placed.Placed.{Placed}
use Rattle.vs_flat.specs.declared.expressions.Node.{Node}
use Rattle.vs_flat.specs.declared.processes.Process.{Process}
use Rattle.vs_flat.specs.declared.processes.Initial.{Initial}
use Rattle.vs_flat.specs.declared.statements.Statement.{Statement}
use Rattle.vs_flat.specs.Arena.{Arena, placed, with_statement}
use Rattle.vs_flat.specs.Named.{all_below, statement_expressions, statement_statements, kind_expressions, kind_statements, covers_statement}
use Rattle.vs_flat.specs.Trees.{tree_at, statement_at, statement_tree}
use Rattle.vs_flat.specs.DesignOf.{arena_trees, arena_statements, design_of}
use Rattle.vs_flat.specs.Lawful.{NamesEarlier, has_target, assigns_target, node_names, named_expressions, named_statements, deepest, node_depths, statement_depths, are_chains}
use Rattle.vs_flat.proofs.Agreeing.{EqualBelow, map_agrees}
use Rattle.vs_flat.proofs.Building.{built-append, length-built}
use Rattle.vs_flat.proofs.Earlier.{names_with_statement}
use Rattle.vs_flat.proofs.Growing.{length-arena_statements, trees_with_statement, statements_with_statement, statement_added}
use Rattle.vs_build.specs.Drafts.{Root, Body, home_in, and_body}
use Rattle.vs_build.specs.Growth.{times, open_header, current, expression_header, statement_header, IsGrowing, node_levels, statement_levels, body_at, draft_of}
use Rattle.vs_build.proofs.Counting.{times-append, times-flat, once_more, there_more, once_less, there_less, none_below, all_pushed, last_at, kept_at, by_test, each_both, each_parts}
use Rattle.vs_build.proofs.Homes.{next_statement}

statement_more : (a : Arena) (s : Statement) (at : ℕ) → NamesEarlier a → EqualBelow (length a.statements) (statement_at (arena_statements (with_statement a s at))) (statement_at (arena_statements a))
statement_more a s at e k h =
    kept_at (arena_statements a) (arena_statements (with_statement a s at)) (statement_tree (tree_at (arena_trees a)) (statement_at (arena_statements a)) at s) T.Empty (length a.statements) k (statements_with_statement a s at e) (length-arena_statements a) h

-- the levels of one more
abbrev pub levels_of : Arena → Statement → ℕ
levels_of a s = suc (max (deepest (node_depths a.nodes) (statement_expressions s)) (deepest (statement_depths (node_depths a.nodes) a.statements) (statement_statements s)))

depths_with_statement : (a : Arena) (s : Statement) (at : ℕ) → statement_depths (node_depths a.nodes) (with_statement a s at).statements ≡ statement_depths (node_depths a.nodes) a.statements ++ levels_of a s ∷ []
depths_with_statement a s at =
    built-append (λ depths (m : Placed Statement). suc (max (deepest (node_depths a.nodes) (statement_expressions m.item)) (deepest depths (statement_statements m.item)))) [] a.statements (placed s at)

length-depths : (a : Arena) → length (statement_depths (node_depths a.nodes) a.statements) ≡ length a.statements
length-depths a =
    length-built (λ depths (m : Placed Statement). suc (max (deepest (node_depths a.nodes) (statement_expressions m.item)) (deepest depths (statement_statements m.item)))) [] a.statements ∙ omega arith

depth_more : (a : Arena) (s : Statement) (at : ℕ) → EqualBelow (length a.statements) (statement_levels (with_statement a s at)) (statement_levels a)
depth_more a s at k h =
    kept_at (statement_depths (node_depths a.nodes) a.statements) (statement_depths (node_depths a.nodes) (with_statement a s at).statements) (levels_of a s) 0 (length a.statements) k (depths_with_statement a s at) (length-depths a) h

expressions_named : (a : Arena) (s : Statement) (at k : ℕ) → times k (named_expressions (with_statement a s at)) ≡ times k (named_expressions a) + times k (statement_expressions s)
expressions_named a s at k =
    let before : List ℕ = flat_map (λ (n : Placed Node). node_names n.item) a.nodes in
    let f : Placed Statement → List ℕ = λ m. statement_expressions m.item in
    let after : List ℕ = flat_map (λ (p : Process). kind_expressions p.kind) a.processes in
    omega (
      arith,
      times-append k before (flat_map f (a.statements ++ placed s at ∷ []) ++ after),
      times-append k (flat_map f (a.statements ++ placed s at ∷ [])) after,
      times-append k before (flat_map f a.statements ++ after),
      times-append k (flat_map f a.statements) after,
      times-flat f a.statements (placed s at) k,
    )

statements_named : (a : Arena) (s : Statement) (at k : ℕ) → times k (named_statements (with_statement a s at)) ≡ times k (named_statements a) + times k (statement_statements s)
statements_named a s at k =
    let f : Placed Statement → List ℕ = λ m. statement_statements m.item in
    let after : List ℕ = flat_map (λ (p : Process). kind_statements p.kind) a.processes ++ map (λ (i : Initial). i.statement) a.initials in
    omega (arith, times-append k (flat_map f (a.statements ++ placed s at ∷ [])) after, times-append k (flat_map f a.statements) after, times-flat f a.statements (placed s at) k)

pub statement_kept : (a : Arena) (rs bs : List ℕ) (s : Statement) (at : ℕ) → IsGrowing a (rs ++ statement_expressions s) (bs ++ statement_statements s) → covers_statement a s ≡ true → length a.statements < 2 ^ 32 - 1
    → assigns_target (tree_at (arena_trees a)) s ≡ true → is_formed_statement (current a) (statement_tree (tree_at (arena_trees a)) (statement_at (arena_statements a)) at s) ≡ true → levels_of a s ≤ 256
    → IsGrowing (with_statement a s at) rs (bs ++ length a.statements ∷ [])
statement_kept a rs bs s at g covers room target formed few =
    let b : Arena = with_statement a s at in
    let more : length b.statements ≡ suc (length a.statements) = omega (arith, length-append a.statements (placed s at ∷ [])) in
    let design : design_of b ≡ design_of a = statement_added a s at g.names in
    let trees : arena_trees b ≡ arena_trees a = trees_with_statement a s at g.names in
    record {
      few_scopes = g.few_scopes;
      few_nodes = g.few_nodes;
      few_statements = omega (arith, more, room);
      names = names_with_statement a s at g.names covers;
      few_functions = g.few_functions;
      open_one = g.open_one;
      begun = λ f e. let k = g.begun f e in (k.0, omega (arith, k.1, more));
      locals = g.locals;
      header = λ h e. subst (λ d. is_formed_header d h ≡ true) (sym design) (g.header h e);
      functions = subst (λ d. list_all (is_formed_function d) d.functions ≡ true) (sym design) g.functions;
      expressions =
          λ k h. subst (λ d. is_formed (home_in d (expression_header a k)) (tree_at (arena_trees b) k) ≡ true) (sym design)
          (subst (λ ts. is_formed (home_in (design_of a) (expression_header a k)) (tree_at ts k) ≡ true) (sym trees) (g.expressions k h));
      statements = λ k h. subst (λ d. is_formed_statement (home_in d (statement_header a k)) (statement_at (arena_statements b) k) ≡ true) (sym design) (formed_now k (omega (arith, h, more)));
      rooted = (each_parts (λ k. expression_header a k ≡ open_header a) rs (statement_expressions s) g.rooted).0;
      embodied =
          each_both (λ k. statement_header a k ≡ open_header a) bs (length a.statements ∷ []) (each_parts (λ k. statement_header a k ≡ open_header a) bs (statement_statements s) g.embodied).0
          (next_statement a g.names (λ f e. (g.begun f e).1), tt);
      copies = g.copies;
      assign_targets = subst (λ ts. list_all (λ (p : Process). has_target (tree_at ts) p.kind) a.processes ≡ true) (sym trees) g.assign_targets;
      statement_targets =
          subst (λ ts. list_all (λ (m : Placed Statement). assigns_target (tree_at ts) m.item) b.statements ≡ true) (sym trees)
          (all_pushed (λ (m : Placed Statement). assigns_target (tree_at (arena_trees a)) m.item) a.statements (placed s at) g.statement_targets target);
      expressions_once = once_less rs (statement_expressions s) (λ k. times k (named_expressions a)) (λ k. times k (named_expressions b)) g.expressions_once (expressions_named a s at);
      expressions_there = there_less (length a.nodes) rs (statement_expressions s) (λ k. times k (named_expressions a)) (λ k. times k (named_expressions b)) g.expressions_there (expressions_named a s at);
      statements_once = once_more (length a.statements) bs (statement_statements s) (λ k. times k (named_statements a)) (λ k. times k (named_statements b)) g.statements_once g.statements_there (statements_named a s at);
      statements_there =
          λ k h. there_more (length a.statements) bs (statement_statements s) (λ m. times m (named_statements a)) (λ m. times m (named_statements b)) g.statements_there (statements_named a s at) k (omega (arith, h, more));
      node_chains = g.node_chains;
      statement_chains =
          subst (λ ds. are_chains ds ≡ true) (sym (depths_with_statement a s at))
          (all_pushed _ (statement_depths (node_depths a.nodes) a.statements) (levels_of a s) g.statement_chains (le-leb _ 256 few));
    }
  where
    -- an earlier one, and the new one
    formed_now : (k : ℕ) → k ≤ length a.statements → is_formed_statement (home_in (design_of a) (statement_header a k)) (statement_at (arena_statements (with_statement a s at)) k) ≡ true
    formed_now k h =
        by_test (nat_lt k (length a.statements))
        (λ e. let l : k < length a.statements = ltb-true k (length a.statements) e in ap (is_formed_statement (home_in (design_of a) (statement_header a k))) (statement_more a s at g.names k l) ∙ g.statements k l)
        (λ e.
        let is : k ≡ length a.statements = omega (arith, h, ltb-false k (length a.statements) e) in
        subst (λ m. is_formed_statement (home_in (design_of a) (statement_header a m)) (statement_at (arena_statements (with_statement a s at)) m) ≡ true) (sym is) last)
      where
        last : is_formed_statement (home_in (design_of a) (statement_header a (length a.statements))) (statement_at (arena_statements (with_statement a s at)) (length a.statements)) ≡ true
        last =
            ap (λ o. is_formed_statement (home_in (design_of a) o) (statement_at (arena_statements (with_statement a s at)) (length a.statements))) (next_statement a g.names (λ f e. (g.begun f e).1))
            ∙ ap (λ ss. is_formed_statement (current a) (statement_at ss (length a.statements))) (statements_with_statement a s at g.names)
            ∙ ap (is_formed_statement (current a)) (last_at (arena_statements a) (statement_tree (tree_at (arena_trees a)) (statement_at (arena_statements a)) at s) T.Empty (length a.statements) (length-arena_statements a))
            ∙ formed

pub bodies_below : (a : Arena) (rs bs : List ℕ) → IsGrowing a rs bs → all_below (length a.statements) bs ≡ true
bodies_below a rs bs g = none_below (length a.statements) bs (λ n h. omega (arith, g.statements_there n h))

body_agrees : (a : Arena) (s : Statement) (at : ℕ) → NamesEarlier a → EqualBelow (length a.statements) (body_at (with_statement a s at)) (body_at a)
body_agrees a s at e k h =
    ap (λ z. (let r : Body = record { statement = z; levels = statement_levels (with_statement a s at) k } in r)) (statement_more a s at e k h)
    ∙ ap (λ z. (let r : Body = record { statement = statement_at (arena_statements a) k; levels = z } in r)) (depth_more a s at k h)

body_new : (a : Arena) (s : Statement) (at : ℕ) → NamesEarlier a
    → body_at (with_statement a s at) (length a.statements) ≡ (let r : Body = record { statement = statement_tree (tree_at (arena_trees a)) (statement_at (arena_statements a)) at s; levels = levels_of a s } in r)
body_new a s at e =
    let t = statement_tree (tree_at (arena_trees a)) (statement_at (arena_statements a)) at s in
    ap (λ ss. (let r : Body = record { statement = statement_at ss (length a.statements); levels = statement_levels (with_statement a s at) (length a.statements) } in r)) (statements_with_statement a s at e)
    ∙ ap (λ z. (let r : Body = record { statement = z; levels = statement_levels (with_statement a s at) (length a.statements) } in r)) (last_at (arena_statements a) t T.Empty (length a.statements) (length-arena_statements a))
    ∙ ap (λ ds. (let r : Body = record { statement = t; levels = get_or ds (length a.statements) 0 } in r)) (depths_with_statement a s at)
    ∙ ap (λ z. (let r : Body = record { statement = t; levels = z } in r)) (last_at (statement_depths (node_depths a.nodes) a.statements) (levels_of a s) 0 (length a.statements) (length-depths a))

pub statement_draft : (a : Arena) (rs bs : List ℕ) (s : Statement) (at : ℕ) → NamesEarlier a → all_below (length a.statements) bs ≡ true
    → draft_of (with_statement a s at) rs (bs ++ length a.statements ∷ [])
    ≡ and_body (draft_of a rs bs) (record { statement = statement_tree (tree_at (arena_trees a)) (statement_at (arena_statements a)) at s; levels = levels_of a s })
statement_draft a rs bs s at e below =
    let b : Arena = with_statement a s at in
    let new : Body = record { statement = statement_tree (tree_at (arena_trees a)) (statement_at (arena_statements a)) at s; levels = levels_of a s } in
    let design : design_of b ≡ design_of a = statement_added a s at e in
    let statements : map (body_at b) (bs ++ length a.statements ∷ []) ≡ map (body_at a) bs ++ new ∷ [] =
    map-append (body_at b) bs (length a.statements ∷ []) ∙ ap (λ xs. xs ++ body_at b (length a.statements) ∷ []) (map_agrees (length a.statements) (body_at b) (body_at a) bs (body_agrees a s at e) below)
    ∙ ap (λ x. map (body_at a) bs ++ x ∷ []) (body_new a s at e)
    in
    ap (λ d. record (draft_of b rs (bs ++ length a.statements ∷ [])) { design = d }) design
    ∙ ap (λ ts. record (draft_of b rs (bs ++ length a.statements ∷ [])) { design = design_of a; expressions = map (λ n. (let r : Root = record { tree = tree_at ts n; levels = node_levels a n } in r)) rs }) (trees_with_statement a s at e)
    ∙ ap (λ xs. record (draft_of a rs bs) { statements = xs }) statements
