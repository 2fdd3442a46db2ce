-- One more process, scope or signal, and the end: what makes the flat design lawful stays.
use Rattle.std.proofs.Common.{◌≡◌, ℕ, zero, suc, ◌+◌, ◌-◌, ◌<◌, ◌≤◌, ◌^◌, true, Option, Some, None, slice_get, List, [], ◌∷◌, ◌++◌, length, map, refl, sym, ap, ◌∙◌, subst, arith, length-append}
use Rattle.std.specs.List.{list_all, flat_map}
use Rattle.std.proofs.lemmas.List.{map-append}
use Rattle.vs_design.specs.Expressions as E
use Rattle.vs_design.specs.Expressions.{Expression}
use Rattle.vs_design.specs.Statements as T
use Rattle.vs_design.specs.Designs as D
use Rattle.vs_design.specs.Elaborated.{is_formed, is_formed_statement, is_formed_function, IsLawfulDesign}
use Rattle.vs_flat.specs.declared.placed.Placed.{Placed}
use Rattle.vs_flat.specs.declared.expressions.Node.{Node}
use Rattle.vs_flat.specs.declared.processes.Process.{Process}
use Rattle.vs_flat.specs.declared.processes.Initial.{Initial}
use Rattle.vs_flat.specs.declared.processes.Scope.{Scope}
use Rattle.vs_flat.specs.declared.processes.Signal.{Signal}
use Rattle.vs_flat.specs.declared.statements.Statement.{Statement}
use Rattle.vs_flat.specs.declared.functions.Declared.{Declared}
use Rattle.vs_flat.specs.Arena.{Arena, empty_arena, declared_at, with_process, with_initial, with_scope, with_signal}
use Rattle.vs_flat.specs.Named.{statement_expressions, statement_statements, kind_expressions, kind_statements, covers_process, covers_initial}
use Rattle.vs_flat.specs.Trees.{tree_at, signal_at, statement_at, signal_of}
use Rattle.vs_flat.specs.DesignOf.{header_in, scope_of, process_of, initial_of, arena_signals, arena_trees, arena_statements, design_of}
use Rattle.vs_flat.specs.Lawful.{node_names, named_expressions, named_statements, has_target, assigns_target, node_home, statement_home, at_home, node_design, statement_design, trees_formed, statements_formed, IsLawful}
use Rattle.vs_flat.proofs.Agreeing.{and_true}
use Rattle.vs_flat.proofs.Different.{once_different}
use Rattle.vs_flat.proofs.Earlier.{names_empty, names_with_process, names_with_initial, names_with_scope, names_with_signal}
use Rattle.vs_flat.proofs.Growing.{length-arena_trees, length-arena_statements, process_added, initial_added, scope_added, signal_added, trees_with_signal, statements_with_signal}
use Rattle.vs_build.specs.Drafts.{Root, Body, Draft, home_in, and_process, and_scope, and_signal}
use Rattle.vs_build.specs.Growth.{times, open_function, open_header, header_if, header_behind, header_at, first_node, first_statement, expression_header, statement_header, IsGrowing, node_levels, statement_levels, root_at, draft_of}
use Rattle.vs_build.proofs.Counting.{times-append, times-flat, once_less, there_less, all_pushed, each_parts}
use Rattle.vs_build.proofs.Homes.{home_wider, home_inside}
use Rattle.vs_build.proofs.Wider.{IsWider, all_wider, header_wider, function_wider, expression_wider, statement_wider, same_signals, more_signals}

-- ---- nothing

pub empty_growing : IsGrowing empty_arena [] []
empty_growing = record {
  few_scopes = omega arith;
  few_nodes = omega arith;
  few_statements = omega arith;
  names = names_empty;
  few_functions = omega arith;
  open_one = omega arith;
  begun = λ f e. absurd (none_there f e);
  locals = refl;
  header = λ h e. absurd (no_header h e);
  functions = refl;
  expressions = λ e h. absurd (omega (arith, h));
  statements = λ s h. absurd (omega (arith, h));
  rooted = tt;
  embodied = tt;
  copies = refl;
  assign_targets = refl;
  statement_targets = refl;
  expressions_once = λ n. omega arith;
  expressions_there = λ n h. omega arith;
  statements_once = λ n. omega arith;
  statements_there = λ n h. omega arith;
  node_chains = refl;
  statement_chains = refl;
}
  where
    none_there : (f : Declared) → None ≡ Some f → ⊥
    none_there f e = cc

    no_header : (h : E.Header) → None ≡ Some h → ⊥
    no_header h e = cc

-- ---- processes

expressions_named : (a : Arena) (p : Process) (k : ℕ) → times k (named_expressions (with_process a p)) ≡ times k (named_expressions a) + times k (kind_expressions p.kind)
expressions_named a p k =
    let first : List ℕ = flat_map (λ (n : Placed Node). node_names n.item) a.nodes in
    let next : List ℕ = flat_map (λ (s : Placed Statement). statement_expressions s.item) a.statements in
    let f : Process → List ℕ = λ q. kind_expressions q.kind in
    omega (
      arith,
      times-append k first (next ++ flat_map f (a.processes ++ p ∷ [])),
      times-append k next (flat_map f (a.processes ++ p ∷ [])),
      times-append k first (next ++ flat_map f a.processes),
      times-append k next (flat_map f a.processes),
      times-flat f a.processes p k,
    )

statements_named : (a : Arena) (p : Process) (k : ℕ) → times k (named_statements (with_process a p)) ≡ times k (named_statements a) + times k (kind_statements p.kind)
statements_named a p k =
    let first : List ℕ = flat_map (λ (s : Placed Statement). statement_statements s.item) a.statements in
    let f : Process → List ℕ = λ q. kind_statements q.kind in
    let last : List ℕ = map (λ (i : Initial). i.statement) a.initials in
    omega (
      arith,
      times-append k first (flat_map f (a.processes ++ p ∷ []) ++ last),
      times-append k (flat_map f (a.processes ++ p ∷ [])) last,
      times-append k first (flat_map f a.processes ++ last),
      times-append k (flat_map f a.processes) last,
      times-flat f a.processes p k,
    )

wider_process : (a : Arena) (p : Process) → IsWider (design_of a) (design_of (with_process a p))
wider_process a p = same_signals (design_of a) (design_of (with_process a p)) (omega arith) refl

pub process_kept : (a : Arena) (rs bs : List ℕ) (p : Process) → IsGrowing a (rs ++ kind_expressions p.kind) (bs ++ kind_statements p.kind) → covers_process a p ≡ true → has_target (tree_at (arena_trees a)) p.kind ≡ true
    → IsGrowing (with_process a p) rs bs
process_kept a rs bs p g covers target =
    let b : Arena = with_process a p in
    record {
      few_scopes = g.few_scopes;
      few_nodes = g.few_nodes;
      few_statements = g.few_statements;
      names = names_with_process a p g.names covers;
      few_functions = g.few_functions;
      open_one = g.open_one;
      begun = g.begun;
      locals = g.locals;
      header = λ h e. header_wider (design_of a) (design_of b) (wider_process a p) h (g.header h e);
      functions = all_wider (is_formed_function (design_of a)) (is_formed_function (design_of b)) (design_of a).functions (function_wider (design_of a) (design_of b) (wider_process a p)) g.functions;
      expressions = λ e h. expression_wider (home_in (design_of a) (expression_header a e)) (home_in (design_of b) (expression_header a e)) (home_wider (design_of a) (design_of b) (expression_header a e) (wider_process a p)) (tree_at (arena_trees a) e) (g.expressions e h);
      statements =
          λ s h. statement_wider (home_in (design_of a) (statement_header a s)) (home_in (design_of b) (statement_header a s)) (home_wider (design_of a) (design_of b) (statement_header a s) (wider_process a p)) (statement_at (arena_statements a) s) (g.statements s h);
      rooted = (each_parts (λ n. expression_header a n ≡ open_header a) rs (kind_expressions p.kind) g.rooted).0;
      embodied = (each_parts (λ n. statement_header a n ≡ open_header a) bs (kind_statements p.kind) g.embodied).0;
      copies = g.copies;
      assign_targets = all_pushed (λ (q : Process). has_target (tree_at (arena_trees a)) q.kind) a.processes p g.assign_targets target;
      statement_targets = g.statement_targets;
      expressions_once = once_less rs (kind_expressions p.kind) (λ k. times k (named_expressions a)) (λ k. times k (named_expressions b)) g.expressions_once (expressions_named a p);
      expressions_there = there_less (length a.nodes) rs (kind_expressions p.kind) (λ k. times k (named_expressions a)) (λ k. times k (named_expressions b)) g.expressions_there (expressions_named a p);
      statements_once = once_less bs (kind_statements p.kind) (λ k. times k (named_statements a)) (λ k. times k (named_statements b)) g.statements_once (statements_named a p);
      statements_there = there_less (length a.statements) bs (kind_statements p.kind) (λ k. times k (named_statements a)) (λ k. times k (named_statements b)) g.statements_there (statements_named a p);
      node_chains = g.node_chains;
      statement_chains = g.statement_chains;
    }

pub process_draft : (a : Arena) (rs bs : List ℕ) (p : Process)
    → draft_of (with_process a p) rs bs ≡ and_process (draft_of a rs bs) (process_of (signal_at (arena_signals a)) (tree_at (arena_trees a)) (statement_at (arena_statements a)) p)
process_draft a rs bs p = ap (λ d. record (draft_of a rs bs) { design = d }) (process_added a p)

-- ---- initial processes

initials_named : (a : Arena) (i : Initial) (k : ℕ) → times k (named_statements (with_initial a i)) ≡ times k (named_statements a) + times k (i.statement ∷ [])
initials_named a i k =
    let first : List ℕ = flat_map (λ (s : Placed Statement). statement_statements s.item) a.statements in
    let next : List ℕ = flat_map (λ (p : Process). kind_statements p.kind) a.processes in
    let f : Initial → ℕ = λ j. j.statement in
    omega (
      arith,
      times-append k first (next ++ map f (a.initials ++ i ∷ [])),
      times-append k next (map f (a.initials ++ i ∷ [])),
      ap (times k) (map-append f a.initials (i ∷ [])),
      times-append k (map f a.initials) (i.statement ∷ []),
      times-append k first (next ++ map f a.initials),
      times-append k next (map f a.initials),
    )

wider_initial : (a : Arena) (i : Initial) → IsWider (design_of a) (design_of (with_initial a i))
wider_initial a i = same_signals (design_of a) (design_of (with_initial a i)) (omega arith) refl

pub initial_kept : (a : Arena) (rs bs : List ℕ) (i : Initial) → IsGrowing a rs (bs ++ i.statement ∷ []) → covers_initial a i ≡ true → IsGrowing (with_initial a i) rs bs
initial_kept a rs bs i g covers =
    let b : Arena = with_initial a i in
    record {
      few_scopes = g.few_scopes;
      few_nodes = g.few_nodes;
      few_statements = g.few_statements;
      names = names_with_initial a i g.names covers;
      few_functions = g.few_functions;
      open_one = g.open_one;
      begun = g.begun;
      locals = g.locals;
      header = λ h e. header_wider (design_of a) (design_of b) (wider_initial a i) h (g.header h e);
      functions = all_wider (is_formed_function (design_of a)) (is_formed_function (design_of b)) (design_of a).functions (function_wider (design_of a) (design_of b) (wider_initial a i)) g.functions;
      expressions = λ e h. expression_wider (home_in (design_of a) (expression_header a e)) (home_in (design_of b) (expression_header a e)) (home_wider (design_of a) (design_of b) (expression_header a e) (wider_initial a i)) (tree_at (arena_trees a) e) (g.expressions e h);
      statements =
          λ s h. statement_wider (home_in (design_of a) (statement_header a s)) (home_in (design_of b) (statement_header a s)) (home_wider (design_of a) (design_of b) (statement_header a s) (wider_initial a i)) (statement_at (arena_statements a) s) (g.statements s h);
      rooted = g.rooted;
      embodied = (each_parts (λ n. statement_header a n ≡ open_header a) bs (i.statement ∷ []) g.embodied).0;
      copies = g.copies;
      assign_targets = g.assign_targets;
      statement_targets = g.statement_targets;
      expressions_once = g.expressions_once;
      expressions_there = g.expressions_there;
      statements_once = once_less bs (i.statement ∷ []) (λ k. times k (named_statements a)) (λ k. times k (named_statements b)) g.statements_once (initials_named a i);
      statements_there = there_less (length a.statements) bs (i.statement ∷ []) (λ k. times k (named_statements a)) (λ k. times k (named_statements b)) g.statements_there (initials_named a i);
      node_chains = g.node_chains;
      statement_chains = g.statement_chains;
    }

-- with one initial process more, wherever it stands
abbrev pub with_one : Draft → D.Initial → Draft
with_one s i = record s { design = record s.design { initials = s.design.initials ++ i ∷ [] } }

pub initial_draft : (a : Arena) (rs bs : List ℕ) (i : Initial) → draft_of (with_initial a i) rs bs ≡ with_one (draft_of a rs bs) (initial_of (statement_at (arena_statements a)) i)
initial_draft a rs bs i = ap (λ d. record (draft_of a rs bs) { design = d }) (initial_added a i)

-- ---- scopes and signals

pub scope_kept : (a : Arena) (rs bs : List ℕ) (s : Scope) → IsGrowing a rs bs → length a.scopes < 2 ^ 32 - 1 → IsGrowing (with_scope a s) rs bs
scope_kept a rs bs s g room =
    let b : Arena = with_scope a s in
    let wider : IsWider (design_of a) (design_of b) = same_signals (design_of a) (design_of b) (omega (arith, ap (λ (d : D.Design). length d.scopes) (scope_added a s), length-append (design_of a).scopes (scope_of s ∷ []))) refl in
    record {
      few_scopes = omega (arith, room, length-append a.scopes (s ∷ []));
      few_nodes = g.few_nodes;
      few_statements = g.few_statements;
      names = names_with_scope a s g.names;
      few_functions = g.few_functions;
      open_one = g.open_one;
      begun = g.begun;
      locals = g.locals;
      header = λ h e. header_wider (design_of a) (design_of b) wider h (g.header h e);
      functions = all_wider (is_formed_function (design_of a)) (is_formed_function (design_of b)) (design_of a).functions (function_wider (design_of a) (design_of b) wider) g.functions;
      expressions = λ e h. expression_wider (home_in (design_of a) (expression_header a e)) (home_in (design_of b) (expression_header a e)) (home_wider (design_of a) (design_of b) (expression_header a e) wider) (tree_at (arena_trees a) e) (g.expressions e h);
      statements =
          λ t h. statement_wider (home_in (design_of a) (statement_header a t)) (home_in (design_of b) (statement_header a t)) (home_wider (design_of a) (design_of b) (statement_header a t) wider) (statement_at (arena_statements a) t) (g.statements t h);
      rooted = g.rooted;
      embodied = g.embodied;
      copies = g.copies;
      assign_targets = g.assign_targets;
      statement_targets = g.statement_targets;
      expressions_once = g.expressions_once;
      expressions_there = g.expressions_there;
      statements_once = g.statements_once;
      statements_there = g.statements_there;
      node_chains = g.node_chains;
      statement_chains = g.statement_chains;
    }

pub scope_draft : (a : Arena) (rs bs : List ℕ) (s : Scope) → draft_of (with_scope a s) rs bs ≡ and_scope (draft_of a rs bs) (scope_of s)
scope_draft a rs bs s = ap (λ d. record (draft_of a rs bs) { design = d }) (scope_added a s)

pub signal_kept : (a : Arena) (rs bs : List ℕ) (s : Signal) → IsGrowing a rs bs → IsGrowing (with_signal a s) rs bs
signal_kept a rs bs s g =
    let b : Arena = with_signal a s in
    let trees : arena_trees b ≡ arena_trees a = trees_with_signal a s g.names in
    let wider : IsWider (design_of a) (design_of b) = more_signals (design_of a) (design_of b) (signal_of (length a.signals) s) (omega arith) (ap (λ (d : D.Design). d.signals) (signal_added a s g.names)) in
    record {
      few_scopes = g.few_scopes;
      few_nodes = g.few_nodes;
      few_statements = g.few_statements;
      names = names_with_signal a s g.names;
      few_functions = g.few_functions;
      open_one = g.open_one;
      begun = g.begun;
      locals = g.locals;
      header = λ h e. header_wider (design_of a) (design_of b) wider h (g.header h e);
      functions =
          subst (λ fs. list_all (is_formed_function (design_of b)) fs ≡ true) (sym (ap (λ (d : D.Design). d.functions) (signal_added a s g.names)))
          (all_wider (is_formed_function (design_of a)) (is_formed_function (design_of b)) (design_of a).functions (function_wider (design_of a) (design_of b) wider) g.functions);
      expressions =
          λ e h. subst (λ ts. is_formed (home_in (design_of b) (expression_header a e)) (tree_at ts e) ≡ true) (sym trees)
          (expression_wider (home_in (design_of a) (expression_header a e)) (home_in (design_of b) (expression_header a e)) (home_wider (design_of a) (design_of b) (expression_header a e) wider) (tree_at (arena_trees a) e) (g.expressions e h));
      statements =
          λ t h. subst (λ ss. is_formed_statement (home_in (design_of b) (statement_header a t)) (statement_at ss t) ≡ true) (sym (statements_with_signal a s g.names))
          (statement_wider (home_in (design_of a) (statement_header a t)) (home_in (design_of b) (statement_header a t)) (home_wider (design_of a) (design_of b) (statement_header a t) wider) (statement_at (arena_statements a) t) (g.statements t h));
      rooted = g.rooted;
      embodied = g.embodied;
      copies = g.copies;
      assign_targets = subst (λ ts. list_all (λ (p : Process). has_target (tree_at ts) p.kind) a.processes ≡ true) (sym trees) g.assign_targets;
      statement_targets = subst (λ ts. list_all (λ (t : Placed Statement). assigns_target (tree_at ts) t.item) a.statements ≡ true) (sym trees) g.statement_targets;
      expressions_once = g.expressions_once;
      expressions_there = g.expressions_there;
      statements_once = g.statements_once;
      statements_there = g.statements_there;
      node_chains = g.node_chains;
      statement_chains = g.statement_chains;
    }

pub signal_draft : (a : Arena) (rs bs : List ℕ) (s : Signal) → IsGrowing a rs bs → draft_of (with_signal a s) rs bs ≡ and_signal (draft_of a rs bs) (signal_of (length a.signals) s)
signal_draft a rs bs s g =
    let b : Arena = with_signal a s in
    ap (λ ts. record (draft_of b rs bs) { expressions = map (λ n. (let r : Root = record { tree = tree_at ts n; levels = node_levels a n } in r)) rs }) (trees_with_signal a s g.names)
    ∙ ap (λ ss. record (draft_of b rs bs) { expressions = map (root_at a) rs; statements = map (λ n. (let r : Body = record { statement = statement_at ss n; levels = statement_levels a n } in r)) bs }) (statements_with_signal a s g.names)
    ∙ ap (λ d. record (draft_of a rs bs) { design = d }) (signal_added a s g.names)

-- ---- the end

-- where each function has its statement, each is formed in the design or in its function
closed_home : (a : Arena) (o : Option ℕ) (n : ℕ) (first : Declared → ℕ) → open_function a ≡ None → IsWider (home_in (design_of a) (header_at a o n first)) (at_home a o)
closed_home a None n first none = subst (λ p. IsWider (home_in (design_of a) (header_behind n first p)) (design_of a)) (sym none) (record { scopes = omega arith; signals = λ s k. k })
closed_home a (Some f) n first none = home_inside (design_of a) (header_in (declared_at a f))

trees_at_home : (a : Arena) (first : ℕ) (es : List Expression) → ((k : ℕ) → k < length es → is_formed (node_design a (first + k)) (tree_at es k) ≡ true) → trees_formed a first es ≡ true
trees_at_home a first [] h = refl
trees_at_home a first (e ∷ es) h =
    and_true (is_formed (node_design a first) e) (trees_formed a (suc first) es) (subst (λ n. is_formed (node_design a n) e ≡ true) (omega arith) (h 0 (omega arith)))
    (trees_at_home a (suc first) es (λ k l. subst (λ n. is_formed (node_design a n) (tree_at es k) ≡ true) (omega arith) (h (suc k) (omega (arith, l)))))

statements_at_home : (a : Arena) (first : ℕ) (ss : List T.Statement) → ((k : ℕ) → k < length ss → is_formed_statement (statement_design a (first + k)) (statement_at ss k) ≡ true) → statements_formed a first ss ≡ true
statements_at_home a first [] h = refl
statements_at_home a first (s ∷ ss) h =
    and_true (is_formed_statement (statement_design a first) s) (statements_formed a (suc first) ss) (subst (λ n. is_formed_statement (statement_design a n) s ≡ true) (omega arith) (h 0 (omega arith)))
    (statements_at_home a (suc first) ss (λ k l. subst (λ n. is_formed_statement (statement_design a n) (statement_at ss k) ≡ true) (omega arith) (h (suc k) (omega (arith, l)))))

-- no function is open
none_open : (a : Arena) → open_header a ≡ None → open_function a ≡ None
none_open a h = by (open_function a) h
  where
    by : (o : Option Declared) → header_if o ≡ None → o ≡ None
    by None k = refl
    by (Some f) k = cc

past_functions : (ds : List Declared) (n : ℕ) → slice_get ds n ≡ None → length ds ≤ n
past_functions [] n h = omega arith
past_functions (d ∷ ds) zero h = cc
past_functions (d ∷ ds) (suc n) h = omega (arith, past_functions ds n h)

pub lawful : (a : Arena) (rs bs : List ℕ) → IsGrowing a rs bs → open_header a ≡ None → IsLawfulDesign (design_of a) → IsLawful a
lawful a rs bs g closed d = record {
  design = d;
  few_scopes = g.few_scopes;
  few_nodes = g.few_nodes;
  few_statements = g.few_statements;
  names = g.names;
  expressions =
      trees_at_home a 0 (arena_trees a)
      (λ k h. subst (λ n. is_formed (node_design a n) (tree_at (arena_trees a) k) ≡ true) (omega arith)
      (expression_wider (home_in (design_of a) (expression_header a k)) (node_design a k) (closed_home a (node_home 0 a.functions a.bodies k) k first_node none) (tree_at (arena_trees a) k) (g.expressions k (omega (arith, h, length-arena_trees a)))));
  statements =
      statements_at_home a 0 (arena_statements a)
      (λ k h. subst (λ n. is_formed_statement (statement_design a n) (statement_at (arena_statements a) k) ≡ true) (omega arith)
      (statement_wider (home_in (design_of a) (statement_header a k)) (statement_design a k) (closed_home a (statement_home 0 a.functions a.bodies k) k first_statement none) (statement_at (arena_statements a) k)
      (g.statements k (omega (arith, h, length-arena_statements a)))));
  few_functions = g.few_functions;
  complete = omega (arith, past_functions a.functions (length a.bodies) none, g.names.matched);
  locals = g.locals;
  copies = g.copies;
  assign_targets = g.assign_targets;
  statement_targets = g.statement_targets;
  expressions_once = once_different (named_expressions a) (λ n. omega (arith, g.expressions_once n));
  statements_once = once_different (named_statements a) (λ n. omega (arith, g.statements_once n));
  node_chains = g.node_chains;
  statement_chains = g.statement_chains;
}
  where
    none : open_function a ≡ None
    none = none_open a closed
