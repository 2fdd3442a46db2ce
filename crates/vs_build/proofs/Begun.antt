-- A function begins, and has its statement (IEEE 1364-2005, 10.4.1): what makes the flat design lawful stays.
use Rattle.std.proofs.Common.{◌≡◌, ℕ, zero, suc, ◌+◌, ◌-◌, ◌<◌, ◌≤◌, ◌^◌, Bool, true, false, ◌&&◌, nat_lt, nat_le, List, [], ◌∷◌, ◌++◌, length, Option, Some, None, slice_get, if◌then◌else◌, Result, Ok, Err, OnOk, OnErr, refl, sym, ap, ◌∙◌, subst, arith, length-append, eq-eqb}
use Rattle.std.specs.Prelude.{is_some}
use Rattle.std.specs.List.{list_all}
use Rattle.std.proofs.lemmas.Bool.{lt-ltb, ltb-true, ltb-false, leb-true}
use Rattle.std.proofs.lemmas.Option.{slice_get_past, slice_get_within}
use Rattle.vs_design.specs.Statements as T
use Rattle.vs_design.specs.Designs.{Design}
use Rattle.vs_design.specs.Rules.{mixed_in}
use Rattle.vs_design.specs.Elaborated.{is_nil, inside, is_formed, is_formed_statement, is_formed_header, is_formed_function}
use Rattle.vs_flat.specs.declared.functions.Function.{Function}
use Rattle.vs_flat.specs.declared.functions.Declared.{Declared}
use Rattle.vs_flat.specs.declared.functions.Body.{Body}
use Rattle.vs_flat.specs.declared.processes.Process.{Process}
use Rattle.vs_flat.specs.declared.placed.Placed.{Placed}
use Rattle.vs_flat.specs.declared.statements.Statement.{Statement}
use Rattle.vs_flat.specs.Arena.{Arena, declared_at, with_function, with_body}
use Rattle.vs_flat.specs.Trees.{tree_at, statement_at}
use Rattle.vs_flat.specs.DesignOf.{header_of, header_in, arena_trees, arena_statements, design_of}
use Rattle.vs_flat.specs.Lawful.{has_locals, has_target, assigns_target, is_within, node_home, statement_home}
use Rattle.vs_flat.proofs.Agreeing.{and_true}
use Rattle.vs_flat.proofs.Earlier.{names_with_function, names_with_body}
use Rattle.vs_flat.proofs.Growing.{trees_with_function, statements_with_function, function_added, trees_with_body, statements_with_body, body_added}
use Rattle.vs_build.specs.Drafts.{home_in, in_function, and_function}
use Rattle.vs_build.specs.Growth.{open_function, open_header, header_if, header_behind, header_at, first_node, first_statement, expression_header, statement_header, IsGrowing, draft_of}
use Rattle.vs_build.proofs.Counting.{all_pushed, times_here}
use Rattle.vs_build.proofs.Homes.{home_wider, home_inside, function_home, function_statement_home, last_home, within_last, body_node_home, body_statement_home}
use Rattle.vs_build.proofs.Wider.{IsWider, all_wider, function_wider, expression_wider, statement_wider, same_signals}

-- ---- lists

get_last : {A : Type 0} (xs : List A) (x : A) → slice_get (xs ++ x ∷ []) (length xs) ≡ Some x
get_last [] x = refl
get_last (y ∷ xs) x = get_last xs x

get_kept : {A : Type 0} (xs : List A) (x : A) (n : ℕ) → n < length xs → slice_get (xs ++ x ∷ []) n ≡ slice_get xs n
get_kept [] x n h = absurd (omega (arith, h))
get_kept (y ∷ xs) x zero h = refl
get_kept (y ∷ xs) x (suc n) h = get_kept xs x n (omega (arith, h))

never : {A : Type 0} {x : A} → None ≡ Some x → ⊥
never e = cc

-- ---- an open function, and none

pub open_there : (a : Arena) (d : Declared) → open_function a ≡ Some d → length a.bodies < length a.functions
open_there a d h = slice_get_within a.functions (length a.bodies) d h

pub past_there : (ds : List Declared) (n : ℕ) → slice_get ds n ≡ None → length ds ≤ n
past_there [] n h = omega arith
past_there (d ∷ ds) zero h = cc
past_there (d ∷ ds) (suc n) h = omega (arith, past_there ds n h)

pub no_function : (a : Arena) → open_header a ≡ None → open_function a ≡ None
no_function a h = by (open_function a) h
  where
    by : (o : Option Declared) → header_if o ≡ None → o ≡ None
    by None k = refl
    by (Some f) k = cc

-- a function that has a statement is one of those
node_home_there : (f : ℕ) (ds : List Declared) (bs : List Body) (n g : ℕ) → node_home f ds bs n ≡ Some g → g < f + length ds
node_home_there f [] bs n g h = absurd (never h)
node_home_there f (d ∷ ds) [] n g h = absurd (never h)
node_home_there f (d ∷ ds) (b ∷ bs) n g h = by (is_within d.nodes b.nodes n) h (λ k. node_home_there (suc f) ds bs n g k)
  where
    by : (w : Bool) → (if w then Some f else node_home (suc f) ds bs n) ≡ Some g → (node_home (suc f) ds bs n ≡ Some g → g < suc f + length ds) → g < f + suc (length ds)
    by true k r = let is : f ≡ g = cc in omega (arith, is)
    by false k r = omega (arith, r k)

statement_home_there : (f : ℕ) (ds : List Declared) (bs : List Body) (n g : ℕ) → statement_home f ds bs n ≡ Some g → g < f + length ds
statement_home_there f [] bs n g h = absurd (never h)
statement_home_there f (d ∷ ds) [] n g h = absurd (never h)
statement_home_there f (d ∷ ds) (b ∷ bs) n g h = by (is_within d.statements b.statements n) h (λ k. statement_home_there (suc f) ds bs n g k)
  where
    by : (w : Bool) → (if w then Some f else statement_home (suc f) ds bs n) ≡ Some g → (statement_home (suc f) ds bs n ≡ Some g → g < suc f + length ds) → g < f + suc (length ds)
    by true k r = let is : f ≡ g = cc in omega (arith, is)
    by false k r = omega (arith, r k)

-- ---- a function begins

-- the function as it is added
abbrev pub added : Arena → Function → Declared
added a f = record { function = f; nodes = length a.nodes; statements = length a.statements }

pub begun_open : (a : Arena) (f : Function) → length a.functions ≡ length a.bodies → open_function (with_function a f) ≡ Some (added a f)
begun_open a f e = ap (slice_get (a.functions ++ added a f ∷ [])) (sym e) ∙ get_last a.functions (added a f)

-- what stands before it stands where it stood
stood : (a : Arena) (f : Function) (o : Option ℕ) (n : ℕ) (first : Declared → ℕ) → length a.functions ≡ length a.bodies → n < first (added a f) → ((g : ℕ) → o ≡ Some g → g < length a.functions)
    → header_at (with_function a f) o n first ≡ header_at a o n first
stood a f None n first e h there =
    ap (header_behind n first) (begun_open a f e) ∙ ap (λ b. if b then Some (header_of f) else None) (not_yet (nat_le (first (added a f)) n) refl)
    ∙ sym (ap (header_behind n first) (slice_get_past a.functions (length a.bodies) (omega (arith, e))))
  where
    not_yet : (b : Bool) → nat_le (first (added a f)) n ≡ b → b ≡ false
    not_yet true k = absurd (omega (arith, leb-true (first (added a f)) n k, h))
    not_yet false k = refl
stood a f (Some g) n first e h there = ap (λ o. Some (header_in o)) (get_kept a.functions (added a f) g (there g refl))

pub function_kept : (a : Arena) (f : Function) → IsGrowing a [] [] → open_header a ≡ None → has_locals f ≡ true → is_formed_header (design_of a) (header_of f) ≡ true → length a.functions < 2 ^ 32 - 1 → IsGrowing (with_function a f) [] []
function_kept a f g outside locals formed room =
    let c : Arena = with_function a f in
    let design : design_of c ≡ design_of a = function_added a f g.names in
    let trees : arena_trees c ≡ arena_trees a = trees_with_function a f g.names in
    record {
      few_scopes = g.few_scopes;
      few_nodes = g.few_nodes;
      few_statements = g.few_statements;
      few_functions = omega (arith, room, length-append a.functions (added a f ∷ []));
      names = names_with_function a f g.names;
      open_one = omega (arith, even, length-append a.functions (added a f ∷ []));
      begun = λ d h. let is : added a f ≡ d = same (sym (begun_open a f even) ∙ h) in subst (λ (x : Declared). (x.nodes ≤ length a.nodes) × (x.statements ≤ length a.statements)) is (omega arith, omega arith);
      locals = all_pushed (λ (d : Declared). has_locals d.function) a.functions (added a f) g.locals locals;
      header = λ h k. let is : header_of f ≡ h = same (sym (ap header_if (begun_open a f even)) ∙ k) in subst (λ x. is_formed_header x h ≡ true) (sym design) (subst (λ x. is_formed_header (design_of a) x ≡ true) is formed);
      functions = subst (λ d. list_all (is_formed_function d) d.functions ≡ true) (sym design) g.functions;
      expressions =
          λ e h. subst (λ d. is_formed (home_in d (expression_header c e)) (tree_at (arena_trees c) e) ≡ true) (sym design)
          (subst (λ ts. is_formed (home_in (design_of a) (expression_header c e)) (tree_at ts e) ≡ true) (sym trees)
          (subst (λ o. is_formed (home_in (design_of a) o) (tree_at (arena_trees a) e) ≡ true) (sym (expression_stood e h)) (g.expressions e h)));
      statements =
          λ s h. subst (λ d. is_formed_statement (home_in d (statement_header c s)) (statement_at (arena_statements c) s) ≡ true) (sym design)
          (subst (λ ss. is_formed_statement (home_in (design_of a) (statement_header c s)) (statement_at ss s) ≡ true) (sym (statements_with_function a f g.names))
          (subst (λ o. is_formed_statement (home_in (design_of a) o) (statement_at (arena_statements a) s) ≡ true) (sym (statement_stood s h)) (g.statements s h)));
      rooted = tt;
      embodied = tt;
      copies = g.copies;
      assign_targets = subst (λ ts. list_all (λ (p : Process). has_target (tree_at ts) p.kind) a.processes ≡ true) (sym trees) g.assign_targets;
      statement_targets = subst (λ ts. list_all (λ (t : Placed Statement). assigns_target (tree_at ts) t.item) a.statements ≡ true) (sym trees) g.statement_targets;
      expressions_once = g.expressions_once;
      expressions_there = g.expressions_there;
      statements_once = g.statements_once;
      statements_there = g.statements_there;
      node_chains = g.node_chains;
      statement_chains = g.statement_chains;
    }
  where
    even : length a.functions ≡ length a.bodies
    even = omega (arith, past_there a.functions (length a.bodies) (no_function a outside), g.names.matched)

    same : {A : Type 0} {x y : A} → Some x ≡ Some y → x ≡ y
    same e = cc

    expression_stood : (e : ℕ) → e < length a.nodes → expression_header (with_function a f) e ≡ expression_header a e
    expression_stood e h =
        ap (λ o. header_at (with_function a f) o e first_node) (function_home 0 a.functions (added a f) a.bodies e (omega (arith, even)))
        ∙ stood a f (node_home 0 a.functions a.bodies e) e first_node even h (λ k i. omega (arith, node_home_there 0 a.functions a.bodies e k i))

    statement_stood : (s : ℕ) → s < length a.statements → statement_header (with_function a f) s ≡ statement_header a s
    statement_stood s h =
        ap (λ o. header_at (with_function a f) o s first_statement) (function_statement_home 0 a.functions (added a f) a.bodies s (omega (arith, even)))
        ∙ stood a f (statement_home 0 a.functions a.bodies s) s first_statement even h (λ k i. omega (arith, statement_home_there 0 a.functions a.bodies s k i))

pub function_draft : (a : Arena) (f : Function) → IsGrowing a [] [] → open_header a ≡ None → draft_of (with_function a f) [] [] ≡ in_function (draft_of a [] []) (header_of f)
function_draft a f g outside =
    ap (λ d. record (draft_of (with_function a f) [] []) { design = d }) (function_added a f g.names)
    ∙ ap (λ o. record (draft_of a [] []) { function = header_if o }) (begun_open a f (omega (arith, past_there a.functions (length a.bodies) (no_function a outside), g.names.matched)))

-- ---- it has its statement

-- the statement as it is added
abbrev pub given : Arena → ℕ → Body
given a x = record { statement = x; nodes = length a.nodes; statements = length a.statements }

pub closed_now : (a : Arena) (x : ℕ) → length a.functions ≤ length a.bodies + 1 → open_function (with_body a x) ≡ None
closed_now a x h = slice_get_past a.functions (length (a.bodies ++ given a x ∷ [])) (omega (arith, h, length-append a.bodies (given a x ∷ [])))

-- what stands in it, stood in the open function
stays : (a : Arena) (x : ℕ) (d : Declared) (o : Option ℕ) (n end_ : ℕ) (first : Declared → ℕ) → open_function a ≡ Some d → length a.functions ≤ length a.bodies + 1 → n < end_
    → header_at (with_body a x) (last_home (0 + length a.bodies) (within_last end_ n first (slice_get a.functions (length a.bodies))) o) n first ≡ header_at a o n first
stays a x d (Some g) n end_ first is few h = refl
stays a x d None n end_ first is few h =
    ap (λ p. header_at (with_body a x) (last_home (0 + length a.bodies) (within_last end_ n first p) None) n first) is
    ∙ by (nat_le (first d) n) (nat_lt n end_) (lt-ltb n end_ h)
    ∙ sym (ap (header_behind n first) is)
  where
    by : (p q : Bool) → q ≡ true → header_at (with_body a x) (last_home (0 + length a.bodies) (p && q) None) n first ≡ (if p then Some (header_of d.function) else None)
    by true true e = ap (λ k. Some (header_in (slice_get a.functions k))) (omega arith) ∙ ap (λ o. Some (header_in o)) is
    by false true e = ap (header_behind n first) (closed_now a x few)
    by p false e = cc

pub body_closed : (a : Arena) (x : ℕ) (d : Declared) → IsGrowing a [] (x ∷ []) → open_function a ≡ Some d → is_nil (mixed_in false (statement_at (arena_statements a) x)) ≡ true → IsGrowing (with_body a x) [] []
body_closed a x d g is blocking =
    let c : Arena = with_body a x in
    let trees : arena_trees c ≡ arena_trees a = trees_with_body a x g.names in
    record {
      few_scopes = g.few_scopes;
      few_nodes = g.few_nodes;
      few_statements = g.few_statements;
      few_functions = g.few_functions;
      names = names_with_body a x g.names (open_there a d is) there;
      open_one = omega (arith, g.open_one, length-append a.bodies (given a x ∷ []));
      begun = λ f h. absurd (never (sym (closed_now a x g.open_one) ∙ h));
      locals = g.locals;
      header = λ h k. absurd (never (sym (ap header_if (closed_now a x g.open_one)) ∙ k));
      functions = subst (λ e. list_all (is_formed_function e) e.functions ≡ true) (sym design) (all_pushed (is_formed_function new) (design_of a).functions whole (all_wider (is_formed_function (design_of a)) (is_formed_function new) (design_of a).functions (function_wider (design_of a) new wider) g.functions) formed);
      expressions =
          λ e h. subst (λ z. is_formed (home_in z (expression_header c e)) (tree_at (arena_trees c) e) ≡ true) (sym design)
          (subst (λ ts. is_formed (home_in new (expression_header c e)) (tree_at ts e) ≡ true) (sym trees)
          (subst (λ o. is_formed (home_in new o) (tree_at (arena_trees a) e) ≡ true) (sym (expression_stays e h))
          (expression_wider (home_in (design_of a) (expression_header a e)) (home_in new (expression_header a e)) (home_wider (design_of a) new (expression_header a e) wider) (tree_at (arena_trees a) e) (g.expressions e h))));
      statements =
          λ s h. subst (λ z. is_formed_statement (home_in z (statement_header c s)) (statement_at (arena_statements c) s) ≡ true) (sym design)
          (subst (λ ss. is_formed_statement (home_in new (statement_header c s)) (statement_at ss s) ≡ true) (sym (statements_with_body a x g.names))
          (subst (λ o. is_formed_statement (home_in new o) (statement_at (arena_statements a) s) ≡ true) (sym (statement_stays s h))
          (statement_wider (home_in (design_of a) (statement_header a s)) (home_in new (statement_header a s)) (home_wider (design_of a) new (statement_header a s) wider) (statement_at (arena_statements a) s) (g.statements s h))));
      rooted = tt;
      embodied = tt;
      copies = g.copies;
      assign_targets = subst (λ ts. list_all (λ (p : Process). has_target (tree_at ts) p.kind) a.processes ≡ true) (sym trees) g.assign_targets;
      statement_targets = subst (λ ts. list_all (λ (t : Placed Statement). assigns_target (tree_at ts) t.item) a.statements ≡ true) (sym trees) g.statement_targets;
      expressions_once = g.expressions_once;
      expressions_there = g.expressions_there;
      statements_once = λ n. omega (arith, g.statements_once n);
      statements_there = λ n h. omega (arith, g.statements_there n h);
      node_chains = g.node_chains;
      statement_chains = g.statement_chains;
    }
  where
    whole : T.Function
    whole = record { header = header_in (declared_at a (length a.bodies)); statement = statement_at (arena_statements a) x }

    new : Design
    new = record (design_of a) { functions = (design_of a).functions ++ whole ∷ [] }

    design : design_of (with_body a x) ≡ new
    design = body_added a x g.names

    wider : IsWider (design_of a) new
    wider = same_signals (design_of a) new (omega arith) refl

    there : x < length a.statements
    there = by (nat_lt x (length a.statements)) refl
      where
        by : (b : Bool) → nat_lt x (length a.statements) ≡ b → x < length a.statements
        by true e = ltb-true x (length a.statements) e
        by false e = absurd (omega (arith, g.statements_there x (ltb-false x (length a.statements) e), times_here x x [] (eq-eqb x x refl)))

    -- its header, and its statement
    header_is : header_in (declared_at a (length a.bodies)) ≡ header_of d.function
    header_is = ap header_in is

    formed : is_formed_function new whole ≡ true
    formed =
        and_true (is_formed_header new whole.header && is_nil (mixed_in false whole.statement)) (is_formed_statement (inside new whole.header) whole.statement)
        (and_true (is_formed_header new whole.header) (is_nil (mixed_in false whole.statement)) (subst (λ h. is_formed_header (design_of a) h ≡ true) (sym header_is) (g.header (header_of d.function) (ap header_if is))) blocking)
        (subst (λ h. is_formed_statement (inside (design_of a) h) whole.statement ≡ true) (sym header_is)
        (statement_wider (home_in (design_of a) (Some (header_of d.function))) (inside (design_of a) (header_of d.function)) (home_inside (design_of a) (header_of d.function)) whole.statement
        (subst (λ o. is_formed_statement (home_in (design_of a) o) whole.statement ≡ true) (g.embodied.0 ∙ ap header_if is) (g.statements x there))))

    expression_stays : (e : ℕ) → e < length a.nodes → expression_header (with_body a x) e ≡ expression_header a e
    expression_stays e h =
        ap (λ o. header_at (with_body a x) o e first_node) (body_node_home 0 a.functions a.bodies (given a x) e)
        ∙ stays a x d (node_home 0 a.functions a.bodies e) e (length a.nodes) first_node is g.open_one h

    statement_stays : (s : ℕ) → s < length a.statements → statement_header (with_body a x) s ≡ statement_header a s
    statement_stays s h =
        ap (λ o. header_at (with_body a x) o s first_statement) (body_statement_home 0 a.functions a.bodies (given a x) s)
        ∙ stays a x d (statement_home 0 a.functions a.bodies s) s (length a.statements) first_statement is g.open_one h

pub body_draft : (a : Arena) (x : ℕ) (d : Declared) → IsGrowing a [] (x ∷ []) → open_function a ≡ Some d
    → draft_of (with_body a x) [] [] ≡ and_function (draft_of a [] []) (header_of d.function) (statement_at (arena_statements a) x)
body_draft a x d g is =
    ap (λ e. record (draft_of (with_body a x) [] []) { design = e }) (body_added a x g.names)
    ∙ ap (λ o. record (and_function (draft_of a [] []) (header_in (declared_at a (length a.bodies))) (statement_at (arena_statements a) x)) { function = header_if o }) (closed_now a x g.open_one)
    ∙ ap (λ o. and_function (draft_of a [] []) (header_in o) (statement_at (arena_statements a) x)) is

-- ---- whether a function is open stays

pub stays_open : {U F : Type 0} (r : Result U F) (a b c : Arena) → OnOk r (b ≡ c) → OnErr r (b ≡ a) → is_some (open_function c) ≡ is_some (open_function a) → is_some (open_function a) ≡ is_some (open_function b)
stays_open (Ok u) a b c h k e = sym e ∙ ap (λ (x : Arena). is_some (open_function x)) (sym h)
stays_open (Err u) a b c h k e = ap (λ (x : Arena). is_some (open_function x)) (sym k)
