-- The plain design as the flat one grows.
use Rattle.std.proofs.Common.{◌≡◌, ℕ, zero, suc, ◌+◌, ◌<◌, ◌≤◌, Bool, true, false, List, [], ◌∷◌, ◌++◌, map, length, take, drop, get_or, refl, sym, ap, ◌∙◌, subst, arith, length-append}
use Rattle.std.specs.Prelude.{Option, None, Some, slice_get, option_map, nat_lt}
use Rattle.std.specs.List.{list_all}
use Rattle.std.proofs.Math.ListN.{get_or-append}
use Rattle.std.proofs.lemmas.List.{map-append}
use Rattle.std.proofs.lemmas.List.Sums.{fold-append}
use Rattle.std.proofs.lemmas.Bool.{lt-ltb, ltb-true, leb-true}
use Rattle.std.proofs.lemmas.Option.{slice_get-map}
use Rattle.vs_design.specs.Expressions as E
use Rattle.vs_design.specs.Statements as T
use Rattle.vs_flat.specs.declared.placed.Placed.{Placed}
use Rattle.vs_flat.specs.declared.expressions.Node.{Node}
use Rattle.vs_flat.specs.declared.expressions.Node.TheVariants.{Call, Local}
use Rattle.vs_flat.specs.declared.expressions.Node.TheVariants as N
use Rattle.vs_design.specs.Expressions.{local_signals}
use Rattle.vs_flat.specs.declared.functions.Function.{Function}
use Rattle.vs_flat.specs.declared.functions.Declared.{Declared}
use Rattle.vs_flat.specs.declared.functions.Body.{Body}
use Rattle.vs_design.specs.Values.{count_from}
use Rattle.vs_flat.specs.declared.processes.Signal.{Signal}
use Rattle.vs_flat.specs.declared.processes.Scope.{Scope}
use Rattle.vs_flat.specs.declared.processes.Process.{Process}
use Rattle.vs_flat.specs.declared.processes.Initial.{Initial}
use Rattle.vs_flat.specs.declared.statements.Statement.{Statement}
use Rattle.vs_flat.specs.Arena.{Arena, placed, with_scope, with_signal, with_process, with_initial, with_node, with_statement, with_function, with_body, declared_at, body_at}
use Rattle.vs_flat.specs.Named.{covers_calls, locals_in, all_below, kind_names_below, node_names_below, statement_names_below}
use Rattle.vs_flat.specs.Trees.{no_signal, no_expression, signal_of, signals_from, signal_at, tree_at, statement_at, placed_tree, statement_tree, statement_trees}
use Rattle.vs_flat.specs.DesignOf.{local_of, header_of, header_in, statement_in, callee_of, arena_names, scope_of, process_of, initial_of, arena_signals, arena_trees, arena_statements, design_of}
use Rattle.vs_flat.specs.Lawful.{is_before, calls_below, is_closed, NamesEarlier}
use Rattle.vs_flat.proofs.Agreeing.{EqualBelow, Agreed, agreed_by, map_agrees, and_true, and_both, node_agrees, statement_agrees, kind_agrees}
use Rattle.vs_flat.proofs.Building.{grown, built, built_keeps, built-append, built_at, built_agrees, length-built, some_is, IsLocal}
use Rattle.vs_flat.proofs.Earlier.{all_at, take_drop, length_front, slice_left, slice_take, slice_there, slice_short, Closed, closed_is, node_at_calls, node_at_names, rising_at, statement_at_names}

-- signals
pub length-signals_from : (n : ℕ) (ss : List Signal) → length (signals_from n ss) ≡ length ss
length-signals_from n [] = refl
length-signals_from n (s ∷ ss) = ap suc (length-signals_from (suc n) ss)

pub signals_from-append : (n : ℕ) (ss : List Signal) (s : Signal) → signals_from n (ss ++ s ∷ []) ≡ signals_from n ss ++ signal_of (n + length ss) s ∷ []
signals_from-append n [] s = ap (λ m. signal_of m s ∷ []) (omega arith)
signals_from-append n (t ∷ ss) s =
    ap (λ xs. signal_of n t ∷ xs) (signals_from-append (suc n) ss s ∙ ap (λ m. signals_from (suc n) ss ++ signal_of m s ∷ []) (omega arith))

pub signal_from_at : (first : ℕ) (ss : List Signal) (i : ℕ) (s : Signal) → slice_get ss i ≡ Some s → signal_at (signals_from first ss) i ≡ signal_of (first + i) s
signal_from_at first [] i s at = cc
signal_from_at first (t ∷ ss) zero s at = ap (signal_of first) (some_is t s at) ∙ ap (λ m. signal_of m s) (omega arith)
signal_from_at first (t ∷ ss) (suc i) s at = signal_from_at (suc first) ss i s at ∙ ap (λ m. signal_of m s) (omega arith)

pub each_signal : (a : Arena) (n : ℕ) (s : Signal) → slice_get a.signals n ≡ Some s → signal_at (arena_signals a) n ≡ signal_of n s
each_signal a n s at = signal_from_at 0 a.signals n s at ∙ ap (λ m. signal_of m s) (omega arith)

pub length-signals : (a : Arena) → length (arena_signals a) ≡ length a.signals
length-signals a = length-signals_from 0 a.signals

-- trees
pub node_names : (a : Arena) → NamesEarlier a → (i : ℕ) (n : Placed Node) → slice_get a.nodes i ≡ Some n → node_names_below (length a.signals) i n.item ≡ true
node_names a e i n at = subst (λ k. node_names_below (length a.signals) k n.item ≡ true) (omega arith) (node_at_names (length a.signals) 0 a.nodes i n e.nodes at)

pub statement_names : (a : Arena) → NamesEarlier a → (i : ℕ) (s : Placed Statement) → slice_get a.statements i ≡ Some s → statement_names_below (length a.nodes) i s.item ≡ true
statement_names a e i s at = subst (λ k. statement_names_below (length a.nodes) k s.item ≡ true) (omega arith) (statement_at_names (length a.nodes) 0 a.statements i s e.statements at)

pub length-arena_trees : (a : Arena) → length (arena_trees a) ≡ length a.nodes
length-arena_trees a = length-built (λ trees n. placed_tree (arena_names a) (tree_at trees) n) [] a.nodes ∙ omega arith

pub length-arena_statements : (a : Arena) → length (arena_statements a) ≡ length a.statements
length-arena_statements a = length-built (λ trees (s : Placed Statement). statement_tree (tree_at (arena_trees a)) (statement_at trees) s.at s.item) [] a.statements ∙ omega arith

-- ---- functions

abbrev callee_by : Arena → List T.Statement → ℕ → T.Function
callee_by a statements k = record { header = header_in (declared_at a k); statement = statement_in statements (body_at a k) }

abbrev make_statement : (ℕ → E.Expression) → List T.Statement → Placed Statement → T.Statement
make_statement f trees s = statement_tree f (statement_at trees) s.at s.item

-- the trees of the first elements are no matter of those after them
prefix_at : {X Y : Type 0} (make : List X → Y → X) (d : X) (xs ys : List Y) (m : ℕ) → m < length xs → get_or (built make [] (xs ++ ys)) m d ≡ get_or (built make [] xs) m d
prefix_at make d xs ys m h = ap (λ ts. get_or ts m d) (fold-append (grown make) [] xs ys) ∙ built_keeps make d (built make [] xs) ys m (omega (arith, length-built make [] xs))

-- a function's statement depends on the expressions before it alone
closed_agrees : (nodes : ℕ) (statements : List (Placed Statement)) (b : Body) (f g : ℕ → E.Expression) → Closed nodes statements b → EqualBelow b.nodes f g → statement_at (statement_trees f statements) b.statement ≡ statement_at (statement_trees g statements) b.statement
closed_agrees nodes statements b f g c same =
    ap (λ ss. statement_at (statement_trees f ss) b.statement) (take_drop b.statements statements)
    ∙ prefix_at (make_statement f) T.Empty xs ys b.statement short
    ∙ ap (λ ts. statement_at ts b.statement) (built_agrees (make_statement f) (make_statement g) [] xs (λ i s at us. statement_agrees b.nodes i f g (statement_at us) (statement_at us) s.at s.item same (λ k h. refl) (subst (λ k. statement_names_below b.nodes k s.item ≡ true) (omega arith) (statement_at_names b.nodes 0 xs i s c.named at))))
    ∙ sym (prefix_at (make_statement g) T.Empty xs ys b.statement short)
    ∙ ap (λ ss. statement_at (statement_trees g ss) b.statement) (sym (take_drop b.statements statements))
  where
    xs : List (Placed Statement)
    xs = take b.statements statements

    ys : List (Placed Statement)
    ys = drop b.statements statements

    short : b.statement < length xs
    short = let t = c.there in let l = length_front b.statements statements c.within in omega (arith, t, l)

node_calls_at : (a : Arena) → NamesEarlier a → (i : ℕ) (n : Placed Node) → slice_get a.nodes i ≡ Some n → calls_below a.functions a.bodies i n.item ≡ true
node_calls_at a e i n at = subst (λ k. calls_below a.functions a.bodies k n.item ≡ true) (omega arith) (node_at_calls a.functions a.bodies 0 a.nodes i n e.calls at)

body_closed : (a : Arena) → NamesEarlier a → (k : ℕ) (b : Body) → slice_get a.bodies k ≡ Some b → Closed (length a.nodes) a.statements b
body_closed a e k b at = closed_is (length a.nodes) a.statements b (all_at (is_closed (length a.nodes) a.statements) a.bodies k b e.bodies at)

pub called_earlier : (a : Arena) → NamesEarlier a → (i : ℕ) (n : Placed Node) → slice_get a.nodes i ≡ Some n → (k : ℕ) (arguments : List ℕ) → n.item ≡ Call k arguments → (b : Body) → slice_get a.bodies k ≡ Some b → b.nodes ≤ i
called_earlier a e i n at k arguments is b body =
    leb-true b.nodes i (subst (λ o. is_before i o ≡ true) body (subst (λ x. calls_below a.functions a.bodies i x ≡ true) is (node_calls_at a e i n at)))

pub called_before : (a : Arena) → NamesEarlier a → (f : ℕ) (b : Body) → slice_get a.bodies f ≡ Some b → (i : ℕ) (n : Placed Node) → i < b.nodes → slice_get a.nodes i ≡ Some n → (k : ℕ) (arguments : List ℕ) → n.item ≡ Call k arguments → k < f
called_before a e f b there i n l at k arguments is =
    go (slice_get a.bodies k) refl (subst (λ x. calls_below a.functions a.bodies i x ≡ true) is (node_calls_at a e i n at)) (nat_lt k f) refl
  where
    go : (o : Option Body) → slice_get a.bodies k ≡ o → is_before i o ≡ true → (t : Bool) → nat_lt k f ≡ t → k < f
    go None m h t d = cc
    go (Some c) m h true d = ltb-true k f d
    go (Some c) m h false d =
        let s = leb-true c.nodes i h in
        let r = rising_at 0 a.bodies f k b c e.rising there m (grind arith) in
        omega (arith, s, r, l)

pub body_there : (a : Arena) → NamesEarlier a → (k : ℕ) (b : Body) → slice_get a.bodies k ≡ Some b → (b.nodes ≤ length a.nodes) × (b.statement < b.statements) × (b.statements ≤ length a.statements)
body_there a e k b at = let c = body_closed a e k b at in (c.before, c.there, c.within)

pub body_names : (a : Arena) → NamesEarlier a → (k : ℕ) (b : Body) → slice_get a.bodies k ≡ Some b → (i : ℕ) (s : Placed Statement) → i < b.statements → slice_get a.statements i ≡ Some s → statement_names_below b.nodes i s.item ≡ true
body_names a e k b at i s l there =
    subst (λ j. statement_names_below b.nodes j s.item ≡ true) (omega arith)
    (statement_at_names b.nodes 0 (take b.statements a.statements) i s (body_closed a e k b at).named (slice_take b.statements a.statements i s l there))

abbrev with_statement_of : E.Header → T.Statement → T.Function
with_statement_of h s = record { header = h; statement = s }

callee_agrees : (a : Arena) → NamesEarlier a → (i : ℕ) (n : Placed Node) → slice_get a.nodes i ≡ Some n → (k : ℕ) (arguments : List ℕ) → n.item ≡ Call k arguments → (f g : ℕ → E.Expression) → EqualBelow i f g → callee_of a f k ≡ callee_of a g k
callee_agrees a e i n at k arguments is f g same =
    ap (with_statement_of (header_in (declared_at a k))) (go (slice_get a.bodies k) refl (subst (λ x. calls_below a.functions a.bodies i x ≡ true) is (node_calls_at a e i n at)))
  where
    go : (o : Option Body) → slice_get a.bodies k ≡ o → is_before i o ≡ true → statement_in (statement_trees f a.statements) o ≡ statement_in (statement_trees g a.statements) o
    go None m h = refl
    go (Some b) m h = let l = leb-true b.nodes i h in closed_agrees (length a.nodes) a.statements b f g (body_closed a e k b m) (λ j lt. same j (omega (arith, l)))

self_agreed : (a : Arena) → NamesEarlier a → (i : ℕ) (n : Placed Node) → slice_get a.nodes i ≡ Some n → (f g : ℕ → E.Expression) → EqualBelow i f g → Agreed (arena_names a) (arena_names a) f g n.item
self_agreed a e i n at f g same = agreed_by (arena_names a) (arena_names a) f g n.item (λ k m is. refl) (λ k arguments is. callee_agrees a e i n at k arguments is f g same)

-- ---- trees

trees_local : (a : Arena) → NamesEarlier a → IsLocal (λ trees n. placed_tree (arena_names a) (tree_at trees) n) no_expression 0 a.nodes
trees_local a e i n at us vs same =
    ap (E.At n.at) (node_agrees (length a.signals) i (arena_names a) (arena_names a) (tree_at us) (tree_at vs) n.item (λ k h. refl) (λ k h. same k (omega arith)) (self_agreed a e i n at (tree_at us) (tree_at vs) (λ k h. same k (omega arith))) (node_names a e i n at))

pub each_tree : (a : Arena) → NamesEarlier a → (e : ℕ) (n : Placed Node) → slice_get a.nodes e ≡ Some n
    → tree_at (arena_trees a) e ≡ placed_tree (arena_names a) (tree_at (arena_trees a)) n
each_tree a names e n at =
    ap (tree_at (arena_trees a)) (omega arith)
    ∙ built_at (λ trees m. placed_tree (arena_names a) (tree_at trees) m) no_expression 0 [] a.nodes refl (trees_local a names) e n at

statements_local : (a : Arena) → NamesEarlier a → IsLocal (λ trees (s : Placed Statement). statement_tree (tree_at (arena_trees a)) (statement_at trees) s.at s.item) T.Empty 0 a.statements
statements_local a e i s at us vs same =
    statement_agrees (length a.nodes) i (tree_at (arena_trees a)) (tree_at (arena_trees a)) (statement_at us) (statement_at vs) s.at s.item (λ k h. refl) (λ k h. same k (omega arith)) (statement_names a e i s at)

pub each_statement : (a : Arena) → NamesEarlier a → (n : ℕ) (s : Placed Statement) → slice_get a.statements n ≡ Some s
    → statement_at (arena_statements a) n ≡ statement_tree (tree_at (arena_trees a)) (statement_at (arena_statements a)) s.at s.item
each_statement a names n s at =
    ap (statement_at (arena_statements a)) (omega arith)
    ∙ built_at (λ trees (t : Placed Statement). statement_tree (tree_at (arena_trees a)) (statement_at trees) t.at t.item) T.Empty 0 [] a.statements refl (statements_local a names) n s at

pub each_process : (a : Arena) (n : ℕ) (p : Process) → slice_get a.processes n ≡ Some p
    → slice_get (design_of a).processes n ≡ Some (process_of (signal_at (arena_signals a)) (tree_at (arena_trees a)) (statement_at (arena_statements a)) p)
each_process a n p at =
    let make = process_of (signal_at (arena_signals a)) (tree_at (arena_trees a)) (statement_at (arena_statements a)) in
    slice_get-map make a.processes n ∙ ap (option_map make) at

pub each_initial : (a : Arena) (k : ℕ) (i : Initial) → slice_get a.initials k ≡ Some i → slice_get (design_of a).initials k ≡ Some (initial_of (statement_at (arena_statements a)) i)
each_initial a k i at =
    let make = initial_of (statement_at (arena_statements a)) in
    slice_get-map make a.initials k ∙ ap (option_map make) at

-- processes depend on what they name
processes_agree : (signals nodes statements : ℕ) (s t : ℕ → E.Signal) (f g : ℕ → E.Expression) (v w : ℕ → T.Statement) (ps : List Process) → EqualBelow signals s t → EqualBelow nodes f g → EqualBelow statements v w
    → list_all (λ (p : Process). kind_names_below signals nodes statements p.kind) ps ≡ true → map (process_of s f v) ps ≡ map (process_of t g w) ps
processes_agree signals nodes statements s t f g v w [] ss ff vv h = refl
processes_agree signals nodes statements s t f g v w (p ∷ ps) ss ff vv h =
    let b = and_both (kind_names_below signals nodes statements p.kind) (list_all (λ (q : Process). kind_names_below signals nodes statements q.kind) ps) h in
    let head : process_of s f v p ≡ process_of t g w p = kind_agrees signals nodes statements s t f g v w p.at p.kind ss ff vv b.0 in
    let rest : map (process_of s f v) ps ≡ map (process_of t g w) ps = processes_agree signals nodes statements s t f g v w ps ss ff vv b.1 in
    cc

initials_agree : (statements : ℕ) (v w : ℕ → T.Statement) (is : List Initial) → EqualBelow statements v w → list_all (λ (i : Initial). nat_lt i.statement statements) is ≡ true → map (initial_of v) is ≡ map (initial_of w) is
initials_agree statements v w [] vv h = refl
initials_agree statements v w (i ∷ is) vv h =
    let b = and_both (nat_lt i.statement statements) (list_all (λ (j : Initial). nat_lt j.statement statements) is) h in
    let head : initial_of v i ≡ initial_of w i = ap (λ (s : T.Statement). initial_of (λ k. s) i) (vv i.statement (ltb-true i.statement statements b.0)) in
    let rest : map (initial_of v) is ≡ map (initial_of w) is = initials_agree statements v w is vv b.1 in
    cc

-- initial processes of the same statements
initials_same : (a b : Arena) → b.initials ≡ a.initials → arena_statements b ≡ arena_statements a → (design_of b).initials ≡ (design_of a).initials
initials_same a b i e = ap (λ is. map (initial_of (statement_at (arena_statements b))) is) i ∙ ap (λ ss. map (initial_of (statement_at ss)) a.initials) e

-- a list with one more is the same below
more_below : {A : Type 0} (xs more : List A) (d x : A) (n : ℕ) → length xs ≡ n → more ≡ xs ++ x ∷ [] → EqualBelow n (λ k. get_or more k d) (λ k. get_or xs k d)
more_below xs more d x n e is k h = ap (λ ys. get_or ys k d) is ∙ get_or-append xs (x ∷ []) d k (omega arith)

-- what is added
pub scope_added : (a : Arena) (s : Scope) → design_of (with_scope a s) ≡ record (design_of a) { scopes = (design_of a).scopes ++ scope_of s ∷ [] }
scope_added a s = ap (λ xs. record (design_of a) { scopes = xs }) (map-append scope_of a.scopes (s ∷ []))

pub process_added : (a : Arena) (p : Process)
    → design_of (with_process a p) ≡ record (design_of a) { processes = (design_of a).processes ++ process_of (signal_at (arena_signals a)) (tree_at (arena_trees a)) (statement_at (arena_statements a)) p ∷ [] }
process_added a p =
    ap (λ xs. record (design_of a) { processes = xs }) (map-append (process_of (signal_at (arena_signals a)) (tree_at (arena_trees a)) (statement_at (arena_statements a))) a.processes (p ∷ []))

pub initial_added : (a : Arena) (i : Initial) → design_of (with_initial a i) ≡ record (design_of a) { initials = (design_of a).initials ++ initial_of (statement_at (arena_statements a)) i ∷ [] }
initial_added a i = ap (λ xs. record (design_of a) { initials = xs }) (map-append (initial_of (statement_at (arena_statements a))) a.initials (i ∷ []))

signals_more : (a : Arena) (s : Signal) → EqualBelow (length a.signals) (signal_at (arena_signals (with_signal a s))) (signal_at (arena_signals a))
signals_more a s = more_below (arena_signals a) (arena_signals (with_signal a s)) no_signal (signal_of (0 + length a.signals) s) (length a.signals) (length-signals_from 0 a.signals) (signals_from-append 0 a.signals s)

pub trees_with_signal : (a : Arena) (s : Signal) → NamesEarlier a → arena_trees (with_signal a s) ≡ arena_trees a
trees_with_signal a s e =
    built_agrees (λ trees n. placed_tree (arena_names (with_signal a s)) (tree_at trees) n) (λ trees n. placed_tree (arena_names a) (tree_at trees) n) [] a.nodes
    (λ i n at us. ap (E.At n.at) (node_agrees (length a.signals) i (arena_names (with_signal a s)) (arena_names a) (tree_at us) (tree_at us) n.item (signals_more a s) (λ k h. refl) (agreed_by (arena_names (with_signal a s)) (arena_names a) (tree_at us) (tree_at us) n.item (λ k m is. refl) (λ k arguments is. refl)) (node_names a e i n at)))

pub statements_with_signal : (a : Arena) (s : Signal) → NamesEarlier a → arena_statements (with_signal a s) ≡ arena_statements a
statements_with_signal a s e = ap (λ trees. statement_trees (tree_at trees) a.statements) (trees_with_signal a s e)

abbrev functions_by : Arena → List T.Statement → List T.Function
functions_by a statements = map (callee_by a statements) (count_from 0 (length a.bodies))

pub signal_added : (a : Arena) (s : Signal) → NamesEarlier a → design_of (with_signal a s) ≡ record (design_of a) { signals = (design_of a).signals ++ signal_of (length a.signals) s ∷ [] }
signal_added a s e =
    let b : Arena = with_signal a s in
    let signals : arena_signals b ≡ arena_signals a ++ signal_of (length a.signals) s ∷ [] = signals_from-append 0 a.signals s ∙ ap (λ m. arena_signals a ++ signal_of m s ∷ []) (omega arith) in
    let processes : (design_of b).processes ≡ (design_of a).processes =
    processes_agree (length a.signals) (length a.nodes) (length a.statements) (signal_at (arena_signals b)) (signal_at (arena_signals a)) (tree_at (arena_trees b)) (tree_at (arena_trees a)) (statement_at (arena_statements b)) (statement_at (arena_statements a)) a.processes
    (signals_more a s) (λ k h. ap (λ trees. tree_at trees k) (trees_with_signal a s e)) (λ k h. ap (λ trees. statement_at trees k) (statements_with_signal a s e)) e.processes
    in
    ap (λ xs. record (design_of b) { signals = xs }) signals
    ∙ ap (λ xs. record (design_of b) { signals = arena_signals a ++ signal_of (length a.signals) s ∷ []; processes = xs }) processes
    ∙ ap (λ xs. record (design_of b) { signals = arena_signals a ++ signal_of (length a.signals) s ∷ []; processes = (design_of a).processes; initials = xs }) (initials_same a b refl (statements_with_signal a s e))
    ∙ ap (λ xs. record (design_of a) { signals = arena_signals a ++ signal_of (length a.signals) s ∷ []; functions = xs }) (ap (functions_by a) (statements_with_signal a s e))

pub trees_with_node : (a : Arena) (n : Node) (at : ℕ) → arena_trees (with_node a n at) ≡ arena_trees a ++ placed_tree (arena_names a) (tree_at (arena_trees a)) (placed n at) ∷ []
trees_with_node a n at = built-append (λ trees m. placed_tree (arena_names a) (tree_at trees) m) [] a.nodes (placed n at)

trees_more : (a : Arena) (n : Node) (at : ℕ) → EqualBelow (length a.nodes) (tree_at (arena_trees (with_node a n at))) (tree_at (arena_trees a))
trees_more a n at = more_below (arena_trees a) (arena_trees (with_node a n at)) no_expression (placed_tree (arena_names a) (tree_at (arena_trees a)) (placed n at)) (length a.nodes) (length-arena_trees a) (trees_with_node a n at)

pub statements_with_node : (a : Arena) (n : Node) (at : ℕ) → NamesEarlier a → arena_statements (with_node a n at) ≡ arena_statements a
statements_with_node a n at e =
    built_agrees (λ trees (s : Placed Statement). statement_tree (tree_at (arena_trees (with_node a n at))) (statement_at trees) s.at s.item) (λ trees (s : Placed Statement). statement_tree (tree_at (arena_trees a)) (statement_at trees) s.at s.item) [] a.statements
    (λ i s is us. statement_agrees (length a.nodes) i (tree_at (arena_trees (with_node a n at))) (tree_at (arena_trees a)) (statement_at us) (statement_at us) s.at s.item (trees_more a n at) (λ k h. refl) (statement_names a e i s is))

pub node_added : (a : Arena) (n : Node) (at : ℕ) → NamesEarlier a → design_of (with_node a n at) ≡ design_of a
node_added a n at e =
    let b : Arena = with_node a n at in
    ap (λ xs. record (design_of b) { processes = xs })
    (processes_agree (length a.signals) (length a.nodes) (length a.statements) (signal_at (arena_signals a)) (signal_at (arena_signals a)) (tree_at (arena_trees b)) (tree_at (arena_trees a)) (statement_at (arena_statements b)) (statement_at (arena_statements a)) a.processes
    (λ k h. refl) (trees_more a n at) (λ k h. ap (λ trees. statement_at trees k) (statements_with_node a n at e)) e.processes)
    ∙ ap (λ xs. record (design_of b) { processes = (design_of a).processes; initials = xs }) (initials_same a b refl (statements_with_node a n at e))
    ∙ ap (λ xs. record (design_of a) { functions = xs }) (ap (functions_by a) (statements_with_node a n at e))

-- one statement more is no matter of the functions' statements
in_with_statement : (a : Arena) → NamesEarlier a → (trees : List T.Statement) (x : T.Statement) (k : ℕ) → length trees ≡ length a.statements → statement_in (trees ++ x ∷ []) (body_at a k) ≡ statement_in trees (body_at a k)
in_with_statement a e trees x k l = go (slice_get a.bodies k) refl
  where
    go : (o : Option Body) → slice_get a.bodies k ≡ o → statement_in (trees ++ x ∷ []) o ≡ statement_in trees o
    go None m = refl
    go (Some b) m = let c = body_closed a e k b m in let t = c.there in let u = c.within in get_or-append trees (x ∷ []) T.Empty b.statement (omega (arith, t, u, l))

callee_with_statement : (a : Arena) → NamesEarlier a → (s : Statement) (at : ℕ) (f : ℕ → E.Expression) (k : ℕ) → callee_of (with_statement a s at) f k ≡ callee_of a f k
callee_with_statement a e s at f k =
    ap (with_statement_of (header_in (declared_at a k)))
    (ap (λ ts. statement_in ts (body_at a k)) (built-append (make_statement f) [] a.statements (placed s at))
    ∙ in_with_statement a e (statement_trees f a.statements) (make_statement f (statement_trees f a.statements) (placed s at)) k (length-built (make_statement f) [] a.statements ∙ omega arith))

pub trees_with_statement : (a : Arena) (s : Statement) (at : ℕ) → NamesEarlier a → arena_trees (with_statement a s at) ≡ arena_trees a
trees_with_statement a s at e =
    built_agrees (λ trees n. placed_tree (arena_names (with_statement a s at)) (tree_at trees) n) (λ trees n. placed_tree (arena_names a) (tree_at trees) n) [] a.nodes
    (λ i n is us. ap (E.At n.at) (node_agrees (length a.signals) i (arena_names (with_statement a s at)) (arena_names a) (tree_at us) (tree_at us) n.item (λ k h. refl) (λ k h. refl)
    (agreed_by (arena_names (with_statement a s at)) (arena_names a) (tree_at us) (tree_at us) n.item (λ k m c. refl) (λ k arguments c. callee_with_statement a e s at (tree_at us) k)) (node_names a e i n is)))

pub statements_with_statement : (a : Arena) (s : Statement) (at : ℕ) → NamesEarlier a → arena_statements (with_statement a s at) ≡ arena_statements a ++ statement_tree (tree_at (arena_trees a)) (statement_at (arena_statements a)) at s ∷ []
statements_with_statement a s at e =
    ap (λ trees. statement_trees (tree_at trees) (a.statements ++ placed s at ∷ [])) (trees_with_statement a s at e)
    ∙ built-append (make_statement (tree_at (arena_trees a))) [] a.statements (placed s at)

-- the numbers below n
below_count : (first len n : ℕ) → first + len ≤ n → all_below n (count_from first len) ≡ true
below_count first zero n h = refl
below_count first (suc len) n h = and_true _ _ (lt-ltb first n (omega arith)) (below_count (suc first) len n (omega arith))

functions_agree : (n : ℕ) (f g : ℕ → T.Function) → EqualBelow n f g → map f (count_from 0 n) ≡ map g (count_from 0 n)
functions_agree n f g same = map_agrees n f g (count_from 0 n) same (below_count 0 n n (omega arith))

pub statement_added : (a : Arena) (s : Statement) (at : ℕ) → NamesEarlier a → design_of (with_statement a s at) ≡ design_of a
statement_added a s at e =
    let b : Arena = with_statement a s at in
    let tree = statement_tree (tree_at (arena_trees a)) (statement_at (arena_statements a)) at s in
    let more = more_below (arena_statements a) (arena_statements b) T.Empty tree (length a.statements) (length-arena_statements a) (statements_with_statement a s at e) in
    ap (λ xs. record (design_of b) { processes = xs })
    (processes_agree (length a.signals) (length a.nodes) (length a.statements) (signal_at (arena_signals a)) (signal_at (arena_signals a)) (tree_at (arena_trees b)) (tree_at (arena_trees a)) (statement_at (arena_statements b)) (statement_at (arena_statements a)) a.processes
    (λ k h. refl) (λ k h. ap (λ trees. tree_at trees k) (trees_with_statement a s at e)) more e.processes)
    ∙ ap (λ xs. record (design_of b) { processes = (design_of a).processes; initials = xs }) (initials_agree (length a.statements) (statement_at (arena_statements b)) (statement_at (arena_statements a)) a.initials more e.initials)
    ∙ ap (λ xs. record (design_of a) { functions = xs })
    (functions_agree (length a.bodies) (callee_by a (arena_statements b)) (callee_by a (arena_statements a))
    (λ k h. ap (with_statement_of (header_in (declared_at a k))) (ap (λ ts. statement_in ts (body_at a k)) (statements_with_statement a s at e) ∙ in_with_statement a e (arena_statements a) tree k (length-arena_statements a))))

-- ---- a function more

-- a function that is there stays
header_stays : (functions : List Declared) (d : Declared) (k : ℕ) → k < length functions → header_in (slice_get (functions ++ d ∷ []) k) ≡ header_in (slice_get functions k)
header_stays functions d k h = let s = slice_there functions k h in ap header_in (slice_left functions d k s.0 s.1 ∙ sym s.1)

locals_stay : (functions : List Declared) (d : Declared) (k m : ℕ) → nat_lt m (length (locals_in (slice_get functions k))) ≡ true → locals_in (slice_get (functions ++ d ∷ []) k) ≡ locals_in (slice_get functions k)
locals_stay functions d k m h = go (slice_get functions k) refl h
  where
    go : (o : Option Declared) → slice_get functions k ≡ o → nat_lt m (length (locals_in o)) ≡ true → locals_in (slice_get (functions ++ d ∷ []) k) ≡ locals_in o
    go None e h = let l : m < 0 = ltb-true m 0 h in absurd (omega arith)
    go (Some x) e h = ap locals_in (slice_left functions d k x e)

called_there : (bodies : List Body) (i k : ℕ) → is_before i (slice_get bodies k) ≡ true → k < length bodies
called_there bodies i k h = go (slice_get bodies k) refl h
  where
    go : (o : Option Body) → slice_get bodies k ≡ o → is_before i o ≡ true → k < length bodies
    go None e h = cc
    go (Some b) e h = slice_short bodies k b e

pub trees_with_function : (a : Arena) (f : Function) → NamesEarlier a → arena_trees (with_function a f) ≡ arena_trees a
trees_with_function a f e =
    built_agrees (λ trees n. placed_tree (arena_names (with_function a f)) (tree_at trees) n) (λ trees n. placed_tree (arena_names a) (tree_at trees) n) [] a.nodes
    (λ i n is us. ap (E.At n.at) (node_agrees (length a.signals) i (arena_names (with_function a f)) (arena_names a) (tree_at us) (tree_at us) n.item (λ k h. refl) (λ k h. refl)
    (agreed_by (arena_names (with_function a f)) (arena_names a) (tree_at us) (tree_at us) n.item
    (λ k m c. ap (λ ss. signal_at (signals_from 0 ss) m) (locals_stay a.functions d k m (subst (λ x. calls_below a.functions a.bodies i x ≡ true) c (node_calls_at a e i n is))))
    (λ k arguments c.
    let l = called_there a.bodies i k (subst (λ x. calls_below a.functions a.bodies i x ≡ true) c (node_calls_at a e i n is)) in
    let m = e.matched in
    ap (λ h. with_statement_of h (statement_in (statement_trees (tree_at us) a.statements) (body_at a k))) (header_stays a.functions d k (omega (arith, l, m)))))
    (node_names a e i n is)))
  where
    d : Declared
    d = record { function = f; nodes = length a.nodes; statements = length a.statements }

pub statements_with_function : (a : Arena) (f : Function) → NamesEarlier a → arena_statements (with_function a f) ≡ arena_statements a
statements_with_function a f e = ap (λ trees. statement_trees (tree_at trees) a.statements) (trees_with_function a f e)

pub function_added : (a : Arena) (f : Function) → NamesEarlier a → design_of (with_function a f) ≡ design_of a
function_added a f e =
    let b : Arena = with_function a f in
    let d : Declared = record { function = f; nodes = length a.nodes; statements = length a.statements } in
    ap (λ xs. record (design_of b) { processes = xs })
    (processes_agree (length a.signals) (length a.nodes) (length a.statements) (signal_at (arena_signals a)) (signal_at (arena_signals a)) (tree_at (arena_trees b)) (tree_at (arena_trees a)) (statement_at (arena_statements b)) (statement_at (arena_statements a)) a.processes
    (λ k h. refl) (λ k h. ap (λ trees. tree_at trees k) (trees_with_function a f e)) (λ k h. ap (λ trees. statement_at trees k) (statements_with_function a f e)) e.processes)
    ∙ ap (λ xs. record (design_of b) { processes = (design_of a).processes; initials = xs }) (initials_same a b refl (statements_with_function a f e))
    ∙ ap (λ xs. record (design_of a) { functions = xs })
    (functions_agree (length a.bodies) (callee_by b (arena_statements b)) (callee_by a (arena_statements a))
    (λ k h.
    let m = e.matched in
    ap (λ x. with_statement_of x (statement_in (arena_statements b) (body_at a k))) (header_stays a.functions d k (omega (arith, h, m)))
    ∙ ap (λ ss. with_statement_of (header_in (declared_at a k)) (statement_in ss (body_at a k))) (statements_with_function a f e)))

-- ---- and its statement

body_stays : (bodies : List Body) (b : Body) (statements : List T.Statement) (k : ℕ) → k < length bodies → statement_in statements (slice_get (bodies ++ b ∷ []) k) ≡ statement_in statements (slice_get bodies k)
body_stays bodies b statements k h = let s = slice_there bodies k h in ap (statement_in statements) (slice_left bodies b k s.0 s.1 ∙ sym s.1)

pub trees_with_body : (a : Arena) (s : ℕ) → NamesEarlier a → arena_trees (with_body a s) ≡ arena_trees a
trees_with_body a s e =
    built_agrees (λ trees n. placed_tree (arena_names (with_body a s)) (tree_at trees) n) (λ trees n. placed_tree (arena_names a) (tree_at trees) n) [] a.nodes
    (λ i n is us. ap (E.At n.at) (node_agrees (length a.signals) i (arena_names (with_body a s)) (arena_names a) (tree_at us) (tree_at us) n.item (λ k h. refl) (λ k h. refl)
    (agreed_by (arena_names (with_body a s)) (arena_names a) (tree_at us) (tree_at us) n.item (λ k m c. refl)
    (λ k arguments c.
    let l = called_there a.bodies i k (subst (λ x. calls_below a.functions a.bodies i x ≡ true) c (node_calls_at a e i n is)) in
    ap (with_statement_of (header_in (declared_at a k))) (body_stays a.bodies b (statement_trees (tree_at us) a.statements) k l)))
    (node_names a e i n is)))
  where
    b : Body
    b = record { statement = s; nodes = length a.nodes; statements = length a.statements }

pub statements_with_body : (a : Arena) (s : ℕ) → NamesEarlier a → arena_statements (with_body a s) ≡ arena_statements a
statements_with_body a s e = ap (λ trees. statement_trees (tree_at trees) a.statements) (trees_with_body a s e)

count_last : (first n : ℕ) → count_from first (suc n) ≡ count_from first n ++ (first + n) ∷ []
count_last first zero = ap (λ k. k ∷ []) (omega arith)
count_last first (suc n) = ap (λ ks. first ∷ ks) (count_last (suc first) n ∙ ap (λ k. count_from (suc first) n ++ k ∷ []) (omega arith))

slice_last : (bodies : List Body) (b : Body) → slice_get (bodies ++ b ∷ []) (length bodies) ≡ Some b
slice_last [] b = refl
slice_last (x ∷ bodies) b = slice_last bodies b

pub body_added : (a : Arena) (s : ℕ) → NamesEarlier a
    → design_of (with_body a s) ≡ record (design_of a) { functions = (design_of a).functions ++ record { header = header_in (declared_at a (length a.bodies)); statement = statement_at (arena_statements a) s } ∷ [] }
body_added a s e =
    ap (λ xs. record (design_of c) { processes = xs })
    (processes_agree (length a.signals) (length a.nodes) (length a.statements) (signal_at (arena_signals a)) (signal_at (arena_signals a)) (tree_at (arena_trees c)) (tree_at (arena_trees a)) (statement_at (arena_statements c)) (statement_at (arena_statements a)) a.processes
    (λ k h. refl) (λ k h. ap (λ trees. tree_at trees k) (trees_with_body a s e)) (λ k h. ap (λ trees. statement_at trees k) (statements_with_body a s e)) e.processes)
    ∙ ap (λ xs. record (design_of c) { processes = (design_of a).processes; initials = xs }) (initials_same a c refl (statements_with_body a s e))
    ∙ ap (λ xs. record (design_of a) { functions = xs }) functions
  where
    c : Arena
    c = with_body a s

    b : Body
    b = record { statement = s; nodes = length a.nodes; statements = length a.statements }

    one_more : length (a.bodies ++ b ∷ []) ≡ suc (length a.bodies)
    one_more = omega (arith, length-append a.bodies (b ∷ []))

    functions : (design_of c).functions ≡ (design_of a).functions ++ record { header = header_in (declared_at a (length a.bodies)); statement = statement_at (arena_statements a) s } ∷ []
    functions =
        ap (λ n. map (callee_by c (arena_statements c)) (count_from 0 n)) one_more
        ∙ ap (λ ks. map (callee_by c (arena_statements c)) ks) (count_last 0 (length a.bodies) ∙ ap (λ k. count_from 0 (length a.bodies) ++ k ∷ []) (omega arith))
        ∙ map-append (callee_by c (arena_statements c)) (count_from 0 (length a.bodies)) (length a.bodies ∷ [])
        ∙ ap (λ xs. xs ++ callee_by c (arena_statements c) (length a.bodies) ∷ [])
        (functions_agree (length a.bodies) (callee_by c (arena_statements c)) (callee_by a (arena_statements a))
        (λ k h. ap (with_statement_of (header_in (declared_at a k))) (body_stays a.bodies b (arena_statements c) k h ∙ ap (λ ss. statement_in ss (body_at a k)) (statements_with_body a s e))))
        ∙ ap (λ x. (design_of a).functions ++ with_statement_of (header_in (declared_at a (length a.bodies))) x ∷ [])
        (ap (statement_in (arena_statements c)) (slice_last a.bodies b) ∙ ap (λ ss. statement_at ss s) (statements_with_body a s e))

-- ---- each function of the plain design

count_at : (first n k : ℕ) → k < n → slice_get (count_from first n) k ≡ Some (first + k)
count_at first zero k h = absurd (omega arith)
count_at first (suc n) zero h = ap Some (omega arith)
count_at first (suc n) (suc k) h = count_at (suc first) n k (omega arith) ∙ ap Some (omega arith)

pub each_function : (a : Arena) (f : ℕ) (d : Declared) (b : Body) → slice_get a.functions f ≡ Some d → slice_get a.bodies f ≡ Some b
    → slice_get (design_of a).functions f ≡ Some (record { header = header_of d.function; statement = statement_at (arena_statements a) b.statement })
each_function a f d b at is =
    slice_get-map (callee_by a (arena_statements a)) (count_from 0 (length a.bodies)) f
    ∙ ap (option_map (callee_by a (arena_statements a))) (count_at 0 (length a.bodies) f (slice_short a.bodies f b is) ∙ ap Some (omega arith))
    ∙ ap (λ h. Some (with_statement_of h (statement_in (arena_statements a) (body_at a f)))) (ap header_in at)
    ∙ ap (λ o. Some (with_statement_of (header_of d.function) (statement_in (arena_statements a) o))) is

-- ---- local signals, and calls

pub each_local : (a : Arena) (f n : ℕ) (d : Declared) (s : Signal) → slice_get a.functions f ≡ Some d → slice_get d.function.signals n ≡ Some s → local_of a f n ≡ signal_of n s
each_local a f n d s at there =
    ap (λ o. signal_at (signals_from 0 (locals_in o)) n) at
    ∙ signal_from_at 0 d.function.signals n s there ∙ ap (λ m. signal_of m s) (omega arith)

-- a list as what is before a place, what is there, and what is after it
split_list : (xs : List E.Signal) (k : ℕ) (d : E.Signal) → k < length xs → take k xs ++ (get_or xs k d ∷ drop (suc k) xs) ≡ xs
split_list [] k d h = absurd (omega arith)
split_list (x ∷ xs) zero d h = refl
split_list (x ∷ xs) (suc k) d h = ap (λ ys. x ∷ ys) (split_list xs k d (omega arith))

pub header_locals : (f : Function) → f.inputs < length f.signals → local_signals (header_of f) ≡ signals_from 0 f.signals
header_locals f h = split_list (signals_from 0 f.signals) f.inputs no_signal (let l = length-signals_from 0 f.signals in omega (arith, l, h))

pub node_calls : (a : Arena) → NamesEarlier a → (e : ℕ) (n : Placed Node) → slice_get a.nodes e ≡ Some n → covers_calls a n.item ≡ true
node_calls a e i n at = go n.item (node_calls_at a e i n at)
  where
    go : (x : Node) → calls_below a.functions a.bodies i x ≡ true → covers_calls a x ≡ true
    go (Call k arguments) h = lt-ltb k (length a.bodies) (called_there a.bodies i k h)
    go (Local k m) h = h
    go (N.Literal bits signed sized) h = refl
    go (N.Name m) h = refl
    go (N.Bit of range index) h = refl
    go (N.Part of range base up width) h = refl
    go (N.Word m index) h = refl
    go (N.WordPart m address range base up width) h = refl
    go (N.Unary op x) h = refl
    go (N.Binary op x y) h = refl
    go (N.Choice c p q) h = refl
    go (N.Join parts) h = refl
