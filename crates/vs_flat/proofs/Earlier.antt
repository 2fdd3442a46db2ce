-- Names of what was added earlier.
use Rattle.std.proofs.Common.{◌≡◌, ℕ, zero, suc, ◌+◌, ◌<◌, ◌≤◌, Bool, true, ◌&&◌, List, [], ◌∷◌, ◌++◌, length, take, drop, refl, sym, ap, ◌∙◌, subst, arith, length-append}
use Rattle.std.specs.Prelude.{Option, None, Some, slice_get, nat_lt, nat_le}
use Rattle.std.specs.List.{list_all}
use Rattle.std.proofs.lemmas.Bool.{lt-ltb, ltb-true, leb-true, le-leb}
use Rattle.std.proofs.lemmas.List.Folds.{list_all-append}
use Rattle.vs_flat.specs.declared.placed.Placed.{Placed}
use Rattle.vs_flat.specs.declared.expressions.Node.{Node}
use Rattle.vs_flat.specs.declared.expressions.Node.TheVariants.{Literal, Name, Bit, Part, Word, WordPart, Unary, Binary, Choice, Join, Local, Call}
use Rattle.vs_flat.specs.declared.functions.Function.{Function}
use Rattle.vs_flat.specs.declared.functions.Declared.{Declared}
use Rattle.vs_flat.specs.declared.functions.Body.{Body}
use Rattle.vs_flat.specs.declared.processes.Process.{Process}
use Rattle.vs_flat.specs.declared.processes.Initial.{Initial}
use Rattle.vs_flat.specs.declared.processes.Kind.{Kind}
use Rattle.vs_flat.specs.declared.statements.Statement.{Statement}
use Rattle.vs_flat.specs.Named.{all_below, node_signals, node_expressions, statement_expressions, statement_statements, kind_signals, kind_expressions, kind_statements, node_names_below, statement_names_below, kind_names_below, locals_in, covers_calls, covers_node, covers_statement, covers_process, covers_initial}
use Rattle.vs_flat.specs.Arena.{Arena, placed, empty_arena, with_scope, with_signal, with_process, with_initial, with_node, with_statement, with_function, with_body}
use Rattle.vs_flat.specs.declared.processes.Scope.{Scope}
use Rattle.vs_flat.specs.declared.processes.Signal.{Signal}
use Rattle.vs_flat.specs.Lawful.{is_before, calls_below, calls_earlier, is_closed, are_rising, nodes_name_earlier, statements_name_earlier, NamesEarlier}
use Rattle.vs_flat.proofs.Agreeing.{and_both, and_true, first_below, rest_below, node_parts, statement_parts, kind_parts}
use Rattle.vs_flat.proofs.Building.{some_is}

-- an element of a list that all pass
pub all_at : {X : Type 0} (test : X → Bool) (xs : List X) (i : ℕ) (x : X) → list_all test xs ≡ true → slice_get xs i ≡ Some x → test x ≡ true
all_at test [] i x h at = cc
all_at test (y ∷ ys) zero x h at = subst (λ z. test z ≡ true) (some_is y x at) (and_both (test y) (list_all test ys) h).0
all_at test (y ∷ ys) (suc i) x h at = all_at test ys i x (and_both (test y) (list_all test ys) h).1 at

pub node_at_names : (signals first : ℕ) (nodes : List (Placed Node)) (i : ℕ) (n : Placed Node) → nodes_name_earlier signals first nodes ≡ true → slice_get nodes i ≡ Some n → node_names_below signals (first + i) n.item ≡ true
node_at_names signals first [] i n h at = cc
node_at_names signals first (m ∷ ms) zero n h at =
    let b = (and_both (node_names_below signals first m.item) (nodes_name_earlier signals (suc first) ms) h).0 in
    subst (λ (x : Placed Node). node_names_below signals (first + 0) x.item ≡ true) (some_is m n at) (subst (λ k. node_names_below signals k m.item ≡ true) (omega arith) b)
node_at_names signals first (m ∷ ms) (suc i) n h at =
    let b = (and_both (node_names_below signals first m.item) (nodes_name_earlier signals (suc first) ms) h).1 in
    subst (λ k. node_names_below signals k n.item ≡ true) (omega arith) (node_at_names signals (suc first) ms i n b at)

pub statement_at_names : (nodes first : ℕ) (statements : List (Placed Statement)) (i : ℕ) (s : Placed Statement) → statements_name_earlier nodes first statements ≡ true → slice_get statements i ≡ Some s → statement_names_below nodes (first + i) s.item ≡ true
statement_at_names nodes first [] i n h at = cc
statement_at_names nodes first (m ∷ ms) zero n h at =
    let b = (and_both (statement_names_below nodes first m.item) (statements_name_earlier nodes (suc first) ms) h).0 in
    subst (λ (x : Placed Statement). statement_names_below nodes (first + 0) x.item ≡ true) (some_is m n at) (subst (λ k. statement_names_below nodes k m.item ≡ true) (omega arith) b)
statement_at_names nodes first (m ∷ ms) (suc i) n h at =
    let b = (and_both (statement_names_below nodes first m.item) (statements_name_earlier nodes (suc first) ms) h).1 in
    subst (λ k. statement_names_below nodes k n.item ≡ true) (omega arith) (statement_at_names nodes (suc first) ms i n b at)

-- what is below a number is below a greater one
pub below_more : (n m : ℕ) (ks : List ℕ) → n ≤ m → all_below n ks ≡ true → all_below m ks ≡ true
below_more n m [] le h = refl
below_more n m (k ∷ ks) le h =
    let k<n : k < n = first_below n k ks h in
    and_true (nat_lt k m) (all_below m ks) (lt-ltb k m (omega arith)) (below_more n m ks le (rest_below n k ks h))

pub node_below_more : (signals more nodes : ℕ) (n : Node) → signals ≤ more → node_names_below signals nodes n ≡ true → node_names_below more nodes n ≡ true
node_below_more signals more nodes n le h =
    let b = node_parts signals nodes n h in
    and_true (all_below more (node_signals n)) (all_below nodes (node_expressions n)) (below_more signals more (node_signals n) le b.0) b.1

pub statement_below_more : (nodes more statements : ℕ) (s : Statement) → nodes ≤ more → statement_names_below nodes statements s ≡ true → statement_names_below more statements s ≡ true
statement_below_more nodes more statements s le h =
    let b = statement_parts nodes statements s h in
    and_true (all_below more (statement_expressions s)) (all_below statements (statement_statements s)) (below_more nodes more (statement_expressions s) le b.0) b.1

pub kind_below_more : (signals nodes statements signals' nodes' statements' : ℕ) (k : Kind) → signals ≤ signals' → nodes ≤ nodes' → statements ≤ statements' → kind_names_below signals nodes statements k ≡ true → kind_names_below signals' nodes' statements' k ≡ true
kind_below_more signals nodes statements signals' nodes' statements' k s n t h =
    let b = kind_parts signals nodes statements k h in
    and_true (all_below signals' (kind_signals k) && all_below nodes' (kind_expressions k)) (all_below statements' (kind_statements k))
    (and_true (all_below signals' (kind_signals k)) (all_below nodes' (kind_expressions k)) (below_more signals signals' (kind_signals k) s b.0) (below_more nodes nodes' (kind_expressions k) n b.1))
    (below_more statements statements' (kind_statements k) t b.2)

pub nodes_more : (signals more first : ℕ) (nodes : List (Placed Node)) → signals ≤ more → nodes_name_earlier signals first nodes ≡ true → nodes_name_earlier more first nodes ≡ true
nodes_more signals more first [] le h = refl
nodes_more signals more first (n ∷ ns) le h =
    let b = and_both (node_names_below signals first n.item) (nodes_name_earlier signals (suc first) ns) h in
    and_true (node_names_below more first n.item) (nodes_name_earlier more (suc first) ns) (node_below_more signals more first n.item le b.0) (nodes_more signals more (suc first) ns le b.1)

pub statements_more : (nodes more first : ℕ) (statements : List (Placed Statement)) → nodes ≤ more → statements_name_earlier nodes first statements ≡ true → statements_name_earlier more first statements ≡ true
statements_more nodes more first [] le h = refl
statements_more nodes more first (s ∷ ss) le h =
    let b = and_both (statement_names_below nodes first s.item) (statements_name_earlier nodes (suc first) ss) h in
    and_true (statement_names_below more first s.item) (statements_name_earlier more (suc first) ss) (statement_below_more nodes more first s.item le b.0) (statements_more nodes more (suc first) ss le b.1)

pub processes_more : (signals nodes statements signals' nodes' statements' : ℕ) (ps : List Process) → signals ≤ signals' → nodes ≤ nodes' → statements ≤ statements'
    → list_all (λ (p : Process). kind_names_below signals nodes statements p.kind) ps ≡ true → list_all (λ (p : Process). kind_names_below signals' nodes' statements' p.kind) ps ≡ true
processes_more signals nodes statements signals' nodes' statements' [] s n t h = refl
processes_more signals nodes statements signals' nodes' statements' (p ∷ ps) s n t h =
    let b = and_both (kind_names_below signals nodes statements p.kind) (list_all (λ (q : Process). kind_names_below signals nodes statements q.kind) ps) h in
    and_true (kind_names_below signals' nodes' statements' p.kind) (list_all (λ (q : Process). kind_names_below signals' nodes' statements' q.kind) ps)
    (kind_below_more signals nodes statements signals' nodes' statements' p.kind s n t b.0) (processes_more signals nodes statements signals' nodes' statements' ps s n t b.1)

pub initials_more : (statements more : ℕ) (is : List Initial) → statements ≤ more → list_all (λ (i : Initial). nat_lt i.statement statements) is ≡ true → list_all (λ (i : Initial). nat_lt i.statement more) is ≡ true
initials_more statements more [] le h = refl
initials_more statements more (i ∷ is) le h =
    let b = and_both (nat_lt i.statement statements) (list_all (λ (j : Initial). nat_lt j.statement statements) is) h in
    let l = ltb-true i.statement statements b.0 in
    and_true (nat_lt i.statement more) (list_all (λ (j : Initial). nat_lt j.statement more) is) (lt-ltb i.statement more (omega (arith, l, le))) (initials_more statements more is le b.1)

-- one more at the end
pub nodes_with : (signals first : ℕ) (nodes : List (Placed Node)) (n : Placed Node) → nodes_name_earlier signals first nodes ≡ true → node_names_below signals (first + length nodes) n.item ≡ true → nodes_name_earlier signals first (nodes ++ n ∷ []) ≡ true
nodes_with signals first [] n h k = and_true (node_names_below signals first n.item) true (subst (λ m. node_names_below signals m n.item ≡ true) (omega arith) k) refl
nodes_with signals first (m ∷ ms) n h k =
    let b = and_both (node_names_below signals first m.item) (nodes_name_earlier signals (suc first) ms) h in
    and_true (node_names_below signals first m.item) (nodes_name_earlier signals (suc first) (ms ++ n ∷ [])) b.0
    (nodes_with signals (suc first) ms n b.1 (subst (λ j. node_names_below signals j n.item ≡ true) (omega arith) k))

pub statements_with : (nodes first : ℕ) (statements : List (Placed Statement)) (s : Placed Statement) → statements_name_earlier nodes first statements ≡ true → statement_names_below nodes (first + length statements) s.item ≡ true → statements_name_earlier nodes first (statements ++ s ∷ []) ≡ true
statements_with nodes first [] s h k = and_true (statement_names_below nodes first s.item) true (subst (λ m. statement_names_below nodes m s.item ≡ true) (omega arith) k) refl
statements_with nodes first (m ∷ ms) s h k =
    let b = and_both (statement_names_below nodes first m.item) (statements_name_earlier nodes (suc first) ms) h in
    and_true (statement_names_below nodes first m.item) (statements_name_earlier nodes (suc first) (ms ++ s ∷ [])) b.0
    (statements_with nodes (suc first) ms s b.1 (subst (λ j. statement_names_below nodes j s.item ≡ true) (omega arith) k))

pub processes_with : (signals nodes statements : ℕ) (ps : List Process) (p : Process) → list_all (λ (q : Process). kind_names_below signals nodes statements q.kind) ps ≡ true → kind_names_below signals nodes statements p.kind ≡ true
    → list_all (λ (q : Process). kind_names_below signals nodes statements q.kind) (ps ++ p ∷ []) ≡ true
processes_with signals nodes statements ps p h k =
    let test : Process → Bool = λ q. kind_names_below signals nodes statements q.kind in
    list_all-append test ps (p ∷ []) ∙ and_true (list_all test ps) (list_all test (p ∷ [])) h (and_true (test p) true k refl)

-- ---- functions

pub take_drop : {X : Type 0} (k : ℕ) (xs : List X) → xs ≡ take k xs ++ drop k xs
take_drop zero xs = refl
take_drop (suc k) [] = refl
take_drop (suc k) (x ∷ xs) = ap (λ ys. x ∷ ys) (take_drop k xs)

pub length_front : {X : Type 0} (k : ℕ) (xs : List X) → k ≤ length xs → length (take k xs) ≡ k
length_front zero xs h = refl
length_front (suc k) [] h = absurd (omega arith)
length_front (suc k) (x ∷ xs) h = ap suc (length_front k xs (omega arith))

take_left : {X : Type 0} (k : ℕ) (xs ys : List X) → k ≤ length xs → take k (xs ++ ys) ≡ take k xs
take_left zero xs ys h = refl
take_left (suc k) [] ys h = absurd (omega arith)
take_left (suc k) (x ∷ xs) ys h = ap (λ zs. x ∷ zs) (take_left k xs ys (omega arith))

take_whole : {X : Type 0} (xs : List X) → take (length xs) xs ≡ xs
take_whole [] = refl
take_whole (x ∷ xs) = ap (λ ys. x ∷ ys) (take_whole xs)

pub slice_left : {X : Type 0} (xs : List X) (y : X) (k : ℕ) (x : X) → slice_get xs k ≡ Some x → slice_get (xs ++ y ∷ []) k ≡ Some x
slice_left [] y k x h = cc
slice_left (z ∷ xs) y zero x h = h
slice_left (z ∷ xs) y (suc k) x h = slice_left xs y k x h

pub slice_take : {X : Type 0} (m : ℕ) (xs : List X) (k : ℕ) (x : X) → k < m → slice_get xs k ≡ Some x → slice_get (take m xs) k ≡ Some x
slice_take zero xs k x l h = absurd (omega (arith, l))
slice_take (suc m) [] k x l h = h
slice_take (suc m) (y ∷ xs) zero x l h = h
slice_take (suc m) (y ∷ xs) (suc k) x l h = slice_take m xs k x (omega (arith, l)) h

pub slice_there : {X : Type 0} (xs : List X) (k : ℕ) → k < length xs → (x : X) × (slice_get xs k ≡ Some x)
slice_there [] k h = absurd (omega arith)
slice_there (x ∷ xs) zero h = (x, refl)
slice_there (x ∷ xs) (suc k) h = slice_there xs k (omega arith)

pub slice_short : {X : Type 0} (xs : List X) (k : ℕ) (x : X) → slice_get xs k ≡ Some x → k < length xs
slice_short [] k x h = cc
slice_short (y ∷ xs) zero x h = omega arith
slice_short (y ∷ xs) (suc k) x h = let l = slice_short xs k x h in omega (arith, l)

-- what a closed statement has
pub record Closed (nodes : ℕ) (statements : List (Placed Statement)) (b : Body) : Type 0 where
  pub before : b.nodes ≤ nodes
  pub there : b.statement < b.statements
  pub within : b.statements ≤ length statements
  pub named : statements_name_earlier b.nodes 0 (take b.statements statements) ≡ true

le_of : (m n : ℕ) → nat_le m n ≡ true → m ≤ n
le_of m n h = leb-true m n h

of_le : (m n : ℕ) → m ≤ n → nat_le m n ≡ true
of_le m n h = le-leb m n h

pub closed_is : (nodes : ℕ) (statements : List (Placed Statement)) (b : Body) → is_closed nodes statements b ≡ true → Closed nodes statements b
closed_is nodes statements b h =
    let p = and_both (nat_le b.nodes nodes && nat_lt b.statement b.statements && nat_le b.statements (length statements)) (statements_name_earlier b.nodes 0 (take b.statements statements)) h in
    let q = and_both (nat_le b.nodes nodes && nat_lt b.statement b.statements) (nat_le b.statements (length statements)) p.0 in
    let r = and_both (nat_le b.nodes nodes) (nat_lt b.statement b.statements) q.0 in
    record { before = le_of b.nodes nodes r.0; there = ltb-true b.statement b.statements r.1; within = le_of b.statements (length statements) q.1; named = p.1 }

pub is_closed_of : (nodes : ℕ) (statements : List (Placed Statement)) (b : Body) → Closed nodes statements b → is_closed nodes statements b ≡ true
is_closed_of nodes statements b c =
    and_true _ _ (and_true _ _ (and_true _ _ (of_le b.nodes nodes c.before) (lt-ltb b.statement b.statements c.there)) (of_le b.statements (length statements) c.within)) c.named

all_map : {X : Type 0} (f g : X → Bool) (xs : List X) → ((x : X) → f x ≡ true → g x ≡ true) → list_all f xs ≡ true → list_all g xs ≡ true
all_map f g [] h k = refl
all_map f g (x ∷ xs) h k = let b = and_both (f x) (list_all f xs) k in and_true _ _ (h x b.0) (all_map f g xs h b.1)

closed_more_nodes : (nodes more : ℕ) (statements : List (Placed Statement)) (bs : List Body) → nodes ≤ more → list_all (is_closed nodes statements) bs ≡ true → list_all (is_closed more statements) bs ≡ true
closed_more_nodes nodes more statements bs le h =
    all_map (is_closed nodes statements) (is_closed more statements) bs
    (λ b k. let c = closed_is nodes statements b k in is_closed_of more statements b (record { before = (let l = c.before in omega (arith, l, le)); there = c.there; within = c.within; named = c.named })) h

closed_more_statements : (nodes : ℕ) (statements : List (Placed Statement)) (s : Placed Statement) (bs : List Body) → list_all (is_closed nodes statements) bs ≡ true → list_all (is_closed nodes (statements ++ s ∷ [])) bs ≡ true
closed_more_statements nodes statements s bs h =
    all_map (is_closed nodes statements) (is_closed nodes (statements ++ s ∷ [])) bs
    (λ b k.
    let c = closed_is nodes statements b k in
    let l = c.within in
    is_closed_of nodes (statements ++ s ∷ []) b (record {
      before = c.before;
      there = c.there;
      within = omega (arith, l, length-append statements (s ∷ []));
      named = subst (λ xs. statements_name_earlier b.nodes 0 xs ≡ true) (sym (take_left b.statements statements (s ∷ []) l)) c.named;
    })) h

-- calls
pub node_at_calls : (functions : List Declared) (bodies : List Body) (first : ℕ) (nodes : List (Placed Node)) (i : ℕ) (n : Placed Node) → calls_earlier functions bodies first nodes ≡ true → slice_get nodes i ≡ Some n → calls_below functions bodies (first + i) n.item ≡ true
node_at_calls functions bodies first [] i n h at = cc
node_at_calls functions bodies first (m ∷ ms) zero n h at =
    let b = (and_both (calls_below functions bodies first m.item) (calls_earlier functions bodies (suc first) ms) h).0 in
    subst (λ (x : Placed Node). calls_below functions bodies (first + 0) x.item ≡ true) (some_is m n at) (subst (λ k. calls_below functions bodies k m.item ≡ true) (omega arith) b)
node_at_calls functions bodies first (m ∷ ms) (suc i) n h at =
    let b = (and_both (calls_below functions bodies first m.item) (calls_earlier functions bodies (suc first) ms) h).1 in
    subst (λ k. calls_below functions bodies k n.item ≡ true) (omega arith) (node_at_calls functions bodies (suc first) ms i n b at)

before_more : (bodies : List Body) (b : Body) (i k : ℕ) (o : Option Body) → slice_get bodies k ≡ o → is_before i o ≡ true → is_before i (slice_get (bodies ++ b ∷ []) k) ≡ true
before_more bodies b i k None e h = cc
before_more bodies b i k (Some x) e h = subst (λ o. is_before i o ≡ true) (sym (slice_left bodies b k x e)) h

own_more : (functions : List Declared) (d : Declared) (k m : ℕ) (o : Option Declared) → slice_get functions k ≡ o → nat_lt m (length (locals_in o)) ≡ true → nat_lt m (length (locals_in (slice_get (functions ++ d ∷ []) k))) ≡ true
own_more functions d k m None e h = let l : m < 0 = ltb-true m 0 h in absurd (omega arith)
own_more functions d k m (Some x) e h = subst (λ o. nat_lt m (length (locals_in o)) ≡ true) (sym (slice_left functions d k x e)) h

calls_more_bodies : (functions : List Declared) (bodies : List Body) (b : Body) (i : ℕ) (n : Node) → calls_below functions bodies i n ≡ true → calls_below functions (bodies ++ b ∷ []) i n ≡ true
calls_more_bodies functions bodies b i (Call k arguments) h = before_more bodies b i k (slice_get bodies k) refl h
calls_more_bodies functions bodies b i (Local k m) h = h
calls_more_bodies functions bodies b i (Literal bits signed sized) h = refl
calls_more_bodies functions bodies b i (Name m) h = refl
calls_more_bodies functions bodies b i (Bit of range index) h = refl
calls_more_bodies functions bodies b i (Part of range base up width) h = refl
calls_more_bodies functions bodies b i (Word m index) h = refl
calls_more_bodies functions bodies b i (WordPart m address range base up width) h = refl
calls_more_bodies functions bodies b i (Unary op a) h = refl
calls_more_bodies functions bodies b i (Binary op a c) h = refl
calls_more_bodies functions bodies b i (Choice c p q) h = refl
calls_more_bodies functions bodies b i (Join parts) h = refl

calls_more_functions : (functions : List Declared) (d : Declared) (bodies : List Body) (i : ℕ) (n : Node) → calls_below functions bodies i n ≡ true → calls_below (functions ++ d ∷ []) bodies i n ≡ true
calls_more_functions functions d bodies i (Local k m) h = own_more functions d k m (slice_get functions k) refl h
calls_more_functions functions d bodies i (Call k arguments) h = h
calls_more_functions functions d bodies i (Literal bits signed sized) h = refl
calls_more_functions functions d bodies i (Name m) h = refl
calls_more_functions functions d bodies i (Bit of range index) h = refl
calls_more_functions functions d bodies i (Part of range base up width) h = refl
calls_more_functions functions d bodies i (Word m index) h = refl
calls_more_functions functions d bodies i (WordPart m address range base up width) h = refl
calls_more_functions functions d bodies i (Unary op a) h = refl
calls_more_functions functions d bodies i (Binary op a c) h = refl
calls_more_functions functions d bodies i (Choice c p q) h = refl
calls_more_functions functions d bodies i (Join parts) h = refl

all_more_bodies : (functions : List Declared) (bodies : List Body) (b : Body) (first : ℕ) (ns : List (Placed Node)) → calls_earlier functions bodies first ns ≡ true → calls_earlier functions (bodies ++ b ∷ []) first ns ≡ true
all_more_bodies functions bodies b first [] h = refl
all_more_bodies functions bodies b first (n ∷ ns) h =
    let p = and_both (calls_below functions bodies first n.item) (calls_earlier functions bodies (suc first) ns) h in
    and_true _ _ (calls_more_bodies functions bodies b first n.item p.0) (all_more_bodies functions bodies b (suc first) ns p.1)

all_more_functions : (functions : List Declared) (d : Declared) (bodies : List Body) (first : ℕ) (ns : List (Placed Node)) → calls_earlier functions bodies first ns ≡ true → calls_earlier (functions ++ d ∷ []) bodies first ns ≡ true
all_more_functions functions d bodies first [] h = refl
all_more_functions functions d bodies first (n ∷ ns) h =
    let p = and_both (calls_below functions bodies first n.item) (calls_earlier functions bodies (suc first) ns) h in
    and_true _ _ (calls_more_functions functions d bodies first n.item p.0) (all_more_functions functions d bodies (suc first) ns p.1)

calls_with : (functions : List Declared) (bodies : List Body) (first : ℕ) (ns : List (Placed Node)) (n : Placed Node) → calls_earlier functions bodies first ns ≡ true → calls_below functions bodies (first + length ns) n.item ≡ true → calls_earlier functions bodies first (ns ++ n ∷ []) ≡ true
calls_with functions bodies first [] n h k = and_true _ true (subst (λ m. calls_below functions bodies m n.item ≡ true) (omega arith) k) refl
calls_with functions bodies first (m ∷ ms) n h k =
    let p = and_both (calls_below functions bodies first m.item) (calls_earlier functions bodies (suc first) ms) h in
    and_true _ _ p.0 (calls_with functions bodies (suc first) ms n p.1 (subst (λ j. calls_below functions bodies j n.item ≡ true) (omega arith) k))

-- a function that has its statement had it before this expression
covered_calls : (a : Arena) (n : Node) → NamesEarlier a → covers_calls a n ≡ true → calls_below a.functions a.bodies (length a.nodes) n ≡ true
covered_calls a (Call k arguments) e h =
    let s = slice_there a.bodies k (ltb-true k (length a.bodies) h) in
    let c = closed_is (length a.nodes) a.statements s.0 (all_at (is_closed (length a.nodes) a.statements) a.bodies k s.0 e.bodies s.1) in
    subst (λ o. is_before (length a.nodes) o ≡ true) (sym s.1) (of_le s.0.nodes (length a.nodes) c.before)
covered_calls a (Local k m) e h = h
covered_calls a (Literal bits signed sized) e h = refl
covered_calls a (Name m) e h = refl
covered_calls a (Bit of range index) e h = refl
covered_calls a (Part of range base up width) e h = refl
covered_calls a (Word m index) e h = refl
covered_calls a (WordPart m address range base up width) e h = refl
covered_calls a (Unary op x) e h = refl
covered_calls a (Binary op x y) e h = refl
covered_calls a (Choice c p q) e h = refl
covered_calls a (Join parts) e h = refl

pub names_empty : NamesEarlier empty_arena
names_empty = record { nodes = refl; statements = refl; processes = refl; initials = refl; calls = refl; bodies = refl; matched = omega arith; rising = refl }

pub names_with_scope : (a : Arena) (s : Scope) → NamesEarlier a → NamesEarlier (with_scope a s)
names_with_scope a s e = record { nodes = e.nodes; statements = e.statements; processes = e.processes; initials = e.initials; calls = e.calls; bodies = e.bodies; matched = e.matched; rising = e.rising }

pub names_with_signal : (a : Arena) (s : Signal) → NamesEarlier a → NamesEarlier (with_signal a s)
names_with_signal a s e =
    let le : length a.signals ≤ length (a.signals ++ s ∷ []) = omega (arith, length-append a.signals (s ∷ [])) in
    record {
      initials = e.initials;
      nodes = nodes_more (length a.signals) (length (a.signals ++ s ∷ [])) 0 a.nodes le e.nodes;
      statements = e.statements;
      processes = processes_more (length a.signals) (length a.nodes) (length a.statements) (length (a.signals ++ s ∷ [])) (length a.nodes) (length a.statements) a.processes le (omega arith) (omega arith) e.processes;
      calls = e.calls;
      bodies = e.bodies;
      matched = e.matched;
      rising = e.rising;
    }

pub names_with_process : (a : Arena) (p : Process) → NamesEarlier a → covers_process a p ≡ true → NamesEarlier (with_process a p)
names_with_process a p e h = record { nodes = e.nodes; statements = e.statements; processes = processes_with (length a.signals) (length a.nodes) (length a.statements) a.processes p e.processes h; initials = e.initials; calls = e.calls; bodies = e.bodies; matched = e.matched; rising = e.rising }

pub names_with_initial : (a : Arena) (i : Initial) → NamesEarlier a → covers_initial a i ≡ true → NamesEarlier (with_initial a i)
names_with_initial a i e h =
    let test : Initial → Bool = λ j. nat_lt j.statement (length a.statements) in
    record {
      nodes = e.nodes;
      statements = e.statements;
      processes = e.processes;
      initials = list_all-append test a.initials (i ∷ []) ∙ and_true (list_all test a.initials) (list_all test (i ∷ [])) e.initials (and_true (test i) true h refl);
      calls = e.calls;
      bodies = e.bodies;
      matched = e.matched;
      rising = e.rising;
    }

pub names_with_node : (a : Arena) (n : Node) (at : ℕ) → NamesEarlier a → covers_node a n ≡ true → NamesEarlier (with_node a n at)
names_with_node a n at e h =
    let le : length a.nodes ≤ length (a.nodes ++ placed n at ∷ []) = omega (arith, length-append a.nodes (placed n at ∷ [])) in
    let c = and_both (node_names_below (length a.signals) (length a.nodes) n) (covers_calls a n) h in
    record {
      initials = e.initials;
      nodes = nodes_with (length a.signals) 0 a.nodes (placed n at) e.nodes (subst (λ k. node_names_below (length a.signals) k n ≡ true) (omega arith) c.0);
      calls = calls_with a.functions a.bodies 0 a.nodes (placed n at) e.calls (subst (λ k. calls_below a.functions a.bodies k n ≡ true) (omega arith) (covered_calls a n e c.1));
      bodies = closed_more_nodes (length a.nodes) (length (a.nodes ++ placed n at ∷ [])) a.statements a.bodies le e.bodies;
      matched = e.matched;
      rising = e.rising;
      statements = statements_more (length a.nodes) (length (a.nodes ++ placed n at ∷ [])) 0 a.statements le e.statements;
      processes = processes_more (length a.signals) (length a.nodes) (length a.statements) (length a.signals) (length (a.nodes ++ placed n at ∷ [])) (length a.statements) a.processes (omega arith) le (omega arith) e.processes;
    }

pub names_with_statement : (a : Arena) (s : Statement) (at : ℕ) → NamesEarlier a → covers_statement a s ≡ true → NamesEarlier (with_statement a s at)
names_with_statement a s at e h =
    let le : length a.statements ≤ length (a.statements ++ placed s at ∷ []) = omega (arith, length-append a.statements (placed s at ∷ [])) in
    record {
      initials = initials_more (length a.statements) (length (a.statements ++ placed s at ∷ [])) a.initials le e.initials;
      nodes = e.nodes;
      calls = e.calls;
      bodies = closed_more_statements (length a.nodes) a.statements (placed s at) a.bodies e.bodies;
      matched = e.matched;
      rising = e.rising;
      statements = statements_with (length a.nodes) 0 a.statements (placed s at) e.statements (subst (λ k. statement_names_below (length a.nodes) k s ≡ true) (omega arith) h);
      processes = processes_more (length a.signals) (length a.nodes) (length a.statements) (length a.signals) (length a.nodes) (length (a.statements ++ placed s at ∷ [])) a.processes (omega arith) (omega arith) le e.processes;
    }

pub names_with_function : (a : Arena) (f : Function) → NamesEarlier a → NamesEarlier (with_function a f)
names_with_function a f e =
    let d : Declared = record { function = f; nodes = length a.nodes; statements = length a.statements } in
    record {
      initials = e.initials;
      nodes = e.nodes;
      statements = e.statements;
      processes = e.processes;
      calls = all_more_functions a.functions d a.bodies 0 a.nodes e.calls;
      bodies = e.bodies;
      matched = (let l = e.matched in omega (arith, l, length-append a.functions (d ∷ [])));
      rising = e.rising;
    }

is_at_most : (n m : ℕ) → n ≤ m → nat_le n m ≡ true
is_at_most n m h = grind arith

-- each got its statement behind at most as many expressions as there are
abbrev ends_within : ℕ → List Body → Bool
ends_within nodes bs = list_all (λ (b : Body). nat_le b.nodes nodes) bs

each_before : (nodes : ℕ) (statements : List (Placed Statement)) (bs : List Body) → list_all (is_closed nodes statements) bs ≡ true → ends_within nodes bs ≡ true
each_before nodes statements [] h = refl
each_before nodes statements (b ∷ bs) h =
    let p = and_both (is_closed nodes statements b) (list_all (is_closed nodes statements) bs) h in
    let c = closed_is nodes statements b p.0 in
    and_true (nat_le b.nodes nodes) (ends_within nodes bs) (is_at_most b.nodes nodes c.before) (each_before nodes statements bs p.1)

rising_with : (nodes first : ℕ) (bs : List Body) (b : Body) → first ≤ nodes → b.nodes ≡ nodes → are_rising first bs ≡ true → ends_within nodes bs ≡ true → are_rising first (bs ++ b ∷ []) ≡ true
rising_with nodes first [] b f e h k = and_true (nat_le first b.nodes) true (is_at_most first b.nodes (omega (arith, f, e))) refl
rising_with nodes first (x ∷ xs) b f e h k =
    let p = and_both (nat_le first x.nodes) (are_rising x.nodes xs) h in
    let q = and_both (nat_le x.nodes nodes) (ends_within nodes xs) k in
    and_true (nat_le first x.nodes) (are_rising x.nodes (xs ++ b ∷ [])) p.0 (rising_with nodes x.nodes xs b (leb-true x.nodes nodes q.0) e p.1 q.1)

-- a later one behind as many or more
pub rising_at : (first : ℕ) (bs : List Body) (i j : ℕ) (b c : Body) → are_rising first bs ≡ true → slice_get bs i ≡ Some b → slice_get bs j ≡ Some c → i ≤ j → b.nodes ≤ c.nodes
rising_at first [] i j b c h f g l = cc
rising_at first (x ∷ xs) zero zero b c h f g l = let s = some_is x b f in let t = some_is x c g in subst (λ (z : Body). b.nodes ≤ z.nodes) t (subst (λ (z : Body). z.nodes ≤ x.nodes) s (omega arith))
rising_at first (x ∷ xs) zero (suc j) b c h f g l =
    let p = and_both (nat_le first x.nodes) (are_rising x.nodes xs) h in
    subst (λ (z : Body). z.nodes ≤ c.nodes) (some_is x b f) (above x.nodes xs j c p.1 g)
  where
    above : (first : ℕ) (bs : List Body) (j : ℕ) (c : Body) → are_rising first bs ≡ true → slice_get bs j ≡ Some c → first ≤ c.nodes
    above first [] j c h g = cc
    above first (y ∷ ys) zero c h g = subst (λ (z : Body). first ≤ z.nodes) (some_is y c g) (leb-true first y.nodes (and_both (nat_le first y.nodes) (are_rising y.nodes ys) h).0)
    above first (y ∷ ys) (suc j) c h g =
        let p = and_both (nat_le first y.nodes) (are_rising y.nodes ys) h in
        let m = leb-true first y.nodes p.0 in
        let r = above y.nodes ys j c p.1 g in omega (arith, m, r)
rising_at first (x ∷ xs) (suc i) zero b c h f g l = omega (arith, l)
rising_at first (x ∷ xs) (suc i) (suc j) b c h f g l = rising_at x.nodes xs i j b c (and_both (nat_le first x.nodes) (are_rising x.nodes xs) h).1 f g (omega (arith, l))

pub names_with_body : (a : Arena) (s : ℕ) → NamesEarlier a → length a.bodies < length a.functions → s < length a.statements → NamesEarlier (with_body a s)
names_with_body a s e m h =
    let b : Body = record { statement = s; nodes = length a.nodes; statements = length a.statements } in
    record {
      initials = e.initials;
      nodes = e.nodes;
      statements = e.statements;
      processes = e.processes;
      calls = all_more_bodies a.functions a.bodies b 0 a.nodes e.calls;
      bodies =
          list_all-append (is_closed (length a.nodes) a.statements) a.bodies (b ∷ [])
          ∙ and_true _ _ e.bodies (and_true _ true (is_closed_of (length a.nodes) a.statements b (record {
            before = omega arith;
            there = h;
            within = omega arith;
            named = subst (λ xs. statements_name_earlier (length a.nodes) 0 xs ≡ true) (sym (take_whole a.statements)) e.statements;
          })) refl);
      matched = omega (arith, m, length-append a.bodies (b ∷ []));
      rising = rising_with (length a.nodes) 0 a.bodies b (omega arith) refl e.rising (each_before (length a.nodes) a.statements a.bodies e.bodies);
    }
