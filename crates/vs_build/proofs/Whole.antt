-- Scopes, signals and processes, and the end.
use Rattle.std.proofs.Common.{◌≡◌, ℕ, ◌+◌, ◌-◌, ◌<◌, ◌≤◌, ◌^◌, true, ◌&&◌, List, [], ◌∷◌, ◌++◌, length, get_or, take, Result, Ok, Err, OnOk, OnErr, IfOk, refl, sym, ap, ◌∙◌, subst, arith}
use Rattle.std.proofs.lemmas.List.{length-map}
use Rattle.vs_design.specs.Expressions as E
use Rattle.vs_design.specs.Designs as D
use Rattle.vs_flat.specs.declared.processes.Process.{Process}
use Rattle.vs_flat.specs.declared.processes.Port.{Port}
use Rattle.vs_flat.specs.declared.processes.Scope.{Scope}
use Rattle.vs_flat.specs.declared.processes.Signal.{Signal}
use Rattle.vs_flat.specs.declared.processes.Kind.TheVariants as K
use Rattle.vs_flat.specs.Arena.{Arena, with_process, with_scope, with_signal, bit_count}
use Rattle.vs_flat.specs.Named.{all_below, covers_process}
use Rattle.vs_flat.specs.Ports.{port_of}
use Rattle.vs_flat.specs.Targets.{place_of}
use Rattle.vs_flat.specs.Trees.{tree_at, signal_of, target_tree}
use Rattle.vs_flat.specs.DesignOf.{arena_trees, design_of, scope_of}
use Rattle.vs_flat.specs.Lawful.{is_target}
use Rattle.vs_flat.proofs.Agreeing.{and_true}
use Rattle.vs_flat.proofs.Counts.{signal_bits}
use Rattle.vs_flat.proofs.Growing.{length-signals}
use Rattle.vs_build.specs.Drafts.{Root, Draft, and_process, and_scope, and_signal, EndsInAssign, AddsExpression}
use Rattle.vs_build.specs.Growth.{Growing, IsGrowing, root_at, draft_of, draft}
use Rattle.vs_build.proofs.Additions.{process_kept, process_draft, scope_kept, scope_draft, signal_kept, signal_draft}
use Rattle.vs_build.proofs.Steps.{last_two, parts_are, used_below}
use Rattle.vs_build.proofs.NodeKinds.{nil_right, two_are}

head_is : (x y : Root) (xs ys : List Root) → x ∷ xs ≡ y ∷ ys → x ≡ y
head_is x y xs ys e = cc

assign_count : (a : Arena) (rs bs : List ℕ) (port : Port) → EndsInAssign port (draft_of a rs bs) → 2 ≤ length rs
assign_count a rs bs port e = omega (arith, ap (λ (s : Draft). length s.expressions) e.is, length-map rs (root_at a), length_two e.before.expressions e.target e.value)
  where
    length_two : (xs : List Root) (x y : Root) → length (xs ++ x ∷ y ∷ []) ≡ length xs + 2
    length_two [] x y = refl
    length_two (z ∷ zs) x y = omega (arith, length_two zs x y)

-- an assign from the last number to the one before it
pub record IsAssigned (a : Arena) (rs bs rest : List ℕ) (port : Port) (x y : ℕ) : Type 0 where
  pub growing : IsGrowing a rs bs
  pub is : rs ≡ rest ++ x ∷ y ∷ []
  pub covers : (at : ℕ) → covers_process a (record { at = at; kind = K.Assign x y port }) ≡ true
  pub written : is_target port (tree_at (arena_trees a) x) ≡ true

pub assign_enough : (a : Arena) (rs bs : List ℕ) (v : Growing) (port : Port) → (let w : Growing = record { arena = a; roots = rs; bodies = bs } in w) ≡ v → EndsInAssign port (draft v) → 2 ≤ length rs
assign_enough a rs bs v port view h = assign_count a rs bs port (subst (λ (w : Growing). EndsInAssign port (draft w)) (sym view) h)

pub assigned : (a : Arena) (rs bs : List ℕ) (v : Growing) (port : Port) (len x y : ℕ) → IsGrowing a rs bs → (let w : Growing = record { arena = a; roots = rs; bodies = bs } in w) ≡ v → EndsInAssign port (draft v)
    → len ≡ length rs → x ≡ get_or rs (len - 2) x → y ≡ get_or rs (len - 1) y → IsAssigned a rs bs (take (len - 2) rs) port x y
assigned a rs bs v port len x y g view h e f k =
    let ends : EndsInAssign port (draft_of a rs bs) = subst (λ (w : Growing). EndsInAssign port (draft w)) (sym view) h in
    let is : rs ≡ take (length rs - 2) rs ++ x ∷ y ∷ [] = last_two rs x y (assign_count a rs bs port ends) (f ∙ ap (λ n. get_or rs (n - 2) x) e) (k ∙ ap (λ n. get_or rs (n - 1) y) e) in
    let below = used_below a rs (take (length rs - 2) rs) (x ∷ y ∷ []) bs g is in
    let q = parts_are a (take (length rs - 2) rs) (x ∷ y ∷ []) bs ends.before (ends.target ∷ ends.value ∷ []) (ap (λ xs. draft_of a xs bs) (sym is) ∙ ends.is) refl in
    let target : root_at a x ≡ ends.target = head_is (root_at a x) ends.target (root_at a y ∷ []) (ends.value ∷ []) q.0 in
    record {
      growing = g;
      is = is ∙ ap (λ n. take (n - 2) rs ++ x ∷ y ∷ []) (sym e);
      covers = λ at. and_true (true && all_below (length a.nodes) (x ∷ y ∷ [])) true below refl;
      written = ap (λ (z : Root). is_target port z.tree) target ∙ ends.written;
    }

regrouped : (a : Arena) (rs bs rest used : List ℕ) → IsGrowing a rs bs → rs ≡ rest ++ used → IsGrowing a (rest ++ used) (bs ++ [])
regrouped a rs bs rest used g e = subst (λ xs. IsGrowing a xs (bs ++ [])) e (subst (λ xs. IsGrowing a rs xs) (nil_right bs) g)

pub assign_kept : (a b : Arena) (rs after bs rest : List ℕ) (port : Port) (x y at : ℕ) → IsAssigned a rs bs rest port x y → b ≡ with_process a (record { at = at; kind = K.Assign x y port }) → after ≡ rest → IsGrowing b after bs
assign_kept a b rs after bs rest port x y at s e f =
    subst (λ c. IsGrowing c after bs) (sym e)
    (subst (λ xs. IsGrowing (with_process a (record { at = at; kind = K.Assign x y port })) xs bs) (sym f)
    (process_kept a rest bs (record { at = at; kind = K.Assign x y port }) (regrouped a rs bs rest (x ∷ y ∷ []) s.growing s.is) (s.covers at) s.written))

pub assign_draft : (a b : Arena) (rs after bs rest : List ℕ) (v : Growing) (port : Port) (x y at : ℕ) (s r : Draft) (t u : E.Expression) (m n : ℕ) → IsAssigned a rs bs rest port x y → b ≡ with_process a (record { at = at; kind = K.Assign x y port }) → after ≡ rest
    → (let w : Growing = record { arena = a; roots = rs; bodies = bs } in w) ≡ v → AddsExpression s r t m → AddsExpression r (draft v) u n
    → draft_of b after bs ≡ and_process s (D.Continuous at (port_of port) (place_of t) (target_tree t) u)
assign_draft a b rs after bs rest v port x y at s r t u m n i e f view h k =
    let w = two_are a rs rest bs x y s r t u m n i.is h (subst (λ (z : Growing). AddsExpression r (draft z) u n) (sym view) k) in
    let p : Process = record { at = at; kind = K.Assign x y port } in
    ap (λ c. draft_of c after bs) e ∙ ap (λ xs. draft_of (with_process a p) xs bs) f ∙ process_draft a rest bs p
    ∙ ap (λ d. and_process d (D.Continuous at (port_of port) (place_of (tree_at (arena_trees a) x)) (target_tree (tree_at (arena_trees a) x)) (tree_at (arena_trees a) y))) w.before
    ∙ ap (λ z. and_process s (D.Continuous at (port_of port) (place_of z) (target_tree z) (tree_at (arena_trees a) y))) w.first
    ∙ ap (λ z. and_process s (D.Continuous at (port_of port) (place_of t) (target_tree t) z)) w.second

-- ---- scopes and signals

pub on_ok : {U F : Type 0} {P Q : Type 0} (r : Result U F) → (P → Q) → OnOk r P → OnOk r Q
on_ok (Ok u) f p = f p
on_ok (Err e) f p = tt

pub scope_either : {U F : Type 0} (r : Result U F) (a b : Arena) (rs bs : List ℕ) (s : Scope) → IsGrowing a rs bs → OnOk r (b ≡ with_scope a s) → OnOk r (length a.scopes < 2 ^ 32 - 1) → OnErr r (b ≡ a) → IsGrowing b rs bs
scope_either (Ok u) a b rs bs s g e room f = subst (λ c. IsGrowing c rs bs) (sym e) (scope_kept a rs bs s g room)
scope_either (Err u) a b rs bs s g e room f = subst (λ c. IsGrowing c rs bs) (sym f) g

pub scope_adds : {U F : Type 0} (r : Result U F) (a b : Arena) (rs bs : List ℕ) (v : Growing) (s : Scope) → (let w : Growing = record { arena = a; roots = rs; bodies = bs } in w) ≡ v → OnOk r (b ≡ with_scope a s) → OnOk r (draft_of b rs bs ≡ and_scope (draft v) (scope_of s))
scope_adds r a b rs bs v s view h = on_ok r (λ e. ap (λ c. draft_of c rs bs) e ∙ scope_draft a rs bs s ∙ ap (λ (w : Growing). and_scope (draft w) (scope_of s)) view) h

pub signal_either : {U F : Type 0} (r : Result U F) (a b : Arena) (rs bs : List ℕ) (s : Signal) → IsGrowing a rs bs → OnOk r (b ≡ with_signal a s) → OnErr r (b ≡ a) → IsGrowing b rs bs
signal_either (Ok u) a b rs bs s g e f = subst (λ c. IsGrowing c rs bs) (sym e) (signal_kept a rs bs s g)
signal_either (Err u) a b rs bs s g e f = subst (λ c. IsGrowing c rs bs) (sym f) g

signal_count : (a : Arena) (rs bs : List ℕ) (v : Growing) → (let w : Growing = record { arena = a; roots = rs; bodies = bs } in w) ≡ v → length a.signals ≡ length (draft v).design.signals
signal_count a rs bs v view = sym (length-signals a) ∙ ap (λ (w : Growing). length (draft w).design.signals) view

pub signal_adds : {U F : Type 0} (r : Result U F) (a b : Arena) (rs bs : List ℕ) (v : Growing) (s : Signal) → IsGrowing a rs bs → (let w : Growing = record { arena = a; roots = rs; bodies = bs } in w) ≡ v → OnOk r (b ≡ with_signal a s)
    → OnOk r (draft_of b rs bs ≡ and_signal (draft v) (signal_of (length (draft v).design.signals) s))
signal_adds r a b rs bs v s g view h =
    on_ok r
    (λ e.
    ap (λ c. draft_of c rs bs) e ∙ signal_draft a rs bs s g ∙ ap (λ n. and_signal (draft_of a rs bs) (signal_of n s)) (signal_count a rs bs v view)
    ∙ ap (λ (w : Growing). and_signal (draft w) (signal_of (length (draft v).design.signals) s)) view) h

pub signal_number : {F : Type 0} (r : Result ℕ F) (a : Arena) (rs bs : List ℕ) (v : Growing) → (let w : Growing = record { arena = a; roots = rs; bodies = bs } in w) ≡ v → IfOk r (λ n. n ≡ length a.signals) → IfOk r (λ n. n ≡ length (draft v).design.signals)
signal_number (Ok n) a rs bs v view h = h ∙ signal_count a rs bs v view
signal_number (Err e) a rs bs v view h = tt

pub signal_room : (a : Arena) (rs bs : List ℕ) (v : Growing) (n : ℕ) → (let w : Growing = record { arena = a; roots = rs; bodies = bs } in w) ≡ v → D.bit_count (draft v).design + n ≤ 2 ^ 20 → bit_count a.signals + n ≤ 2 ^ 20
signal_room a rs bs v n view h = let few : D.bit_count (design_of a) + n ≤ 2 ^ 20 = subst (λ (w : Growing). D.bit_count (draft w).design + n ≤ 2 ^ 20) (sym view) h in omega (arith, few, signal_bits 0 a.signals)
