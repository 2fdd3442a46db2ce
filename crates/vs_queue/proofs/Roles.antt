-- The roles of the processes and inputs of a flat design, one after the other.
use Rattle.std.proofs.Common.{◌≡◌, ℕ, zero, suc, ◌+◌, ◌≤◌, List, [], ◌∷◌, ◌++◌, map, take, replicate, length, refl, sym, ap, ap₂, ◌∙◌, arith, Some, append_assoc, append-nil}
use Rattle.std.specs.Prelude.{slice_get}
use Rattle.std.proofs.lemmas.List.{length-map, take_all}
use Rattle.vs_design.specs.Expressions as E
use Rattle.vs_design.specs.Statements as T
use Rattle.vs_design.specs.Designs as D
use Rattle.vs_flat.specs.declared.processes.Process.{Process}
use Rattle.vs_flat.specs.declared.processes.Kind.{Kind}
use Rattle.vs_flat.specs.declared.processes.Kind.TheVariants as K
use Rattle.vs_flat.specs.Arena.{Arena, top_inputs}
use Rattle.vs_flat.specs.Trees.{signal_at, tree_at, statement_at}
use Rattle.vs_flat.specs.DesignOf.{kind_of, arena_signals, arena_trees, arena_statements, design_of}
use Rattle.vs_flat.specs.Laws.{EachProcess, InputsStay}
use Rattle.vs_events.specs.declared.beginning.Role.{Role}
use Rattle.vs_events.specs.declared.beginning.Role.TheVariants as R
use Rattle.vs_queue.specs.Beginnings.{role_of_kind, role_of_process, roles_of}

take_next : {A : Type 0} (xs : List A) (k : ℕ) (x : A) → slice_get xs k ≡ Some x → take (suc k) xs ≡ take k xs ++ x ∷ []
take_next [] k x at = absurd (let z : ⊥ = cc in z)
take_next (y ∷ ys) zero x at = let same : y ≡ x = cc in ap (λ z. z ∷ []) same
take_next (y ∷ ys) (suc k) x at = ap (λ zs. y ∷ zs) (take_next ys k x at)

take_more : {A : Type 0} (xs : List A) (k : ℕ) (x : A) → slice_get xs k ≡ Some x → take (k + 1) xs ≡ take k xs ++ x ∷ []
take_more xs k x at = ap (λ m. take m xs) (let e : k + 1 ≡ suc k = omega arith in e) ∙ take_next xs k x at

map_more : {A B : Type 0} (f : A → B) (xs : List A) (x : A) → map f (xs ++ x ∷ []) ≡ map f xs ++ f x ∷ []
map_more f [] x = refl
map_more f (y ∷ ys) x = ap (λ zs. f y ∷ zs) (map_more f ys x)

replicate_next : (r : Role) (k : ℕ) → replicate (suc k) r ≡ replicate k r ++ r ∷ []
replicate_next r zero = refl
replicate_next r (suc k) = ap (λ rs. r ∷ rs) (replicate_next r k)

kind_role : (signal : ℕ → E.Signal) (tree : ℕ → E.Expression) (statement : ℕ → T.Statement) (place : ℕ) (k : Kind) → role_of_kind k ≡ role_of_process (kind_of signal tree statement place k)
kind_role signal tree statement place (K.Assign target e port) = refl
kind_role signal tree statement place (K.Block star events s) = refl

pub roles_more : EachProcess → (a : Arena) (k : ℕ) (q : Process) → slice_get a.processes k ≡ Some q → (roles : List Role) → roles ≡ map role_of_process (take k (design_of a).processes) → (r : Role) → r ≡ role_of_kind q.kind → roles ++ r ∷ [] ≡ map role_of_process (take (k + 1) (design_of a).processes)
roles_more trees a k q at roles so_far r is =
    let x = kind_of (signal_at (arena_signals a)) (tree_at (arena_trees a)) (statement_at (arena_statements a)) q.at q.kind in
    ap₂ (λ rs y. rs ++ y ∷ []) so_far (is ∙ kind_role (signal_at (arena_signals a)) (tree_at (arena_trees a)) (statement_at (arena_statements a)) q.at q.kind)
    ∙ sym (ap (map role_of_process) (take_more (design_of a).processes k x (trees a k q at)) ∙ map_more role_of_process (take k (design_of a).processes) x)

pub roles_whole : (ps : List D.Process) (k : ℕ) (roles : List Role) → length ps ≤ k → roles ≡ map role_of_process (take k ps) → roles ≡ map role_of_process ps ++ replicate 0 R.Input
roles_whole ps k roles l is = is ∙ ap (map role_of_process) (take_all k ps l) ∙ sym (append-nil (map role_of_process ps))

pub inputs_more : (before : List Role) (i : ℕ) (roles : List Role) → roles ≡ before ++ replicate i R.Input → roles ++ R.Input ∷ [] ≡ before ++ replicate (i + 1) R.Input
inputs_more before i roles is =
    ap (λ rs. rs ++ R.Input ∷ []) is ∙ append_assoc before (replicate i R.Input) (R.Input ∷ []) ∙ ap (λ rs. before ++ rs) (sym (replicate_next R.Input i)) ∙ ap (λ m. before ++ replicate m R.Input) (let e : suc i ≡ i + 1 = omega arith in e)

pub roles_all : InputsStay → (a : Arena) (i : ℕ) (roles : List Role) → i ≡ length (top_inputs a) → roles ≡ map role_of_process (design_of a).processes ++ replicate i R.Input → roles ≡ roles_of (design_of a)
roles_all inputs a i roles l is =
    is ∙ ap (λ m. map role_of_process (design_of a).processes ++ replicate m R.Input) (l ∙ sym (length-map (top_inputs a) (signal_at (arena_signals a))) ∙ ap length (inputs a))
