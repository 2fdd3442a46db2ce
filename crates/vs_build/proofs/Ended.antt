-- A function begins, and ends: what a builder stands for (IEEE 1364-2005, 10.4).
use Rattle.std.proofs.Common.{◌≡◌, ℕ, ◌+◌, ◌-◌, ◌<◌, ◌^◌, true, false, nat_lt, List, [], ◌∷◌, length, get_or, map, take, Option, Some, None, refl, sym, ap, ◌∙◌, subst, arith}
use Rattle.std.specs.Prelude.{is_some}
use Rattle.std.proofs.lemmas.Bool.{ltb-true}
use Rattle.vs_design.specs.Expressions.{Header}
use Rattle.vs_design.specs.Statements as T
use Rattle.vs_design.specs.Rules.{mixed_in}
use Rattle.vs_design.specs.Elaborated.{is_nil, is_formed_header}
use Rattle.vs_flat.specs.declared.functions.Function.{Function}
use Rattle.vs_flat.specs.declared.functions.Declared.{Declared}
use Rattle.vs_flat.specs.Arena.{Arena, with_function, with_body}
use Rattle.vs_flat.specs.Trees.{statement_at}
use Rattle.vs_flat.specs.DesignOf.{header_of, arena_statements, design_of}
use Rattle.vs_flat.specs.Lawful.{has_locals}
use Rattle.vs_flat.proofs.Agreeing.{and_both}
use Rattle.vs_build.specs.Drafts.{Body, Draft, in_function, and_function, EndsFunction, AddsStatement}
use Rattle.vs_build.specs.Growth.{open_function, open_header, header_if, Growing, IsGrowing, root_at, body_at, draft_of, draft}
use Rattle.vs_build.proofs.Begun.{open_there, past_there, no_function, begun_open, function_kept, function_draft, closed_now, body_closed, body_draft}
use Rattle.vs_build.proofs.BodyKinds.{statement_alone}
use Rattle.vs_build.proofs.BodySteps.{used_bodies_below, are_last, adds_in}
use Rattle.vs_build.proofs.NodeKinds.{nil_right}

map_nil : {A B : Type 0} (f : A → B) (xs : List A) → map f xs ≡ [] → xs ≡ []
map_nil f [] e = refl
map_nil f (x ∷ xs) e = cc

-- ---- it begins

-- no function is open, and nothing is left
pub record IsIdle (a : Arena) (rs bs : List ℕ) : Type 0 where
  pub growing : IsGrowing a rs bs
  pub outside : open_header a ≡ None
  pub roots : rs ≡ []
  pub bodies : bs ≡ []

pub idle : (a : Arena) (rs bs : List ℕ) (v : Growing) → IsGrowing a rs bs → (let w : Growing = record { arena = a; roots = rs; bodies = bs } in w) ≡ v → (draft v).function ≡ None → (draft v).expressions ≡ [] → (draft v).statements ≡ [] → IsIdle a rs bs
idle a rs bs v g view outside expressions statements = record {
  growing = g;
  outside = ap (λ (w : Growing). (draft w).function) view ∙ outside;
  roots = map_nil (root_at a) rs (ap (λ (w : Growing). (draft w).expressions) view ∙ expressions);
  bodies = map_nil (body_at a) bs (ap (λ (w : Growing). (draft w).statements) view ∙ statements);
}

pub all_closed : (a : Arena) (rs bs : List ℕ) → IsIdle a rs bs → length a.functions ≡ length a.bodies
all_closed a rs bs i = omega (arith, past_there a.functions (length a.bodies) (no_function a i.outside), i.growing.names.matched)

emptied : (a : Arena) (rs bs : List ℕ) → IsIdle a rs bs → IsGrowing a [] []
emptied a rs bs i = subst (λ xs. IsGrowing a xs []) i.roots (subst (λ xs. IsGrowing a rs xs) i.bodies i.growing)

pub begun_kept : (a b : Arena) (rs bs : List ℕ) (v : Growing) (f : Function) → IsIdle a rs bs → (let w : Growing = record { arena = a; roots = rs; bodies = bs } in w) ≡ v → has_locals f ≡ true → is_formed_header (draft v).design (header_of f) ≡ true
    → length a.functions < 2 ^ 32 - 1 → b ≡ with_function a f → IsGrowing b rs bs
begun_kept a b rs bs v f i view locals formed room e =
    let here : is_formed_header (design_of a) (header_of f) ≡ true = subst (λ (w : Growing). is_formed_header (draft w).design (header_of f) ≡ true) (sym view) formed in
    subst (λ c. IsGrowing c rs bs) (sym e)
    (subst (λ xs. IsGrowing (with_function a f) xs bs) (sym i.roots) (subst (λ xs. IsGrowing (with_function a f) [] xs) (sym i.bodies) (function_kept a f (emptied a rs bs i) i.outside locals here room)))

pub begun_now : (a b : Arena) (rs bs : List ℕ) (f : Function) → IsIdle a rs bs → b ≡ with_function a f → true ≡ is_some (open_function b)
begun_now a b rs bs f i e = sym (ap (λ (c : Arena). is_some (open_function c)) e ∙ ap is_some (begun_open a f (all_closed a rs bs i)))

pub begun_draft : (a b : Arena) (rs bs : List ℕ) (v : Growing) (f : Function) → IsIdle a rs bs → (let w : Growing = record { arena = a; roots = rs; bodies = bs } in w) ≡ v → b ≡ with_function a f → draft_of b rs bs ≡ in_function (draft v) (header_of f)
begun_draft a b rs bs v f i view e =
    ap (λ c. draft_of c rs bs) e ∙ ap (λ xs. draft_of (with_function a f) xs bs) i.roots ∙ ap (λ xs. draft_of (with_function a f) [] xs) i.bodies
    ∙ function_draft a f (emptied a rs bs i) i.outside
    ∙ ap (λ xs. in_function (draft_of a xs []) (header_of f)) (sym i.roots) ∙ ap (λ xs. in_function (draft_of a rs xs) (header_of f)) (sym i.bodies)
    ∙ ap (λ (w : Growing). in_function (draft w) (header_of f)) view

-- ---- it ends

-- the last function is open, and nothing is left but its statement
pub record IsEnding (a : Arena) (rs bs : List ℕ) (x : ℕ) : Type 0 where
  pub growing : IsGrowing a rs bs
  pub declared : Declared
  pub opens : open_function a ≡ Some declared
  pub roots : rs ≡ []
  pub bodies : bs ≡ x ∷ []
  pub blocking : is_nil (mixed_in false (statement_at (arena_statements a) x)) ≡ true

pub record IsOne (a : Arena) (bs : List ℕ) (b : Body) : Type 0 where
  pub number : ℕ
  pub is : bs ≡ number ∷ []
  pub same : body_at a number ≡ b

one : (a : Arena) (bs : List ℕ) (b : Body) → map (body_at a) bs ≡ b ∷ [] → IsOne a bs b
one a [] b e = cc
one a (y ∷ []) b e = record { number = y; is = refl; same = head e }
  where
    head : body_at a y ∷ [] ≡ b ∷ [] → body_at a y ≡ b
    head q = cc
one a (y ∷ z ∷ zs) b e = cc

opened : (o : Option Declared) (h : Header) → header_if o ≡ Some h → (d : Declared) × (o ≡ Some d)
opened None h e = cc
opened (Some d) h e = (d, refl)

pub ending : (a : Arena) (rs bs : List ℕ) (v : Growing) (len x : ℕ) → IsGrowing a rs bs → (let w : Growing = record { arena = a; roots = rs; bodies = bs } in w) ≡ v → EndsFunction (draft v) → len ≡ length bs → x ≡ get_or bs (len - 1) x → IsEnding a rs bs x
ending a rs bs v len x g view h e f =
    let k : EndsFunction (draft_of a rs bs) = subst (λ (w : Growing). EndsFunction (draft w)) (sym view) h in
    let d = opened (open_function a) k.header k.within in
    let y = one a bs k.body k.statements in
    let same : x ≡ y.number = f ∙ ap (λ n. get_or bs (n - 1) x) e ∙ ap (λ ys. get_or ys (length ys - 1) x) y.is in
    record {
      growing = g;
      declared = d.0;
      opens = d.1;
      roots = map_nil (root_at a) rs k.expressions;
      bodies = y.is ∙ ap (λ n. n ∷ []) (sym same);
      blocking = ap (λ n. is_nil (mixed_in false (statement_at (arena_statements a) n))) same ∙ ap (λ (b : Body). is_nil (mixed_in false b.statement)) y.same ∙ k.blocking;
    }

pub one_open : (a : Arena) (rs bs : List ℕ) (x : ℕ) → IsEnding a rs bs x → length a.functions ≡ length a.bodies + 1
one_open a rs bs x i = omega (arith, open_there a i.declared i.opens, i.growing.open_one)

pub ending_below : (a : Arena) (rs bs : List ℕ) (x : ℕ) → IsEnding a rs bs x → x < length a.statements
ending_below a rs bs x i = ltb-true x (length a.statements) (and_both (nat_lt x (length a.statements)) true (used_bodies_below a rs bs [] (x ∷ []) i.growing i.bodies)).0

alone : (a : Arena) (rs bs : List ℕ) (x : ℕ) → IsEnding a rs bs x → IsGrowing a [] (x ∷ [])
alone a rs bs x i = subst (λ xs. IsGrowing a xs (x ∷ [])) i.roots (subst (λ xs. IsGrowing a rs xs) i.bodies i.growing)

none_left : (bs after : List ℕ) (len x : ℕ) → bs ≡ x ∷ [] → len ≡ length bs → after ≡ take (len - 1) bs → after ≡ []
none_left bs after len x e l h = h ∙ ap (λ n. take (n - 1) bs) l ∙ ap (λ ys. take (length ys - 1) ys) e

pub ended_kept : (a b : Arena) (rs bs after : List ℕ) (len x : ℕ) → IsEnding a rs bs x → len ≡ length bs → b ≡ with_body a x → after ≡ take (len - 1) bs → IsGrowing b rs after
ended_kept a b rs bs after len x i l e h =
    subst (λ c. IsGrowing c rs after) (sym e)
    (subst (λ xs. IsGrowing (with_body a x) rs xs) (sym (none_left bs after len x i.bodies l h)) (subst (λ xs. IsGrowing (with_body a x) xs []) (sym i.roots) (body_closed a x i.declared (alone a rs bs x i) i.opens i.blocking)))

pub ended_now : (a b : Arena) (rs bs : List ℕ) (x : ℕ) → IsEnding a rs bs x → b ≡ with_body a x → false ≡ is_some (open_function b)
ended_now a b rs bs x i e = sym (ap (λ (c : Arena). is_some (open_function c)) e ∙ ap is_some (closed_now a x i.growing.open_one))

some_is : (h k : Header) → Some h ≡ Some k → h ≡ k
some_is h k e = cc

first_is : (t u : T.Statement) → t ∷ [] ≡ u ∷ [] → t ≡ u
first_is t u e = cc

pub ended_draft : (a b : Arena) (rs bs after : List ℕ) (v : Growing) (len x : ℕ) (s : Draft) (h : Header) (t : T.Statement) (m : ℕ) → IsEnding a rs bs x → len ≡ length bs → b ≡ with_body a x → after ≡ take (len - 1) bs
    → (let w : Growing = record { arena = a; roots = rs; bodies = bs } in w) ≡ v → s.function ≡ Some h → AddsStatement s (draft v) t m → draft_of b rs after ≡ and_function s h t
ended_draft a b rs bs after v len x s h t m i l e k view within adds =
    let last = are_last a rs bs rs [] [] (x ∷ []) s [] (t ∷ []) m (nil_right rs) i.bodies (adds_in a rs bs v s [] (t ∷ []) m view (statement_alone s (draft v) t m adds)) refl refl in
    let header : header_of i.declared.function ≡ h = some_is (header_of i.declared.function) h (sym (ap header_if i.opens) ∙ ap (λ (d : Draft). d.function) last.before ∙ within) in
    let statement : statement_at (arena_statements a) x ≡ t = first_is (statement_at (arena_statements a) x) t last.parts in
    ap (λ c. draft_of c rs after) e ∙ ap (λ xs. draft_of (with_body a x) rs xs) (none_left bs after len x i.bodies l k) ∙ ap (λ xs. draft_of (with_body a x) xs []) i.roots
    ∙ body_draft a x i.declared (alone a rs bs x i) i.opens
    ∙ ap (λ xs. and_function (draft_of a xs []) (header_of i.declared.function) (statement_at (arena_statements a) x)) (sym i.roots)
    ∙ ap (λ z. and_function z (header_of i.declared.function) (statement_at (arena_statements a) x)) last.before
    ∙ ap (λ z. and_function s z (statement_at (arena_statements a) x)) header ∙ ap (and_function s h) statement
