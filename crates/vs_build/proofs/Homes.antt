-- Where expressions and statements stand: in the design, or in a function (IEEE 1364-2005, 10.4).
use Rattle.std.proofs.Common.{◌≡◌, ℕ, suc, ◌+◌, ◌≤◌, Bool, true, false, ◌&&◌, nat_lt, List, [], ◌∷◌, ◌++◌, length, Option, Some, None, if◌then◌else◌, refl, ap, ◌∙◌, arith, nat_le, slice_get}
use Rattle.std.specs.List.{list_all}
use Rattle.std.proofs.lemmas.Bool.{le-leb, leb-true, ltb-true}
use Rattle.vs_design.specs.Expressions.{Header}
use Rattle.vs_design.specs.Designs.{Design}
use Rattle.vs_design.specs.Elaborated.{inside}
use Rattle.vs_grammar.specs.Shapes.{Each}
use Rattle.vs_flat.specs.declared.functions.Declared.{Declared}
use Rattle.vs_flat.specs.declared.functions.Body.{Body}
use Rattle.vs_flat.specs.Arena.{Arena}
use Rattle.vs_flat.specs.DesignOf.{header_of}
use Rattle.vs_flat.specs.Lawful.{NamesEarlier, is_closed, is_within, node_home, statement_home}
use Rattle.vs_flat.proofs.Agreeing.{and_both}
use Rattle.vs_build.specs.Drafts.{home_in}
use Rattle.vs_build.specs.Growth.{open_function, open_header, header_behind, header_at, header_if, first_node, first_statement, expression_header, statement_header}
use Rattle.vs_build.proofs.Wider.{IsWider}

-- ---- a home over a wider design

pub home_wider : (c d : Design) (o : Option Header) → IsWider c d → IsWider (home_in c o) (home_in d o)
home_wider c d None w = w
home_wider c d (Some h) w = record { scopes = w.scopes; signals = λ s k. k }

-- what a function's names mean is the same whatever functions the design has
pub home_inside : (d : Design) (h : Header) → IsWider (home_in d (Some h)) (inside d h)
home_inside d h = record { scopes = omega arith; signals = λ s k. k }

pub inside_home : (d : Design) (h : Header) → IsWider (inside d h) (home_in d (Some h))
inside_home d h = record { scopes = omega arith; signals = λ s k. k }

-- ---- the next one

-- no function that has its statement has this one
past : (n m : ℕ) (first : ℕ) → m ≤ n → is_within first m n ≡ false
past n m first h = by (nat_le first n) (not_below n m h)
  where
    not_below : (n m : ℕ) → m ≤ n → nat_lt n m ≡ false
    not_below n m h = by_cases (nat_lt n m) refl
      where
        by_cases : (b : Bool) → nat_lt n m ≡ b → nat_lt n m ≡ false
        by_cases true e = absurd (omega (arith, ltb-true n m e, h))
        by_cases false e = e

    by : (b : Bool) → nat_lt n m ≡ false → (b && nat_lt n m) ≡ false
    by true e = e
    by false e = refl

-- each function that has its statement had it before so many expressions and statements
abbrev pub AllBefore : (last : Body → ℕ) → ℕ → List Body → Type 0
AllBefore last n bs = Each (λ (b : Body). last b ≤ n) bs

nodes_before : (a : Arena) (bs : List Body) → list_all (is_closed (length a.nodes) a.statements) bs ≡ true → AllBefore (λ b. b.nodes) (length a.nodes) bs
nodes_before a [] h = tt
nodes_before a (b ∷ bs) h =
    let k = and_both (is_closed (length a.nodes) a.statements b) (list_all (is_closed (length a.nodes) a.statements) bs) h in
    (leb-true b.nodes (length a.nodes) (first (nat_le b.nodes (length a.nodes)) (nat_lt b.statement b.statements) (nat_le b.statements (length a.statements)) _ k.0), nodes_before a bs k.1)
  where
    first : (p q r t : Bool) → (p && q && r && t) ≡ true → p ≡ true
    first true q r t e = refl
    first false q r t e = cc

statements_before : (a : Arena) (bs : List Body) → list_all (is_closed (length a.nodes) a.statements) bs ≡ true → AllBefore (λ b. b.statements) (length a.statements) bs
statements_before a [] h = tt
statements_before a (b ∷ bs) h =
    let k = and_both (is_closed (length a.nodes) a.statements b) (list_all (is_closed (length a.nodes) a.statements) bs) h in
    (leb-true b.statements (length a.statements) (third (nat_le b.nodes (length a.nodes)) (nat_lt b.statement b.statements) (nat_le b.statements (length a.statements)) _ k.0), statements_before a bs k.1)
  where
    third : (p q r t : Bool) → (p && q && r && t) ≡ true → r ≡ true
    third true true true t e = refl
    third true true false t e = cc
    third true false r t e = cc
    third false q r t e = cc

no_node_home : (f : ℕ) (ds : List Declared) (bs : List Body) (n : ℕ) → AllBefore (λ b. b.nodes) n bs → node_home f ds bs n ≡ None
no_node_home f [] bs n h = refl
no_node_home f (d ∷ ds) [] n h = refl
no_node_home f (d ∷ ds) (b ∷ bs) n h = ap (λ w. if w then Some f else node_home (suc f) ds bs n) (past n b.nodes d.nodes h.0) ∙ no_node_home (suc f) ds bs n h.1

no_statement_home : (f : ℕ) (ds : List Declared) (bs : List Body) (n : ℕ) → AllBefore (λ b. b.statements) n bs → statement_home f ds bs n ≡ None
no_statement_home f [] bs n h = refl
no_statement_home f (d ∷ ds) [] n h = refl
no_statement_home f (d ∷ ds) (b ∷ bs) n h = ap (λ w. if w then Some f else statement_home (suc f) ds bs n) (past n b.statements d.statements h.0) ∙ no_statement_home (suc f) ds bs n h.1

behind_open : (n : ℕ) (first : Declared → ℕ) (o : Option Declared) → ((f : Declared) → o ≡ Some f → first f ≤ n) → header_behind n first o ≡ header_if o
behind_open n first None h = refl
behind_open n first (Some f) h = ap (λ b. if b then Some (header_of f.function) else None) (le-leb (first f) n (h f refl))

-- the next expression stands in the open function, if there is one
pub next_expression : (a : Arena) → NamesEarlier a → ((f : Declared) → open_function a ≡ Some f → f.nodes ≤ length a.nodes) → expression_header a (length a.nodes) ≡ open_header a
next_expression a e h =
    ap (λ o. header_at a o (length a.nodes) first_node) (no_node_home 0 a.functions a.bodies (length a.nodes) (nodes_before a a.bodies e.bodies))
    ∙ behind_open (length a.nodes) first_node (open_function a) h

pub next_statement : (a : Arena) → NamesEarlier a → ((f : Declared) → open_function a ≡ Some f → f.statements ≤ length a.statements) → statement_header a (length a.statements) ≡ open_header a
next_statement a e h =
    ap (λ o. header_at a o (length a.statements) first_statement) (no_statement_home 0 a.functions a.bodies (length a.statements) (statements_before a a.bodies e.bodies))
    ∙ behind_open (length a.statements) first_statement (open_function a) h

-- ---- a function begins

pub function_home : (f : ℕ) (ds : List Declared) (d : Declared) (bs : List Body) (n : ℕ) → length bs ≤ length ds → node_home f (ds ++ d ∷ []) bs n ≡ node_home f ds bs n
function_home f [] d [] n h = refl
function_home f [] d (b ∷ bs) n h = absurd (omega (arith, h))
function_home f (c ∷ ds) d [] n h = refl
function_home f (c ∷ ds) d (b ∷ bs) n h = ap (λ o. if is_within c.nodes b.nodes n then Some f else o) (function_home (suc f) ds d bs n (omega (arith, h)))

pub function_statement_home : (f : ℕ) (ds : List Declared) (d : Declared) (bs : List Body) (n : ℕ) → length bs ≤ length ds → statement_home f (ds ++ d ∷ []) bs n ≡ statement_home f ds bs n
function_statement_home f [] d [] n h = refl
function_statement_home f [] d (b ∷ bs) n h = absurd (omega (arith, h))
function_statement_home f (c ∷ ds) d [] n h = refl
function_statement_home f (c ∷ ds) d (b ∷ bs) n h = ap (λ o. if is_within c.statements b.statements n then Some f else o) (function_statement_home (suc f) ds d bs n (omega (arith, h)))

-- ---- a function has its statement

-- what stands in the last function, if none before has it
abbrev pub last_home : (number : ℕ) → (here : Bool) → Option ℕ → Option ℕ
last_home number here (Some f) = Some f
last_home number here None = if here then Some number else None

abbrev pub within_last : (end_ n : ℕ) → (first : Declared → ℕ) → Option Declared → Bool
within_last end_ n first None = false
within_last end_ n first (Some d) = is_within (first d) end_ n

none_last : (number : ℕ) (o : Option ℕ) → o ≡ last_home number false o
none_last number None = refl
none_last number (Some f) = refl

pub body_node_home : (f : ℕ) (ds : List Declared) (bs : List Body) (b : Body) (n : ℕ)
    → node_home f ds (bs ++ b ∷ []) n ≡ last_home (f + length bs) (within_last b.nodes n first_node (slice_get ds (length bs))) (node_home f ds bs n)
body_node_home f [] [] b n = refl
body_node_home f [] (c ∷ bs) b n = refl
body_node_home f (d ∷ ds) [] b n = by (is_within d.nodes b.nodes n) (no_more (suc f) ds)
  where
    no_more : (g : ℕ) (es : List Declared) → node_home g es [] n ≡ None
    no_more g [] = refl
    no_more g (e ∷ es) = refl

    by : (w : Bool) → node_home (suc f) ds [] n ≡ None → (if w then Some f else node_home (suc f) ds [] n) ≡ (if w then Some (f + 0) else None)
    by true h = ap Some (omega arith)
    by false h = h
body_node_home f (d ∷ ds) (c ∷ bs) b n = by (is_within d.nodes c.nodes n) (body_node_home (suc f) ds bs b n)
  where
    by : (w : Bool) → node_home (suc f) ds (bs ++ b ∷ []) n ≡ last_home (suc f + length bs) (within_last b.nodes n first_node (slice_get ds (length bs))) (node_home (suc f) ds bs n)
        → (if w then Some f else node_home (suc f) ds (bs ++ b ∷ []) n) ≡ last_home (f + suc (length bs)) (within_last b.nodes n first_node (slice_get ds (length bs))) (if w then Some f else node_home (suc f) ds bs n)
    by true h = refl
    by false h = h ∙ ap (λ k. last_home k (within_last b.nodes n first_node (slice_get ds (length bs))) (node_home (suc f) ds bs n)) (omega arith)

pub body_statement_home : (f : ℕ) (ds : List Declared) (bs : List Body) (b : Body) (n : ℕ)
    → statement_home f ds (bs ++ b ∷ []) n ≡ last_home (f + length bs) (within_last b.statements n first_statement (slice_get ds (length bs))) (statement_home f ds bs n)
body_statement_home f [] [] b n = refl
body_statement_home f [] (c ∷ bs) b n = refl
body_statement_home f (d ∷ ds) [] b n = by (is_within d.statements b.statements n) (no_more (suc f) ds)
  where
    no_more : (g : ℕ) (es : List Declared) → statement_home g es [] n ≡ None
    no_more g [] = refl
    no_more g (e ∷ es) = refl

    by : (w : Bool) → statement_home (suc f) ds [] n ≡ None → (if w then Some f else statement_home (suc f) ds [] n) ≡ (if w then Some (f + 0) else None)
    by true h = ap Some (omega arith)
    by false h = h
body_statement_home f (d ∷ ds) (c ∷ bs) b n = by (is_within d.statements c.statements n) (body_statement_home (suc f) ds bs b n)
  where
    by : (w : Bool) → statement_home (suc f) ds (bs ++ b ∷ []) n ≡ last_home (suc f + length bs) (within_last b.statements n first_statement (slice_get ds (length bs))) (statement_home (suc f) ds bs n)
        → (if w then Some f else statement_home (suc f) ds (bs ++ b ∷ []) n) ≡ last_home (f + suc (length bs)) (within_last b.statements n first_statement (slice_get ds (length bs))) (if w then Some f else statement_home (suc f) ds bs n)
    by true h = refl
    by false h = h ∙ ap (λ k. last_home k (within_last b.statements n first_statement (slice_get ds (length bs))) (statement_home (suc f) ds bs n)) (omega arith)
