-- What calls the first functions alone.
use Rattle.std.proofs.Common.{◌≡◌, ℕ, zero, suc, ◌<◌, ◌≤◌, true, List, [], ◌∷◌, length, Option, Some, None, refl, sym, ap, ◌∙◌, subst, arith}
use Rattle.std.specs.Prelude.{option_map, slice_get}
use Rattle.std.proofs.lemmas.Bool.{ltb-true}
use Rattle.vs_flat.specs.declared.placed.Placed.{Placed}
use Rattle.vs_flat.specs.declared.expressions.Node.{Node}
use Rattle.vs_flat.specs.declared.expressions.Node.TheVariants.{Literal, Name, Bit, Part, Word, WordPart, Unary, Binary, Choice, Join, Local, Call}
use Rattle.vs_flat.specs.declared.functions.Body.{Body}
use Rattle.vs_flat.specs.declared.statements.Statement.{Statement}
use Rattle.vs_flat.specs.Arena.{Arena, body_at, node_at, statement_at}
use Rattle.vs_flat.specs.Lawful.{NamesEarlier}
use Rattle.vs_flat.specs.Laws.{NodeCalls, CallsBefore, BodiesThere, BodyNames, StatementNames}
use Rattle.vs_flat.specs.Named.{covers_calls, statement_names_below}
use Rattle.vs_shape.specs.Bodies.{HasBodyNames}
use Rattle.vs_shape.proofs.BodyNames.{has_body_names}
use Rattle.vs_typed.specs.Reach.{nodes_in, statements_in, node_reach, statement_reach, CallsFirst}

none_left : (bodies : List Body) (count : ℕ) → slice_get bodies count ≡ None → length bodies ≤ count
none_left [] count h = omega arith
none_left (b ∷ bodies) zero h = absurd (let z : ⊥ = cc in z)
none_left (b ∷ bodies) (suc count) h = let l = none_left bodies count h in omega (arith, l)

-- it is there
pub node_there : BodiesThere → (a : Arena) → NamesEarlier a → (count e : ℕ) → e < node_reach a count → e < length a.nodes
node_there law a names count e h = at (body_at a count) refl h
  where
    at : (o : Option Body) → body_at a count ≡ o → e < nodes_in (length a.nodes) o → e < length a.nodes
    at None is h = h
    at (Some b) is h = let l = (law a names count b is).0 in omega (arith, h, l)

pub statement_there : BodiesThere → (a : Arena) → NamesEarlier a → (count s : ℕ) → s < statement_reach a count → s < length a.statements
statement_there law a names count s h = at (body_at a count) refl h
  where
    at : (o : Option Body) → body_at a count ≡ o → s < statements_in (length a.statements) o → s < length a.statements
    at None is h = h
    at (Some b) is h = let l = (law a names count b is).2 in omega (arith, h, l)

-- the statement of the next function is
pub body_there : BodiesThere → (a : Arena) → NamesEarlier a → (count : ℕ) (b : Body) → body_at a count ≡ Some b → b.statement < statement_reach a count
body_there law a names count b is = let l = (law a names count b is).1 in subst (λ o. b.statement < statements_in (length a.statements) o) (sym is) l

-- all are where there is no next one
pub all_nodes : (a : Arena) (count e : ℕ) → length a.bodies ≤ count → e < length a.nodes → e < node_reach a count
all_nodes a count e few h = at (body_at a count) refl
  where
    short : (bodies : List Body) (n : ℕ) (b : Body) → slice_get bodies n ≡ Some b → n < length bodies
    short [] n b is = cc
    short (x ∷ bodies) zero b is = omega arith
    short (x ∷ bodies) (suc n) b is = let l = short bodies n b is in omega (arith, l)

    at : (o : Option Body) → body_at a count ≡ o → e < nodes_in (length a.nodes) o
    at None is = h
    at (Some b) is = let l = short a.bodies count b is in absurd (omega (arith, l, few))

pub all_statements : (a : Arena) (count s : ℕ) → length a.bodies ≤ count → s < length a.statements → s < statement_reach a count
all_statements a count s few h = at (body_at a count) refl
  where
    short : (bodies : List Body) (n : ℕ) (b : Body) → slice_get bodies n ≡ Some b → n < length bodies
    short [] n b is = cc
    short (x ∷ bodies) zero b is = omega arith
    short (x ∷ bodies) (suc n) b is = let l = short bodies n b is in omega (arith, l)

    at : (o : Option Body) → body_at a count ≡ o → s < statements_in (length a.statements) o
    at None is = h
    at (Some b) is = let l = short a.bodies count b is in absurd (omega (arith, l, few))

record FoundNode (a : Arena) (e : ℕ) (n : Node) : Type 0 where
  pub placed : Placed Node
  pub at : slice_get a.nodes e ≡ Some placed
  pub is : placed.item ≡ n

found_node : (a : Arena) (e : ℕ) (n : Node) → node_at a e ≡ Some n → FoundNode a e n
found_node a e n h = go (slice_get a.nodes e) refl h
  where
    go : (o : Option (Placed Node)) → slice_get a.nodes e ≡ o → option_map (λ (m : Placed Node). m.item) o ≡ Some n → FoundNode a e n
    go None is h = absurd (let z : ⊥ = cc in z)
    go (Some m) is h = record { placed = m; at = is; is = cc }

-- its calls are of the first functions
pub calls_first : NodeCalls → CallsBefore → (a : Arena) → NamesEarlier a → (count e : ℕ) → count ≤ length a.bodies → e < node_reach a count → (n : Node) → node_at a e ≡ Some n → CallsFirst count n
calls_first there before a names count e few h (Literal bits signed sized) is = tt
calls_first there before a names count e few h (Name signal) is = tt
calls_first there before a names count e few h (Bit of range index) is = tt
calls_first there before a names count e few h (Part of range base up width) is = tt
calls_first there before a names count e few h (Word signal index) is = tt
calls_first there before a names count e few h (WordPart signal address range base up width) is = tt
calls_first there before a names count e few h (Unary op x) is = tt
calls_first there before a names count e few h (Binary op x y) is = tt
calls_first there before a names count e few h (Choice c p q) is = tt
calls_first there before a names count e few h (Join parts) is = tt
calls_first there before a names count e few h (Local function signal) is = tt
calls_first there before a names count e few h (Call function arguments) is = at (body_at a count) refl h
  where
    f : FoundNode a e (Call function arguments)
    f = found_node a e (Call function arguments) is

    at : (o : Option Body) → body_at a count ≡ o → e < nodes_in (length a.nodes) o → function < count
    at None none h =
        let l : function < length a.bodies = ltb-true function (length a.bodies) (ap (covers_calls a) (sym f.is) ∙ there a names e f.placed f.at) in
        let m = none_left a.bodies count none in
        omega (arith, l, m, few)
    at (Some b) some h = before a names count b some e f.placed h f.at function arguments f.is

record FoundStatement (a : Arena) (s : ℕ) (x : Statement) : Type 0 where
  pub placed : Placed Statement
  pub at : slice_get a.statements s ≡ Some placed
  pub is : placed.item ≡ x

found_statement : (a : Arena) (s : ℕ) (x : Statement) → statement_at a s ≡ Some x → FoundStatement a s x
found_statement a s x h = go (slice_get a.statements s) refl h
  where
    go : (o : Option (Placed Statement)) → slice_get a.statements s ≡ o → option_map (λ (m : Placed Statement). m.item) o ≡ Some x → FoundStatement a s x
    go None is h = absurd (let z : ⊥ = cc in z)
    go (Some m) is h = record { placed = m; at = is; is = cc }

-- what it names is among the expressions that call the first functions alone
pub names_first : StatementNames → BodyNames → (a : Arena) → NamesEarlier a → (count s : ℕ) → s < statement_reach a count → (x : Statement) → statement_at a s ≡ Some x → HasBodyNames (node_reach a count) s x
names_first all within a names count s h x is = subst (HasBodyNames (node_reach a count) s) f.is (has_body_names (node_reach a count) s f.placed.item (at (body_at a count) refl h))
  where
    f : FoundStatement a s x
    f = found_statement a s x is

    at : (o : Option Body) → body_at a count ≡ o → s < statements_in (length a.statements) o → statement_names_below (nodes_in (length a.nodes) o) s f.placed.item ≡ true
    at None none h = all a names s f.placed f.at
    at (Some b) some h = within a names count b some s f.placed h f.at
