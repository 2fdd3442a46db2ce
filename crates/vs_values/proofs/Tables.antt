-- The table of templates, and which expressions call functions that have entries.
use Rattle.std.proofs.Common.{◌≡◌, ℕ, zero, suc, ◌+◌, ◌<◌, ◌≤◌, true, false, not, ◌&&◌, List, [], ◌∷◌, ◌++◌, map, length, get_or, slice_get, Some, None, Option, sym, ap, ◌∙◌, subst, refl, arith}
use Rattle.std.specs.Prelude.{option_map}
use Rattle.std.specs.List.{list_all}
use Rattle.vs_design.specs.Expressions as E
use Rattle.vs_design.specs.Expressions.{Signal, Header, local_signals, Expression, Items, items_of}
use Rattle.vs_design.specs.Statements.{Function}
use Rattle.vs_design.specs.Designs.{Design}
use Rattle.vs_design.specs.Elaborated.{is_nil, inside, is_local, are_numbered, are_as_many, have_bits_from, is_formed, are_formed, is_formed_header, is_formed_statement}
use Rattle.vs_design.specs.Footprints.{is_input, is_variable}
use Rattle.vs_design.specs.Rules.{mixed_in}
use Rattle.vs_flat.specs.declared.placed.Placed.{Placed}
use Rattle.vs_flat.specs.declared.expressions.Node.{Node}
use Rattle.vs_flat.specs.declared.expressions.Node.TheVariants as V
use Rattle.vs_flat.specs.declared.functions.Body.{Body}
use Rattle.vs_flat.specs.Arena.{Arena, node_at, body_at}
use Rattle.vs_flat.specs.Lawful.{IsLawful, node_design}
use Rattle.vs_flat.specs.Laws.{BodiesThere, BodyNames, CallsBefore, StatementNames, EachIsFormed}
use Rattle.vs_flat.specs.Named.{statement_names_below}
use Rattle.vs_shape.specs.Nodes.{HasCalls, tree_of, place_of, tree_of_node}
use Rattle.vs_values.specs.declared.templates.Template.{Template}
use Rattle.vs_values.specs.Calling.{CallsFirst, IsFormedCall, IsFormedCallOf, IsInlinable, IsInlined, IsInlinedTo, IsFitting}
use Rattle.vs_values.specs.Coded.{Coding}
use Rattle.vs_values.specs.Templates.{function_at, IsEntry, IsTable, Templated, nodes_until, statements_until, node_bound, BoundsOfAll, BoundsOfNext, BoundsAreThere, BoundedNames}
use Rattle.vs_values.proofs.Called.{fitting_is}
use Rattle.vs_values.proofs.Values.{both_true}

-- ---- lists by place

some_at : {A : Type 0} (xs : List A) (n : ℕ) (d : A) → n < length xs → slice_get xs n ≡ Some (get_or xs n d)
some_at [] n d l = absurd (omega arith)
some_at (x ∷ xs) zero d l = refl
some_at (x ∷ xs) (suc n) d l = some_at xs n d (omega arith)

none_at : {A : Type 0} (xs : List A) (n : ℕ) → length xs ≤ n → slice_get xs n ≡ None
none_at [] n l = refl
none_at (x ∷ xs) zero l = absurd (omega arith)
none_at (x ∷ xs) (suc n) l = none_at xs n (omega arith)

none_is : {A : Type 0} (xs : List A) (n : ℕ) → slice_get xs n ≡ None → length xs ≤ n
none_is [] n h = omega arith
none_is (x ∷ xs) zero h = cc
none_is (x ∷ xs) (suc n) h = let l = none_is xs n h in omega arith

same_some : {A : Type 0} (x y : A) → Some x ≡ Some y → x ≡ y
same_some x y h = cc

-- the last one of one more, or one of those before
last_of : {A : Type 0} (P : ℕ → A → Type 0) (first : ℕ) (xs : List A) (x : A) → ((n : ℕ) (y : A) → slice_get xs n ≡ Some y → P (first + n) y) → P (first + length xs) x → (n : ℕ) (y : A) → slice_get (xs ++ x ∷ []) n ≡ Some y → P (first + n) y
last_of P first [] x h p zero y e = subst (P (first + 0)) (same_some x y e) p
last_of P first [] x h p (suc n) y e = cc
last_of P first (z ∷ xs) x h p zero y e = h zero y e
last_of P first (z ∷ xs) x h p (suc n) y e =
    let at : suc first + n ≡ first + suc n = omega arith in
    let end_ : first + suc (length xs) ≡ suc first + length xs = omega arith in
    subst (λ (k : ℕ). P k y) at (last_of P (suc first) xs x (λ m w g. subst (λ (k : ℕ). P k w) (omega arith) (h (suc m) w g)) (subst (λ (k : ℕ). P k x) end_ p) n y e)

-- ---- the table

view : Arena → List (Option Template) → Templated
view a table = record { arena = a; functions = length table }

pub entry_at : (a : Arena) (table : List (Option Template)) (t : Templated) (f : ℕ) (entry : Option Template) → record { arena = a; functions = length table } ≡ t → IsTable a table → f < t.functions → entry ≡ get_or table f entry → IsEntry (function_at t.arena f) entry
entry_at a table t f entry is h l e =
    let inside_ : f < length table = omega (arith, l, ap (λ (x : Templated). x.functions) is) in
    subst (λ (x : Templated). IsEntry (function_at x.arena f) entry) is (h.entries f entry (some_at table f entry inside_ ∙ ap Some (sym e)))

pub table_more : (a : Arena) (table more : List (Option Template)) (t : Templated) (entry : Option Template) → record { arena = a; functions = length table } ≡ t → IsTable a table → t.functions < length t.arena.bodies → IsEntry (function_at t.arena t.functions) entry → more ≡ table ++ entry ∷ [] → IsTable a more
table_more a table more t entry is h l p e =
    let q : IsEntry (function_at a (length table)) entry = subst (λ (x : Templated). IsEntry (function_at x.arena x.functions) entry) (sym is) p in
    let m : length table < length a.bodies = subst (λ (x : Templated). x.functions < length x.arena.bodies) (sym is) l in
    subst (IsTable a) (sym e) (record {
      there = omega (arith, m, one_longer table entry);
      entries = λ f y g.
          let P = λ (k : ℕ) (x : Option Template). IsEntry (function_at a k) x in
          subst (λ (k : ℕ). P k y) (omega arith)
          (last_of P 0 table entry (λ n z i. subst (λ (k : ℕ). P k z) (omega arith) (h.entries n z i)) (subst (λ (k : ℕ). P k entry) (omega arith) q) f y g);
    })
  where
    one_longer : (xs : List (Option Template)) (x : Option Template) → length (xs ++ x ∷ []) ≡ suc (length xs)
    one_longer [] x = refl
    one_longer (y ∷ ys) x = ap suc (one_longer ys x)

-- ---- a function's template

pub fits_entry : (f : Function) (t : Template) (entry : Option Template) (code : Coding) (slots : List ℕ) → IsEntry f entry → entry ≡ Some t → IsInlinable f code slots → IsFitting t code slots
fits_entry f t entry code slots h e r = fitting_is f t code slots (subst (IsEntry f) e h) r

pub never_none : (f : Function) (entry : Option Template) (code : Coding) (slots : List ℕ) → IsEntry f entry → entry ≡ None → IsInlinable f code slots → ⊥
never_none f entry code slots h e r = let full = subst (IsEntry f) e h r.fit in omega (arith, full, r.light)

pub inlined_is : (f : Function) (t : Template) (entry : Option Template) (code new : Coding) (slots to : List ℕ) → IsEntry f entry → entry ≡ Some t → IsInlinedTo t slots code new to → IsInlined f slots code new to
inlined_is f t entry code new slots to h e i = record { template = t; is = subst (IsEntry f) e h; inlined = i }

-- ---- bounds

pub bounds_of_all : BoundsOfAll
bounds_of_all t h =
    let none : body_at t.arena t.functions ≡ None = none_at t.arena.bodies t.functions (omega (arith, h)) in
    (ap (λ (o : Option Body). nodes_until o (length t.arena.nodes)) none, ap (λ (o : Option Body). statements_until o (length t.arena.statements)) none)

pub bounds_of_next : BoundsOfNext
bounds_of_next t b h = (ap (λ (o : Option Body). nodes_until o (length t.arena.nodes)) h, ap (λ (o : Option Body). statements_until o (length t.arena.statements)) h)

by_body : {P : Type 0} (o : Option Body) → (o ≡ None → P) → ((b : Body) → o ≡ Some b → P) → P
by_body None f g = f refl
by_body (Some b) f g = g b refl

pub bounds_are_there : BodiesThere → BoundsAreThere
bounds_are_there law t names =
    by_body (body_at t.arena t.functions)
    (λ none. (omega (arith, ap (λ (o : Option Body). nodes_until o (length t.arena.nodes)) none), omega (arith, ap (λ (o : Option Body). statements_until o (length t.arena.statements)) none)))
    (λ b some. let is = bounds_of_next t b some in let there = law t.arena names t.functions b some in (omega (arith, is.0, there.0), omega (arith, is.1, there.2)))

pub bounded_names : BodyNames → StatementNames → BoundedNames
bounded_names bodies all t names n s l at =
    by_body (body_at t.arena t.functions)
    (λ none. subst (λ (k : ℕ). statement_names_below k n s.item ≡ true) (sym (ap (λ (o : Option Body). nodes_until o (length t.arena.nodes)) none)) (all t.arena names n s at))
    (λ b some.
    let is = bounds_of_next t b some in
    subst (λ (k : ℕ). statement_names_below k n s.item ≡ true) (sym is.0) (bodies t.arena names t.functions b some n s (omega (arith, l, is.1)) at))

-- ---- what an expression calls

placed_at : (o : Option (Placed Node)) (item : Node) → option_map (λ (n : Placed Node). n.item) o ≡ Some item → (n : Placed Node) × (o ≡ Some n) × (n.item ≡ item)
placed_at None item e = cc
placed_at (Some n) item e = (n, refl, same_some n.item item e)

pub calls_first : CallsBefore → (t : Templated) → IsLawful t.arena → (e : ℕ) (item : Node) → e < node_bound t → node_at t.arena e ≡ Some item → HasCalls t.arena item → CallsFirst t item
calls_first law t w e (V.Call f args) l at h =
    let n = placed_at (slice_get t.arena.nodes e) (V.Call f args) at in
    by_body (body_at t.arena t.functions)
    (λ none. omega (arith, h, w.complete, none_is t.arena.bodies t.functions none))
    (λ b some. law t.arena w.names t.functions b some e n.0 (omega (arith, l, (bounds_of_next t b some).0)) n.1 f args n.2)
calls_first law t w e (V.Literal bits signed sized) l at h = h
calls_first law t w e (V.Name n) l at h = tt
calls_first law t w e (V.Local f n) l at h = tt
calls_first law t w e (V.Bit of range index) l at h = tt
calls_first law t w e (V.Part of range base up width) l at h = tt
calls_first law t w e (V.Word n index) l at h = tt
calls_first law t w e (V.WordPart n address range base up width) l at h = tt
calls_first law t w e (V.Unary op a) l at h = tt
calls_first law t w e (V.Binary op a b) l at h = tt
calls_first law t w e (V.Choice c p q) l at h = tt
calls_first law t w e (V.Join parts) l at h = tt

as_many : (tree : ℕ → Expression) (args : List ℕ) (inputs : List Signal) → are_as_many (items_of (map tree args)) inputs ≡ true → length args ≡ length inputs
as_many tree [] [] h = refl
as_many tree [] (i ∷ inputs) h = cc
as_many tree (x ∷ args) [] h = cc
as_many tree (x ∷ args) (i ∷ inputs) h = ap suc (as_many tree args inputs h)

header_bits : (d : Design) (h : Header) → is_formed_header d h ≡ true → have_bits_from 0 (local_signals h) ≡ true
header_bits d h f =
    let a = both_true (not (is_nil h.inputs) && are_numbered 0 0 (local_signals h) && have_bits_from 0 (local_signals h) && list_all (is_local d h) (local_signals h) && list_all is_input h.inputs) (list_all is_variable (h.result ∷ h.own)) f in
    let b = both_true (not (is_nil h.inputs) && are_numbered 0 0 (local_signals h) && have_bits_from 0 (local_signals h) && list_all (is_local d h) (local_signals h)) (list_all is_input h.inputs) a.0 in
    let c = both_true (not (is_nil h.inputs) && are_numbered 0 0 (local_signals h) && have_bits_from 0 (local_signals h)) (list_all (is_local d h) (local_signals h)) b.0 in
    (both_true (not (is_nil h.inputs) && are_numbered 0 0 (local_signals h)) (have_bits_from 0 (local_signals h)) c.0).1

formed_call : (d : Design) (f : Function) (tree : ℕ → Expression) (args : List ℕ) → is_formed d (E.Call f.header f.statement (items_of (map tree args))) ≡ true → IsFormedCall f.header (length args)
formed_call d f tree args h =
    let es = items_of (map tree args) in
    let a = both_true (is_formed_header d f.header && is_nil (mixed_in false f.statement) && is_formed_statement (inside d f.header) f.statement && are_as_many es f.header.inputs) (are_formed d es) h in
    let b = both_true (is_formed_header d f.header && is_nil (mixed_in false f.statement) && is_formed_statement (inside d f.header) f.statement) (are_as_many es f.header.inputs) a.0 in
    let c = both_true (is_formed_header d f.header && is_nil (mixed_in false f.statement)) (is_formed_statement (inside d f.header) f.statement) b.0 in
    record {
      bits = header_bits d f.header (both_true (is_formed_header d f.header) (is_nil (mixed_in false f.statement)) c.0).0;
      as_many = as_many tree args f.header.inputs b.1;
    }

pub formed_of : EachIsFormed → (a : Arena) → IsLawful a → (e : ℕ) (item : Node) → e < length a.nodes → tree_of a e ≡ E.At (place_of a e) (tree_of_node a item) → IsFormedCallOf a item
formed_of law a w e (V.Call f args) l is =
    formed_call (node_design a e) (function_at a f) (tree_of a) args (subst (λ (x : Expression). is_formed (node_design a e) x ≡ true) is (law a w e l))
formed_of law a w e (V.Literal bits signed sized) l is = tt
formed_of law a w e (V.Name n) l is = tt
formed_of law a w e (V.Local f n) l is = tt
formed_of law a w e (V.Bit of range index) l is = tt
formed_of law a w e (V.Part of range base up width) l is = tt
formed_of law a w e (V.Word n index) l is = tt
formed_of law a w e (V.WordPart n address range base up width) l is = tt
formed_of law a w e (V.Unary op x) l is = tt
formed_of law a w e (V.Binary op x y) l is = tt
formed_of law a w e (V.Choice c p q) l is = tt
formed_of law a w e (V.Join parts) l is = tt
