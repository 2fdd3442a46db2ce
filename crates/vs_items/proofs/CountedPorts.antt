-- How many processes the ports of an instance have.
use Rattle.std.proofs.Common.{◌≡◌, ℕ, zero, suc, ◌+◌, ◌<◌, ◌≤◌, Bool, true, false, ◌||◌, ◌&&◌, List, [], ◌∷◌, ◌++◌, length, get_or, drop, map, Option, Some, None, option_map, if◌then◌else◌, refl, sym, ap, ◌∙◌, append_assoc, length-append, arith, add-one, drop-cons}
use Rattle.std.specs.Prelude.{is_some, slice_get}
use Rattle.std.specs.List.{list_any}
use Rattle.std.proofs.lemmas.List.{append-nil}
use Rattle.vs_design.specs.Clocks.{same_name}
use Rattle.vs_grammar.specs.Trees as tree
use Rattle.vs_ast.specs.declared.expressions.Expr.{Expr}
use Rattle.vs_ast.specs.Views as view
use Rattle.vs_elaborated.specs.Environments.{Env}
use Rattle.vs_elaborated.specs.Pieces.{Connection}
use Rattle.vs_elaborated.specs.Ports.{Port, find_port}
use Rattle.vs_elaborated.specs.Instances.{output_target, connected, connected_by_order, connected_by_name, connection_name, connection_of, in_port_order}
use Rattle.vs_maps.specs.Maps.{Pair, value_at}
use Rattle.vs_items.specs.Noted.{AreFirst, named}
use Rattle.vs_items.specs.Counts.{has_name, HasNames}
use Rattle.vs_items.proofs.Firsts.{value_behind}
use Rattle.vs_items.proofs.NamedConnections.{AreOf, connected_of}

abbrev pub one_if : Bool → ℕ
one_if b = if b then 1 else 0

-- ---- by order

abbrev value : Option Expr → Option tree.Expr
value e = view.option view.expr e

pub ordered_more : (ps : List Port) (env : Env) (count whole : ℕ) (parts : List (Option Expr)) (n : ℕ) (x : Option Expr) (port : Option Port) (b : Bool)
    → n < length parts → x ≡ get_or parts n x → port ≡ slice_get ps n → length (connected port (value x) env).connections ≡ one_if b
    → count + length (connected_by_order ps n (map value (drop n parts)) env).connections ≡ whole
    → (count + one_if b) + length (connected_by_order ps (n + 1) (map value (drop (n + 1) parts)) env).connections ≡ whole
ordered_more ps env count whole parts n x port b h e found one before =
    let rest : List Connection = (connected_by_order ps (n + 1) (map value (drop (n + 1) parts)) env).connections in
    let here : drop n parts ≡ x ∷ drop (n + 1) parts = drop-cons parts n x h ∙ ap (λ y. y ∷ drop (suc n) parts) (sym e) ∙ ap (λ m. x ∷ drop m parts) (sym (add-one n)) in
    let step : length (connected_by_order ps n (map value (drop n parts)) env).connections ≡ one_if b + length rest =
    ap (λ xs. length (connected_by_order ps n (map value xs) env).connections) here
    ∙ ap (λ m. length ((connected (slice_get ps n) (value x) env).connections ++ (connected_by_order ps m (map value (drop (n + 1) parts)) env).connections)) (sym (add-one n))
    ∙ length-append (connected (slice_get ps n) (value x) env).connections rest
    ∙ ap (λ p. length (connected p (value x) env).connections + length rest) (sym found)
    ∙ ap (λ m. m + length rest) one in
    omega (arith, step, before)

-- ---- by names

any_behind : (f : Connection → Bool) (cs ds : List Connection) → list_any f (cs ++ ds) ≡ (list_any f cs || list_any f ds)
any_behind f [] ds = refl
any_behind f (c ∷ cs) ds = of (f c) (any_behind f cs ds)
  where
    of : (b : Bool) → list_any f (cs ++ ds) ≡ (list_any f cs || list_any f ds) → (b || list_any f (cs ++ ds)) ≡ ((b || list_any f cs) || list_any f ds)
    of true h = refl
    of false h = h

names_behind : (ps : List Port) (env : Env) (cs : List tree.NamedConnection) (c : tree.NamedConnection)
    → (connected_by_name ps (cs ++ c ∷ []) env).connections ≡ (connected_by_name ps cs env).connections ++ (connected (find_port ps c.name.bytes) c.e env).connections
names_behind ps env [] c = append-nil (connected (find_port ps c.name.bytes) c.e env).connections
names_behind ps env (d ∷ cs) c =
    ap (λ r. (connected (find_port ps d.name.bytes) d.e env).connections ++ r) (names_behind ps env cs c)
    ∙ sym (append_assoc (connected (find_port ps d.name.bytes) d.e env).connections (connected_by_name ps cs env).connections (connected (find_port ps c.name.bytes) c.e env).connections)

pub has_behind : (ps : List Port) (env : Env) (cs ds : List tree.NamedConnection) (c : tree.NamedConnection) (name : List ℕ) → ds ≡ cs ++ c ∷ []
    → has_name name (connected_by_name ps ds env).connections ≡ (has_name name (connected_by_name ps cs env).connections || has_name name (connected (find_port ps c.name.bytes) c.e env).connections)
has_behind ps env cs ds c name e =
    ap (λ xs. has_name name (connected_by_name ps xs env).connections) e ∙ ap (has_name name) (names_behind ps env cs c)
    ∙ any_behind (λ (x : Connection). same_name (connection_name x) name) (connected_by_name ps cs env).connections (connected (find_port ps c.name.bytes) c.e env).connections

connection_length : (name : List ℕ) (cs : List Connection) → length (connection_of name cs) ≡ one_if (has_name name cs)
connection_length name [] = refl
connection_length name (c ∷ cs) = of (same_name (connection_name c) name) (connection_length name cs)
  where
    of : (b : Bool) → length (connection_of name cs) ≡ one_if (has_name name cs) → length (if b then c ∷ [] else connection_of name cs) ≡ one_if (b || has_name name cs)
    of true h = refl
    of false h = h

order_behind : (ps : List Port) (p : Port) (cs : List Connection) → length (in_port_order (ps ++ p ∷ []) cs) ≡ length (in_port_order ps cs) + one_if (has_name p.name cs)
order_behind [] p cs = length-append (connection_of p.name cs) [] ∙ (let e = connection_length p.name cs in omega (arith, e))
order_behind (q ∷ ps) p cs =
    let a = length-append (connection_of q.name cs) (in_port_order (ps ++ p ∷ []) cs) in
    let b = length-append (connection_of q.name cs) (in_port_order ps cs) in
    let r = order_behind ps p cs in
    omega (arith, a, b, r)

-- one port more
pub port_counted : (ps qs : List Port) (p : Port) (cs : List Connection) (count next : ℕ) (b : Bool) → qs ≡ ps ++ p ∷ [] → b ≡ has_name p.name cs → next ≡ count + one_if b → count ≡ length (in_port_order ps cs)
    → next ≡ length (in_port_order qs cs)
port_counted ps qs p cs count next b e is more before =
    more ∙ ap (λ n. n + one_if b) before ∙ ap (λ x. length (in_port_order ps cs) + one_if x) is ∙ sym (ap (λ xs. length (in_port_order xs cs)) e ∙ order_behind ps p cs)

-- a connection that has a process has its port's name
connected_has : (b : Bool) (name key : List ℕ) (xs : List Connection) → AreOf name xs → length xs ≡ one_if b → has_name key xs ≡ (b && same_name name key)
connected_has true name key [] a h = cc
connected_has false name key [] a h = refl
connected_has false name key (x ∷ xs) a h = absurd (let no : ⊥ = omega (arith, h) in no)
connected_has true name key (x ∷ xs) a h = ap (λ ys. same_name (connection_name x) key || has_name key ys) a.1 ∙ ap (λ n. same_name n key || false) a.0 ∙ or_false (same_name name key)
  where
    or_false : (b : Bool) → (b || false) ≡ b
    or_false true = refl
    or_false false = refl

pub names_kept : (ps : List Port) (env : Env) (m : List (Pair (Unit {0}))) (cs : List tree.NamedConnection) (c : tree.NamedConnection) → length (connected (find_port ps c.name.bytes) c.e env).connections ≡ one_if false
    → HasNames m (connected_by_name ps cs env).connections → HasNames m (connected_by_name ps (cs ++ c ∷ []) env).connections
names_kept ps env m cs c one h = record {
  each = λ key.
      h.each key
      ∙ sym (has_behind ps env cs (cs ++ c ∷ []) c key refl ∙ ap (λ b. has_name key (connected_by_name ps cs env).connections || b) (connected_has false c.name.bytes key (connected (find_port ps c.name.bytes) c.e env).connections (connected_of ps c.name.bytes c.e env) one)
      ∙ or_none (has_name key (connected_by_name ps cs env).connections));
}
  where
    or_none : (b : Bool) → (b || false) ≡ b
    or_none true = refl
    or_none false = refl

noted_some : (o : Option (Unit {0})) (b : Bool) → is_some (if is_some o then o else (if b then Some tt else None)) ≡ (is_some o || b)
noted_some None true = refl
noted_some None false = refl
noted_some (Some x) b = refl

pub names_noted : (ps : List Port) (env : Env) (m new : List (Pair (Unit {0}))) (cs : List tree.NamedConnection) (c : tree.NamedConnection) → length (connected (find_port ps c.name.bytes) c.e env).connections ≡ one_if true
    → ((all : List (Pair (Unit {0}))) → AreFirst m all → AreFirst new (all ++ named c.name.bytes tt ∷ []))
    → HasNames m (connected_by_name ps cs env).connections → HasNames new (connected_by_name ps (cs ++ c ∷ []) env).connections
names_noted ps env m new cs c one first h = record {
  each = λ key.
      ap is_some ((first m (record { each = λ name. refl })).each key ∙ value_behind m (named c.name.bytes tt) key)
      ∙ noted_some (value_at key m) (same_name c.name.bytes key)
      ∙ ap (λ b. b || same_name c.name.bytes key) (h.each key)
      ∙ sym (has_behind ps env cs (cs ++ c ∷ []) c key refl ∙ ap (λ b. has_name key (connected_by_name ps cs env).connections || b) (connected_has true c.name.bytes key (connected (find_port ps c.name.bytes) c.e env).connections (connected_of ps c.name.bytes c.e env) one));
}

-- a target has one
pub output_counted : (name : List ℕ) (e : tree.Expr) (env : Env) (t : Option tree.Target) (b : Bool) → b ≡ is_some t → length (output_target name e env t).connections ≡ one_if b
output_counted name e env None true h = cc
output_counted name e env None false h = refl
output_counted name e env (Some t) true h = refl
output_counted name e env (Some t) false h = cc

pub one_if_few : (b : Bool) → one_if b ≤ 1
one_if_few true = omega arith
one_if_few false = omega arith

pub ordered_end : (ps : List Port) (env : Env) (count whole : ℕ) (parts : List (Option Expr)) (n : ℕ) → length parts ≤ n
    → count + length (connected_by_order ps n (map value (drop n parts)) env).connections ≡ whole → count ≡ whole
ordered_end ps env count whole parts n h e =
    let none = ap (λ xs. length (connected_by_order ps n (map value xs) env).connections) (none_left parts n h) in omega (arith, none, e)
  where
    none_left : (xs : List (Option Expr)) (k : ℕ) → length xs ≤ k → drop k xs ≡ []
    none_left [] zero h = refl
    none_left [] (suc k) h = refl
    none_left (x ∷ xs) zero h = absurd (let no : ⊥ = omega (arith, h) in no)
    none_left (x ∷ xs) (suc k) h = none_left xs k (omega (arith, h))

-- a reference in place of the value
pub copied_alike : {R V : Type 0} (now : R → V) (r : Option R) (o : Option V) → option_map now r ≡ o → is_some r ≡ is_some o
copied_alike now None o e = ap is_some e
copied_alike now (Some x) o e = ap is_some e
