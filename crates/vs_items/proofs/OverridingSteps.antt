-- Maps of overrides, and the lists that they stand for.
use Rattle.std.proofs.Common.{◌≡◌, ℕ, zero, suc, ◌+◌, ◌<◌, ◌≤◌, Bool, true, false, List, [], ◌∷◌, ◌++◌, length, get_or, drop, map, Option, Some, None, option_map, if◌then◌else◌, inl, inr, refl, sym, ap, ◌∙◌, subst, append_assoc, drop-cons, add-one, arith}
use Rattle.std.specs.Prelude.{slice_get}
use Rattle.std.proofs.lemmas.List.{append-nil, map-append}
use Rattle.vs_design.specs.Clocks.{same_name}
use Rattle.vs_grammar.specs.Trees as tree
use Rattle.vs_grammar.specs.Shapes.{IsExpr}
use Rattle.vs_ast.specs.declared.expressions.Expr.{Expr}
use Rattle.vs_ast.specs.Views as view
use Rattle.vs_elaborated.specs.Environments.{Env}
use Rattle.vs_elaborated.specs.Instances.{Overrides, and_override, overrides_by_order, overrides_by_name}
use Rattle.vs_elaborated.specs.Parameters as spec
use Rattle.vs_elaborated.specs.Parameters.{override_of}
use Rattle.vs_scope.specs.declared.frames.Frame.{Frame}
use Rattle.vs_maps.specs.declared.maps.NameMap.{NameMap}
use Rattle.vs_scope.specs.declared.parameters.Override.{Override}
use Rattle.vs_maps.specs.Maps.{AreDistinct, Pair, value_at, with_value}
use Rattle.vs_maps.specs.MapViews.{pairs}
use Rattle.vs_scope.specs.Overrides.{override_typed, overrides_of, EachOverride, AreOverrides}
use Rattle.vs_items.specs.Noted.{AreFirst, MayHave, named}
use Rattle.vs_items.specs.Overriding.{AreAlike, AreSaid, one_override, said_override}

value_said : (frames : List Frame) (ps : List (Pair Override)) (name : List ℕ) → override_of (map (said_override frames) ps) name ≡ option_map (override_typed frames) (value_at name ps)
value_said frames [] name = refl
value_said frames (p ∷ ps) name = by (same_name p.name name) (value_said frames ps name)
  where
    by : (b : Bool) → override_of (map (said_override frames) ps) name ≡ option_map (override_typed frames) (value_at name ps)
        → (if b then Some (override_typed frames p.value) else override_of (map (said_override frames) ps) name) ≡ option_map (override_typed frames) (if b then Some p.value else value_at name ps)
    by true h = refl
    by false h = h

-- a map overrides as the list does
pub said_alike : (frames : List Frame) (m : NameMap Override) (os : List spec.Override) → AreSaid frames m os → AreAlike (overrides_of frames m) os
said_alike frames m os a name =
    value_said frames (pairs m) name ∙ ap (option_map (override_typed frames)) (a.first.each name) ∙ sym (value_said frames a.all name) ∙ ap (λ x. override_of x name) a.are

pub none_said : (frames : List Frame) (m : NameMap Override) → pairs m ≡ [] → AreSaid frames m []
none_said frames m e = record { all = []; first = record { each = λ name. ap (value_at name) e }; are = refl }

pub none_distinct : (m : NameMap Override) → pairs m ≡ [] → AreDistinct (pairs m)
none_distinct m e = subst AreDistinct (sym e) tt

pub same_said : (frames : List Frame) (m : NameMap Override) (os qs : List spec.Override) → os ≡ qs → AreSaid frames m os → AreSaid frames m qs
same_said frames m os qs e a = subst (AreSaid frames m) e a

-- one more
pub said_more : (frames : List Frame) (old new : NameMap Override) (os : List spec.Override) (key : List ℕ) (o : Override) → AreSaid frames old os
    → ((all : List (Pair Override)) → AreFirst (pairs old) all → AreFirst (pairs new) (all ++ named key o ∷ [])) → AreSaid frames new (os ++ said_override frames (named key o) ∷ [])
said_more frames old new os key o a more = record {
  all = a.all ++ named key o ∷ [];
  first = more a.all a.first;
  are = map-append (said_override frames) a.all (named key o ∷ []) ∙ ap (λ xs. xs ++ said_override frames (named key o) ∷ []) a.are;
}

-- ---- parts one after the other

and_splits : (name : Option (List ℕ)) (e : Option tree.Expr) (env : Env) (others : Overrides) → (and_override name e env others).overrides ≡ one_override name e env ++ others.overrides
and_splits name None env others = refl
and_splits None (Some e) env others = refl
and_splits (Some name) (Some e) env others = refl

abbrev value : Option Expr → Option tree.Expr
value e = view.option view.expr e

-- by order
pub order_more : (names : List (List ℕ)) (env : Env) (done more whole : List spec.Override) (parts : List (Option Expr)) (n : ℕ) (x : Option Expr) (name : Option (List ℕ))
    → n < length parts → x ≡ get_or parts n x → name ≡ slice_get names n → more ≡ done ++ one_override name (value x) env
    → done ++ (overrides_by_order names n (map value (drop n parts)) env).overrides ≡ whole
    → more ++ (overrides_by_order names (n + 1) (map value (drop (n + 1) parts)) env).overrides ≡ whole
order_more names env done more whole parts n x name h e found pushed before =
    let rest : List spec.Override = (overrides_by_order names (n + 1) (map value (drop (n + 1) parts)) env).overrides in
    let here : drop n parts ≡ x ∷ drop (n + 1) parts = drop-cons parts n x h ∙ ap (λ y. y ∷ drop (suc n) parts) (sym e) ∙ ap (λ m. x ∷ drop m parts) (sym (add-one n)) in
    ap (λ r. r ++ rest) pushed ∙ append_assoc done (one_override name (value x) env) rest
    ∙ ap (λ p. done ++ (one_override p (value x) env ++ rest)) found
    ∙ ap (λ m. done ++ (one_override (slice_get names n) (value x) env ++ (overrides_by_order names m (map value (drop (n + 1) parts)) env).overrides)) (add-one n)
    ∙ ap (λ r. done ++ r) (sym (and_splits (slice_get names n) (value x) env (overrides_by_order names (suc n) (map value (drop (n + 1) parts)) env)))
    ∙ ap (λ xs. done ++ (overrides_by_order names n (map value xs) env).overrides) (sym here)
    ∙ before

-- by names
names_behind : (cs : List tree.NamedConnection) (c : tree.NamedConnection) (env : Env) → (overrides_by_name (cs ++ c ∷ []) env).overrides ≡ (overrides_by_name cs env).overrides ++ one_override (Some c.name.bytes) c.e env
names_behind [] c env = and_splits (Some c.name.bytes) c.e env (overrides_by_name [] env) ∙ append-nil (one_override (Some c.name.bytes) c.e env)
names_behind (d ∷ cs) c env =
    and_splits (Some d.name.bytes) d.e env (overrides_by_name (cs ++ c ∷ []) env)
    ∙ ap (λ r. one_override (Some d.name.bytes) d.e env ++ r) (names_behind cs c env)
    ∙ sym (append_assoc (one_override (Some d.name.bytes) d.e env) (overrides_by_name cs env).overrides (one_override (Some c.name.bytes) c.e env))
    ∙ ap (λ r. r ++ one_override (Some c.name.bytes) c.e env) (sym (and_splits (Some d.name.bytes) d.e env (overrides_by_name cs env)))

pub names_more : (cs ds : List tree.NamedConnection) (c : tree.NamedConnection) (env : Env) → ds ≡ cs ++ c ∷ [] → (overrides_by_name cs env).overrides ++ one_override (Some c.name.bytes) c.e env ≡ (overrides_by_name ds env).overrides
names_more cs ds c env e = sym (ap (λ xs. (overrides_by_name xs env).overrides) e ∙ names_behind cs c env)

-- ---- each is an expression in a scope

each_with : (count : ℕ) (ps : List (Pair Override)) (name : List ℕ) (o : Override) → EachOverride count ps → IsExpr (view.expr o.value.now) × (o.frame < count) → EachOverride count (with_value name o ps)
each_with count [] name o h k = (k, tt)
each_with count (p ∷ ps) name o h k = by (same_name p.name name) (each_with count ps name o h.1 k)
  where
    by : (b : Bool) → EachOverride count (with_value name o ps) → EachOverride count (if b then named p.name o ∷ ps else p ∷ with_value name o ps)
    by true r = (k, h.1)
    by false r = (h.0, r)

pub each_may : (count : ℕ) (old new : List (Pair Override)) (name : List ℕ) (o : Override) → MayHave old new name o → EachOverride count old → IsExpr (view.expr o.value.now) × (o.frame < count) → EachOverride count new
each_may count old new name o (inl e) h k = subst (EachOverride count) (sym e) h
each_may count old new name o (inr e) h k = subst (EachOverride count) (sym e) (each_with count old name o h k)

pub none_fine : (frames : List Frame) (m : NameMap Override) → pairs m ≡ [] → AreOverrides frames m
none_fine frames m e = record { each = subst (EachOverride (length frames)) (sym e) tt }

-- no part more
pub order_end : (frames : List Frame) (m : NameMap Override) (names : List (List ℕ)) (env : Env) (done whole : List spec.Override) (parts : List (Option Expr)) (n : ℕ) → length parts ≤ n
    → done ++ (overrides_by_order names n (map value (drop n parts)) env).overrides ≡ whole → AreSaid frames m done → AreSaid frames m whole
order_end frames m names env done whole parts n h e a =
    same_said frames m done whole
    (sym (append-nil done) ∙ sym (ap (λ xs. done ++ (overrides_by_order names n (map value xs) env).overrides) (none_left parts n h)) ∙ e) a
  where
    none_left : (xs : List (Option Expr)) (k : ℕ) → length xs ≤ k → drop k xs ≡ []
    none_left [] zero h = refl
    none_left [] (suc k) h = refl
    none_left (x ∷ xs) zero h = absurd (let no : ⊥ = omega (arith, h) in no)
    none_left (x ∷ xs) (suc k) h = none_left xs k (omega (arith, h))
