-- The faults of overrides.
use Rattle.std.proofs.Common.{◌≡◌, ℕ, suc, Bool, true, false, not, ◌||◌, List, [], ◌∷◌, ◌++◌, map, flat_map, Option, Some, None, if◌then◌else◌, refl, sym, ap, ◌∙◌}
use Rattle.std.specs.Prelude.{is_some, slice_get}
use Rattle.std.specs.List.{list_any}
use Rattle.vs_design.specs.Clocks.{same_name}
use Rattle.vs_grammar.specs.Trees as tree
use Rattle.vs_grammar.specs.Trees.{Name}
use Rattle.vs_grammar.specs.Shapes.{Each, Given, OneOrMore, AreOrdered, IsExpr}
use Rattle.vs_const.specs.Faults.{fault, fault_if}
use Rattle.vs_const.specs.declared.rules.Rule.TheVariants.{DuplicateName, UnknownPort}
use Rattle.vs_elaborated.specs.Environments.{Env}
use Rattle.vs_elaborated.specs.Ports.{overridable, is_named}
use Rattle.vs_elaborated.specs.Instances.{Overrides, and_override, overrides_by_order, overrides_by_name, connected_names, is_overridable}
use Rattle.vs_maps.specs.Maps.{value_at}
use Rattle.vs_maps.specs.MapViews.{pairs}
use Rattle.vs_scope.proofs.Entries.{same_is}
use Rattle.vs_scope.proofs.NamedLists.{same_self}
use Rattle.vs_items.specs.declared.interfaces.Interface.{Interface}
use Rattle.vs_items.specs.Ports.{name_only}
use Rattle.vs_items.specs.Interfaces.{IsKnown}
use Rattle.vs_items.specs.Values.{value_faults, named_faults}

-- parts in their order
pub ordered_each : (parts : List (Option tree.Expr)) → AreOrdered parts → Each (Given IsExpr) parts
ordered_each [] h = absurd h
ordered_each (None ∷ []) h = absurd h
ordered_each (None ∷ (p ∷ ps)) h = h
ordered_each (Some e ∷ []) h = h
ordered_each (Some e ∷ (p ∷ ps)) h = h

pub more_each : {A : Type 0} (P : A → Type 0) (xs : List A) → OneOrMore P xs → Each P xs
more_each P [] h = absurd h
more_each P (x ∷ xs) h = h

override_faults : (name : Option (List ℕ)) (e : Option tree.Expr) (env : Env) (others : Overrides) → (and_override name e env others).faults ≡ value_faults env true e ++ others.faults
override_faults name None env others = refl
override_faults None (Some e) env others = refl
override_faults (Some name) (Some e) env others = refl

pub ordered_faults : (names : List (List ℕ)) (n : ℕ) (es : List (Option tree.Expr)) (env : Env) → (overrides_by_order names n es env).faults ≡ flat_map (value_faults env true) es
ordered_faults names n [] env = refl
ordered_faults names n (e ∷ es) env =
    override_faults (slice_get names n) e env (overrides_by_order names (suc n) es env) ∙ ap (λ fs. value_faults env true e ++ fs) (ordered_faults names (suc n) es env)

pub named_override_faults : (cs : List tree.NamedConnection) (env : Env) → (overrides_by_name cs env).faults ≡ flat_map (named_faults env true) cs
named_override_faults [] env = refl
named_override_faults (c ∷ cs) env =
    override_faults (Some c.name.bytes) c.e env (overrides_by_name cs env) ∙ ap (λ fs. value_faults env true c.e ++ fs) (named_override_faults cs env)

-- tests that are equal at each name
pub names_alike : (p q : List ℕ → Bool) → ((name : List ℕ) → p name ≡ q name) → (seen : List Name) (cs : List tree.NamedConnection) → connected_names p seen cs ≡ connected_names q seen cs
names_alike p q h seen [] = refl
names_alike p q h seen (c ∷ cs) =
    ap (λ b. (if is_named c.name.bytes seen then fault DuplicateName c.name.place else fault_if (not b) UnknownPort c.name.place) ++ connected_names p (c.name ∷ seen) cs) (h c.name.bytes)
    ∙ ap (λ fs. (if is_named c.name.bytes seen then fault DuplicateName c.name.place else fault_if (not (q c.name.bytes)) UnknownPort c.name.place) ++ fs) (names_alike p q h (c.name ∷ seen) cs)

pub same_swapped : (a b : List ℕ) → same_name a b ≡ same_name b a
same_swapped a b = by (same_name a b) refl (same_name b a) refl
  where
    by : (p : Bool) → same_name a b ≡ p → (q : Bool) → same_name b a ≡ q → p ≡ q
    by true e true f = refl
    by false e false f = refl
    by true e false f = sym (sym f ∙ ap (λ x. same_name b x) (same_is a b e) ∙ same_self b)
    by false e true f = sym e ∙ ap (λ x. same_name a x) (same_is b a f) ∙ same_self a

-- whether a set of names has one
pub in_names : (names : List (List ℕ)) (name : List ℕ) → is_some (value_at name (map name_only names)) ≡ list_any (same_name name) names
in_names [] name = refl
in_names (n ∷ names) name = by (same_name n name) (same_name name n) (same_swapped n name) (in_names names name)
  where
    by : (p q : Bool) → p ≡ q → is_some (value_at name (map name_only names)) ≡ list_any (same_name name) names
        → is_some (if p then Some tt else value_at name (map name_only names)) ≡ (q || list_any (same_name name) names)
    by true true e r = refl
    by false false e r = r
    by true false e r = cc
    by false true e r = cc

-- whether a name is known of a module
pub parameter_known : (i : Interface) (m : Option tree.Module) → IsKnown (Some (record { ref_ptr = (0, 0); now = i })) m → (name : List ℕ) → is_some (value_at name (pairs i.names)) ≡ is_overridable m name
parameter_known i None h name = absurd h
parameter_known i (Some m) h name = ap is_some (h.names.each name) ∙ in_names (overridable m) name
