-- The first values of names, and one more behind them.
use Rattle.std.proofs.Common.{◌≡◌, ℕ, Bool, true, false, List, [], ◌∷◌, ◌++◌, Option, Some, None, option_map, if◌then◌else◌, refl, sym, ap, ◌∙◌, subst}
use Rattle.std.specs.Prelude.{is_some}
use Rattle.vs_design.specs.Clocks.{same_name}
use Rattle.vs_maps.specs.Maps.{Pair, value_at, with_value}
use Rattle.vs_scope.proofs.Entries.{same_is}
use Rattle.vs_items.specs.Noted.{AreFirst, named}

or_else : {V : Type 0} (found : Bool) (x : V) (a b c : Option V) → a ≡ (if is_some b then b else c)
    → (if found then Some x else a) ≡ (if is_some (if found then Some x else b) then (if found then Some x else b) else c)
or_else true x a b c h = refl
or_else false x a b c h = h

-- what a list has with one more behind
pub value_behind : {V : Type 0} (ps : List (Pair V)) (p : Pair V) (name : List ℕ)
    → value_at name (ps ++ p ∷ []) ≡ (if is_some (value_at name ps) then value_at name ps else (if same_name p.name name then Some p.value else None))
value_behind [] p name = refl
value_behind (q ∷ ps) p name =
    or_else (same_name q.name name) q.value (value_at name (ps ++ p ∷ [])) (value_at name ps) (if same_name p.name name then Some p.value else None) (value_behind ps p name)

-- what a map has with a new name
value_more : {V : Type 0} (key name : List ℕ) (v : V) (ps : List (Pair V)) → value_at key ps ≡ None
    → value_at name (with_value key v ps) ≡ (if is_some (value_at name ps) then value_at name ps else (if same_name key name then Some v else None))
value_more key name v [] new = refl
value_more {V} key name v (p ∷ ps) new = by (same_name p.name key) new (value_more key name v ps)
  where
    by : (here : Bool) → (if here then Some p.value else value_at key ps) ≡ None
        → (value_at key ps ≡ None → value_at name (with_value key v ps) ≡ (if is_some (value_at name ps) then value_at name ps else (if same_name key name then Some v else None)))
        → value_at name (if here then (let q : Pair V = record { name = p.name; value = v } in q) ∷ ps else p ∷ with_value key v ps)
        ≡ (if is_some (if same_name p.name name then Some p.value else value_at name ps) then (if same_name p.name name then Some p.value else value_at name ps) else (if same_name key name then Some v else None))
    by true n rest = cc
    by false n rest = or_else (same_name p.name name) p.value (value_at name (with_value key v ps)) (value_at name ps) (if same_name key name then Some v else None) (rest n)

-- a new name
pub first_more : {V : Type 0} (ps all : List (Pair V)) (key : List ℕ) (v : V) → AreFirst ps all → value_at key ps ≡ None → AreFirst (with_value key v ps) (all ++ named key v ∷ [])
first_more ps all key v first new = record {
  each = λ name.
      value_more key name v ps new
      ∙ ap (λ o. if is_some o then o else (if same_name key name then Some v else None)) (first.each name)
      ∙ sym (value_behind all (named key v) name);
}

some_is_none : {V : Type 0} (o : Option V) → is_some o ≡ true → o ≡ None → ⊥
some_is_none None h k = cc
some_is_none (Some x) h k = cc

-- a name that had a value
pub first_again : {V : Type 0} (ps all : List (Pair V)) (key : List ℕ) (v : V) → AreFirst ps all → is_some (value_at key ps) ≡ true → AreFirst ps (all ++ named key v ∷ [])
first_again ps all key v first had = record {
  each = λ name. first.each name ∙ by name (value_at name all) refl (same_name key name) refl ∙ sym (value_behind all (named key v) name);
}
  where
    by : (name : List ℕ) (o : Option _) → value_at name all ≡ o → (same : Bool) → same_name key name ≡ same → o ≡ (if is_some o then o else (if same then Some v else None))
    by name (Some x) is same e = refl
    by name None is false e = refl
    by name None is true e = absurd (some_is_none (value_at key ps) had (first.each key ∙ ap (λ n. value_at n all) (same_is key name e) ∙ is))

-- what a look-up tells, with a reference in place of the value
pub copied_some : {R V : Type 0} (now : R → V) (r : Option R) (o : Option V) → option_map now r ≡ o → is_some r ≡ true → is_some o ≡ true
copied_some now None o e h = cc
copied_some now (Some x) o e h = subst (λ z. is_some z ≡ true) e refl

pub copied_none : {R V : Type 0} (now : R → V) (r : Option R) (o : Option V) → option_map now r ≡ o → is_some r ≡ false → o ≡ None
copied_none now None o e h = sym e
copied_none now (Some x) o e h = cc
