-- One more name of a map.
use Rattle.std.proofs.Common.{◌≡◌, ℕ, Bool, true, false, ◌&&◌, ◌||◌, ◌==◌, List, [], ◌∷◌, is_some, Option, Some, None, if◌then◌else◌, refl, ap, ◌∙◌}
use Rattle.vs_design.specs.Clocks.{same_name}
use Rattle.vs_maps.specs.Maps.{Pair, value_at, with_value}
use Rattle.std.proofs.lemmas.Bool.{eqb-true}

both_true : (a b : Bool) → (a && b) ≡ true → (a ≡ true) × (b ≡ true)
both_true true b h = (refl, h)
both_true false b h = cc

-- equal names are the same
pub same_is : (a b : List ℕ) → same_name a b ≡ true → a ≡ b
same_is [] [] h = refl
same_is [] (y ∷ ys) h = cc
same_is (x ∷ xs) [] h = cc
same_is (x ∷ xs) (y ∷ ys) h = let k = both_true (x == y) (same_name xs ys) h in let e : x ≡ y = eqb-true x y k.0 in let t : xs ≡ ys = same_is xs ys k.1 in cc

here : {V : Type 0} (u : Bool) (v w : V) (r : Option V) → is_some (if u then Some v else r) ≡ (u || is_some (if u then Some w else r))
here true v w r = refl
here false v w r = refl

there : {V : Type 0} (u k : Bool) (v : V) (r s : Option V) → is_some s ≡ (k || is_some r) → is_some (if u then Some v else s) ≡ (k || is_some (if u then Some v else r))
there true true v r s h = refl
there true false v r s h = refl
there false k v r s h = h

pub some_more : {V : Type 0} (key name : List ℕ) (v : V) (ps : List (Pair V)) → is_some (value_at name (with_value key v ps)) ≡ (same_name key name || is_some (value_at name ps))
some_more key name v [] = by (same_name key name)
  where
    by : (u : Bool) → is_some (if u then Some v else None) ≡ (u || false)
    by true = refl
    by false = refl
some_more {V} key name v (p ∷ ps) = by (same_name p.name key) refl (some_more key name v ps)
  where
    by : (t : Bool) → same_name p.name key ≡ t → is_some (value_at name (with_value key v ps)) ≡ (same_name key name || is_some (value_at name ps))
        → is_some (value_at name (if t then (let q : Pair V = record { name = p.name; value = v } in q) ∷ ps else p ∷ with_value key v ps))
        ≡ (same_name key name || is_some (if same_name p.name name then Some p.value else value_at name ps))
    by true e rest = here (same_name p.name name) v p.value (value_at name ps) ∙ ap (λ (n : List ℕ). same_name n name || is_some (if same_name p.name name then Some p.value else value_at name ps)) (same_is p.name key e)
    by false e rest = there (same_name p.name name) (same_name key name) p.value (value_at name ps) (value_at name (with_value key v ps)) rest
