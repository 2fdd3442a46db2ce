-- What is weighed of a design.
use Rattle.std.proofs.Common.{◌≡◌, ℕ, suc, List, [], ◌∷◌, length, map, Option, Some, None, refl, sym, ap, ap₂, ◌∙◌}
use Rattle.vs_design.specs.Designs.{Process}
use Rattle.vs_design.specs.Refusals.{WidthRefusal}
use Rattle.vs_flat.specs.DesignOf.{design_of}
use Rattle.vs_typed.specs.Refused.{first_refused}
use Rattle.vs_typed.specs.Weights.{told_weight}
use Rattle.vs_names.specs.Drawn.{Drawn, byte_of}
use Rattle.vs_explanation.specs.Heavy.{heavy_of, heaviest, paired}
use Rattle.vs_explainer.specs.Heavy.{unless_refused, weighed_in}

-- where something was found, nothing is refused
pub found_is : {A : Type 0} (r : Option WidthRefusal) (found all : A) → Some found ≡ unless_refused r all → (r ≡ None) × (found ≡ all)
found_is None found all h = let same : found ≡ all = cc in (refl, same)
found_is (Some refusal) found all h = absurd (let z : ⊥ = cc in z)

-- and where nothing was, nothing else is
pub none_found : {A B : Type 0} (r : Option WidthRefusal) (all : A) (other : B) → None ≡ unless_refused r all → None ≡ unless_refused r other
none_found None all other h = absurd (let z : ⊥ = cc in z)
none_found (Some refusal) all other h = refl

as_many : {X Y Z : Type 0} (f : X → Y) (g : X → Z) (xs : List X) → length (map f xs) ≡ length (map g xs)
as_many f g [] = refl
as_many f g (x ∷ xs) = ap (λ n. suc n) (as_many f g xs)

pub same_length : {X Y Z : Type 0} (f : X → Y) (g : X → Z) (xs : List X) (ys : List Y) (zs : List Z) → ys ≡ map f xs → zs ≡ map g xs → length ys ≡ length zs
same_length f g xs ys zs e h = ap length e ∙ as_many f g xs ∙ sym (ap length h)

each_pair : (d : Drawn) (ps : List Process) → paired (map (byte_of d) ps) (map told_weight ps) ≡ map (heavy_of d) ps
each_pair d [] = refl
each_pair d (p ∷ ps) = ap (λ hs. heavy_of d p ∷ hs) (each_pair d ps)

-- the heaviest of a design of which nothing is refused
pub heaviest_is : (d : Drawn) (bytes : List (Option ℕ)) (weights : List ℕ) → bytes ≡ map (byte_of d) (design_of d.flat).processes → weights ≡ map told_weight (design_of d.flat).processes
    → first_refused (design_of d.flat) ≡ None → Some (heaviest (paired bytes weights)) ≡ weighed_in d
heaviest_is d bytes weights e h none =
    let ps = (design_of d.flat).processes in
    ap Some (ap heaviest (ap₂ (λ (bs : List (Option ℕ)) (ws : List ℕ). paired bs ws) e h ∙ each_pair d ps)) ∙ sym (ap (λ (r : Option WidthRefusal). unless_refused r (heaviest (map (heavy_of d) ps))) none)
