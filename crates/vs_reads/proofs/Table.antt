-- A table of lists, one of which grows.
use Rattle.std.proofs.Common.{◌≡◌, ℕ, suc, ◌<◌, refl, List, [], ◌∷◌, ◌++◌, sym, ap, ◌∙◌, subst, get_or, set, map, length}
use Rattle.std.proofs.lemmas.List.{map-set, get_or-map}
use Rattle.smallvec.specs.SmallVec.{SmallVec}

abbrev pub items_of : SmallVec ℕ → List ℕ
items_of v = v.items

pub list_grown : (vs : List (SmallVec ℕ)) (seen : List (List ℕ)) (bit p : ℕ) (old new : SmallVec ℕ) → map items_of vs ≡ seen → bit < length seen → old ≡ get_or vs bit old → new.items ≡ old.items ++ p ∷ []
    → map items_of (set vs bit new) ≡ set seen bit (get_or seen bit [] ++ p ∷ [])
list_grown vs seen bit p old new e l o n =
    map-set items_of vs bit new
    ∙ ap {B = List (List ℕ)} (λ xs. set xs bit new.items) e
    ∙ ap {B = List (List ℕ)} (λ xs. set seen bit xs) (n ∙ ap {B = List ℕ} (λ xs. xs ++ p ∷ []) (ap items_of o ∙ sym (get_or-map items_of vs bit old [] within) ∙ ap {B = List ℕ} (λ xs. get_or xs bit []) e))
  where
    same_length : (vs : List (SmallVec ℕ)) → length (map items_of vs) ≡ length vs
    same_length [] = refl
    same_length (v ∷ vs) = ap suc (same_length vs)

    within : bit < length vs
    within = subst (λ m. bit < m) (sym (ap {B = ℕ} length e) ∙ same_length vs) l
