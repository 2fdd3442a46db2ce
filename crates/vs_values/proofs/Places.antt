-- Selects by constant indices.
use Rattle.std.proofs.Common.{◌≡◌, ℕ, ◌+◌, ◌<◌, List, [], ◌∷◌, ◌++◌, map, length, take, Option, None, sym, ap, ◌∙◌}
use Rattle.std.specs.Prelude.{slice_index_or}
use Rattle.std.proofs.lemmas.List.{map-append, take_more}
use Rattle.vs_four.specs.Selects.{at_place}

-- one place more
pub taken_more : (from : List ℕ) (places : List (Option ℕ)) (k x : ℕ) (to : List ℕ) → k < length places → to ≡ map (at_place 2 from) (take k places) → x ≡ at_place 2 from (slice_index_or places k None)
    → to ++ x ∷ [] ≡ map (at_place 2 from) (take (k + 1) places)
taken_more from places k x to l h e =
    let f : Option ℕ → ℕ = at_place 2 from in
    ap (λ (ys : List ℕ). ys ++ x ∷ []) h
    ∙ ap (λ (y : ℕ). map f (take k places) ++ y ∷ []) e
    ∙ sym (map-append f (take k places) (slice_index_or places k None ∷ []))
    ∙ ap (map f) (sym (take_more places k None l))
