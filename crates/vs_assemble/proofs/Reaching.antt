-- Which processes of an order some bits lead to, one by one.
use Rattle.std.proofs.Common.{◌≡◌, ℕ, ◌+◌, ◌<◌, ◌≤◌, Bool, true, false, List, [], ◌∷◌, ◌++◌, if◌then◌else◌, length, get_or, drop, drop_of_length-le, append_assoc, append-nil, sym, ap, ◌∙◌}
use Rattle.std.proofs.lemmas.List.{at_drop_more}
use Rattle.vs_design.specs.Designs.{Design}
use Rattle.vs_cone.specs.Cones.{writes_at, is_touched, cone}

-- a process that is touched, and one that isn't
pub taken : (d : Design) (now order so_far : List ℕ) (n : ℕ) → n < length order → is_touched d now (get_or order n 0) ≡ true
    → (so_far ++ get_or order n 0 ∷ []) ++ cone d (writes_at d (get_or order n 0) ++ now) (drop (n + 1) order) ≡ so_far ++ cone d now (drop n order)
taken d now order so_far n l e =
    let p : ℕ = get_or order n 0 in
    append_assoc so_far (p ∷ []) (cone d (writes_at d p ++ now) (drop (n + 1) order))
    ∙ ap (λ ps. so_far ++ ps) (sym (at_drop_more (cone d now) order n 0 l ∙ ap (λ (c : Bool). if c then (p ∷ cone d (writes_at d p ++ now) (drop (n + 1) order)) else cone d now (drop (n + 1) order)) e))

pub passed : (d : Design) (now order so_far : List ℕ) (n : ℕ) → n < length order → is_touched d now (get_or order n 0) ≡ false
    → so_far ++ cone d now (drop (n + 1) order) ≡ so_far ++ cone d now (drop n order)
passed d now order so_far n l e =
    let p : ℕ = get_or order n 0 in
    ap (λ ps. so_far ++ ps) (sym (at_drop_more (cone d now) order n 0 l ∙ ap (λ (c : Bool). if c then (p ∷ cone d (writes_at d p ++ now) (drop (n + 1) order)) else cone d now (drop (n + 1) order)) e))

pub cone_end : (d : Design) (now order so_far : List ℕ) (n : ℕ) → length order ≤ n → so_far ≡ so_far ++ cone d now (drop n order)
cone_end d now order so_far n l = sym (ap (λ ps. so_far ++ ps) (ap (cone d now) (drop_of_length-le order l)) ∙ append-nil so_far)
