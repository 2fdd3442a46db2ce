use Rattle.std.proofs.Common.{◌≡◌, ℕ, ◌-◌, List, [], ◌∷◌, map, length, get_or, slice_get, Some, refl, sym, ap, ◌∙◌, subst, arith}
use Rattle.std.proofs.lemmas.List.{get_or-map, length-map}
use Rattle.std.proofs.lemmas.Option.{get_or_from_slice_get}
use Rattle.vs_four.specs.declared.Bit4.{Bit4}
use Rattle.vs_four.specs.declared.Bit4.TheVariants.{Zero, X}
use Rattle.vs_four.specs.Lengths.{last_or}
use Rattle.vs_plane.specs.Lanes.{slot_lane}
use Rattle.vs_kern_select.proofs.shifts.top_bit.Goals as goal

last_at : {A : Type 0} (d e x : A) (xs : List A) → last_or d (x ∷ xs) ≡ get_or (x ∷ xs) (length xs) e
last_at d e x [] = refl
last_at d e x (y ∷ ys) = last_at x e y ys

last_of : (f : ℕ → Bit4) (xs : List ℕ) (slot : ℕ) → slice_get xs (length xs - 1) ≡ Some slot → f slot ≡ last_or Zero (map f xs)
last_of f [] slot h = cc
last_of f (x ∷ xs) slot h =
    let top : length (x ∷ xs) - 1 ≡ length xs = omega arith in
    let found : get_or (x ∷ xs) (length xs) 0 ≡ slot = get_or_from_slice_get (x ∷ xs) (length xs) slot 0 (subst (λ (n : ℕ). slice_get (x ∷ xs) n ≡ Some slot) top h) in
    sym (last_at Zero X (f x) (map f xs)
    ∙ ap (λ (n : ℕ). get_or (map f (x ∷ xs)) n X) (length-map xs f)
    ∙ get_or-map f (x ∷ xs) (length xs) 0 X (omega arith)
    ∙ ap f found)

pub returns-in-Some : goal.returns-in-Some
returns-in-Some g c = λ i h.
    c.load.ensures.lanes i
    ∙ last_of (λ slot. slot_lane g.W.Word.lane c.args.file.now slot i) c.args.a.now c.in-Some.slot.now (sym c.in-Some.ensures.value)
