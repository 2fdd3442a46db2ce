-- Slots that are placed one by one.
use Rattle.std.proofs.Common.{◌≡◌, ℕ, ◌+◌, ◌<◌, List, [], ◌∷◌, ◌++◌, map, length, take, set, slice_index, Option, Some, None, sym, ap, ◌∙◌, refl, arith, length-set}
use Rattle.std.specs.Prelude.{slice_index_or}
use Rattle.std.proofs.lemmas.List.{length-map, map-append, take_more, length-take}
use Rattle.vs_values.specs.Environments.{placed, put_at}

placed_step : (env : List ℕ) (ps : List (Option ℕ)) (to : List ℕ) (p : Option ℕ) (t : ℕ) → length ps ≡ length to → placed env (ps ++ p ∷ []) (to ++ t ∷ []) ≡ put_at (placed env ps to) p t
placed_step env [] [] None t l = refl
placed_step env [] [] (Some b) t l = refl
placed_step env [] (x ∷ to) p t l = absurd (omega arith)
placed_step env (q ∷ ps) [] p t l = absurd (omega arith)
placed_step env (None ∷ ps) (x ∷ to) p t l = placed_step env ps to p t (omega arith)
placed_step env (Some b ∷ ps) (x ∷ to) p t l = placed_step (set env b x) ps to p t (omega arith)

pub put_length : (env : List ℕ) (p : Option ℕ) (t : ℕ) → length (put_at env p t) ≡ length env
put_length env None t = refl
put_length env (Some b) t = length-set env b t

-- one place more
pub placed_next : (env now : List ℕ) (bit : Option ℕ → Option ℕ) (places : List (Option ℕ)) (value : List ℕ) (k : ℕ) → k < length places → length places ≡ length value
    → now ≡ placed env (map bit (take k places)) (take k value)
    → put_at now (bit (slice_index_or places k None)) (slice_index value k) ≡ placed env (map bit (take (k + 1) places)) (take (k + 1) value)
placed_next env now bit places value k l alike is =
    let p : Option ℕ = slice_index_or places k None in
    let t : ℕ = slice_index value k in
    let long : length (map bit (take k places)) ≡ length (take k value) = length-map (take k places) bit ∙ omega (arith, length-take k places, length-take k value, alike) in
    ap (λ (x : List ℕ). put_at x (bit p) t) is
    ∙ sym (placed_step env (map bit (take k places)) (take k value) (bit p) t long)
    ∙ ap (λ (ps : List (Option ℕ)). placed env ps (take k value ++ t ∷ [])) (sym (map-append bit (take k places) (p ∷ [])))
    ∙ ap (λ (ps : List (Option ℕ)). placed env (map bit ps) (take k value ++ t ∷ [])) (sym (take_more places k None l))
    ∙ ap (placed env (map bit (take (k + 1) places))) (sym (take_more value k 0 (omega (arith, l, alike))))
