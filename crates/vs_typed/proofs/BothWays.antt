-- Bits that two lists have.
use Rattle.std.proofs.Common.{◌≡◌, ℕ, true, if◌then◌else◌, List, [], ◌∷◌, ◌++◌, length, refl, sym, ap, ◌∙◌, arith, append-nil, eqb-true}
use Rattle.std.specs.Prelude.{filter, ◌==◌}
use Rattle.vs_design.specs.Footprints.{contains}

none_shared : (bits : List ℕ) → filter (contains []) bits ≡ []
none_shared [] = refl
none_shared (b ∷ bits) = none_shared bits

pub none_in : (some : List ℕ) → (length some == 0) ≡ true → some ≡ []
none_in [] h = refl
none_in (b ∷ some) h = absurd (omega (arith, eqb-true (length (b ∷ some)) 0 h))

-- where the first list has none
pub none_added : (out some bits : List ℕ) → some ≡ [] → out ≡ out ++ filter (contains some) bits
none_added out some bits h = sym (append-nil out) ∙ ap (λ bs. out ++ bs) (sym (ap (λ xs. filter (contains xs) bits) h ∙ none_shared bits))

-- the order of the first list doesn't matter
pub shared_same : (some other bits : List ℕ) → ((b : ℕ) → contains some b ≡ contains other b) → filter (contains some) bits ≡ filter (contains other) bits
shared_same some other [] h = refl
shared_same some other (b ∷ bits) h =
    ap (λ k. if k then (b ∷ filter (contains some) bits) else filter (contains some) bits) (h b)
    ∙ ap (λ bs. if contains other b then (b ∷ bs) else bs) (shared_same some other bits h)
