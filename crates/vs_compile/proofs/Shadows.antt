-- A table of slots, by bit.
use Rattle.std.proofs.Common.{◌≡◌, ℕ, ◌+◌, ◌<◌, Bool, true, false, ◌||◌, ◌==◌, List, [], ◌∷◌, length, get_or, take, slice_set, sym, ap, ◌∙◌, refl, eqb-true, eq-eqb}
use Rattle.std.proofs.lemmas.List.{take_more, get_or-set_same, get_or-set_other}
use Rattle.vs_design.specs.Cycles.{AreApart}
use Rattle.vs_design.specs.Footprints.{contains}
use Rattle.vs_program.specs.Lowered.{home}
use Rattle.vs_program.specs.Layouts.{place_of}
use Rattle.vs_compile.proofs.Lists.{by_test, contains-append, place_at}

-- the shadows of the first registers are there
abbrev pub HaveFirst : ℕ → List ℕ → List ℕ → ℕ → Type 0
HaveFirst count registers shadows n = (b : ℕ) → contains (take n registers) b ≡ true → get_or shadows b 0 ≡ home count + place_of registers b

pub one_more : (count : ℕ) (registers shadows : List ℕ) (n : ℕ) → n < length registers → AreApart registers → get_or registers n 0 < length shadows
    → HaveFirst count registers shadows n → HaveFirst count registers (slice_set shadows (get_or registers n 0) (4 + count + n)) (n + 1)
one_more count registers shadows n l apart below before = λ b h.
    let bit : ℕ = get_or registers n 0 in
    let set = slice_set shadows bit (4 + count + n) in
    by_test (b == bit)
    (λ e.
    let same : b ≡ bit = eqb-true b bit e in
    ap (λ k. get_or set k 0) same ∙ get_or-set_same shadows bit (4 + count + n) 0 below
    ∙ sym (ap (λ k. home count + place_of registers k) same ∙ ap (λ k. home count + k) (place_at registers n apart l)))
    (λ e.
    get_or-set_other shadows bit b (4 + count + n) 0 (λ k. let z : (b == bit) ≡ true = eq-eqb b bit k in cc)
    ∙ before b (sym (or_false (contains (take n registers) b)) ∙ sym (shape b e) ∙ h))
  where
    or_false : (u : Bool) → (u || false) ≡ u
    or_false true = refl
    or_false false = refl

    shape : (b : ℕ) → (b == get_or registers n 0) ≡ false → contains (take (n + 1) registers) b ≡ (contains (take n registers) b || false)
    shape b e = ap (λ xs. contains xs b) (take_more registers n 0 l)
        ∙ contains-append (take n registers) (get_or registers n 0 ∷ []) b
        ∙ ap (λ c. contains (take n registers) b || (c || false)) e
