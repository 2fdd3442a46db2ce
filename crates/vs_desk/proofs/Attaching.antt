-- Places that are attached one behind the other.
use Rattle.std.proofs.Common.{◌≡◌, ◌⊎◌, ℕ, zero, suc, ◌+◌, ◌<◌, ◌≤◌, List, [], ◌∷◌, ◌++◌, length, get_or, inl, inr, refl, ap, ◌∙◌, arith}
use Rattle.std.specs.Prelude.{Some}
use Rattle.std.proofs.lemmas.Bool.{ne_eqb, eq-eqb}
use Rattle.vs_desk.specs.declared.desk.Way.{Way}
use Rattle.vs_desk.specs.Desk.{Register, with_place}
use Rattle.vs_desk.specs.Places.{with_places}
use Rattle.vs_desk.specs.Laws.{IsQuiet}

with_place-other : (r : Register) (place : ℕ) (way : Way) (path : List ℕ) (p : ℕ) → (p ≡ place → ⊥) → (with_place r place way path).attached p ≡ r.attached p
with_place-other r place way path p ne = rw (ne_eqb p place ne)

with_place-same : (r : Register) (place : ℕ) (way : Way) (path : List ℕ) (p : ℕ) → p ≡ place → (with_place r place way path).attached p ≡ Some (record { way = way; path = path })
with_place-same r place way path p e = rw (eq-eqb p place e)

pub with_places-other : (r : Register) (first : ℕ) (way : Way) (paths : List (List ℕ)) (p : ℕ) → (p < first) ⊎ (first + length paths ≤ p) → (with_places r first way paths).attached p ≡ r.attached p
with_places-other r first way [] p h = refl
with_places-other r first way (path ∷ paths) p (inl before) =
    with_places-other (with_place r first way path) (suc first) way paths p (inl (omega arith)) ∙ with_place-other r first way path p (λ e. omega arith)
with_places-other r first way (path ∷ paths) p (inr behind) =
    with_places-other (with_place r first way path) (suc first) way paths p (inr (omega arith)) ∙ with_place-other r first way path p (λ e. omega arith)

pub with_places-at : (r : Register) (first : ℕ) (way : Way) (paths : List (List ℕ)) (i : ℕ) → i < length paths
    → (with_places r first way paths).attached (first + i) ≡ Some (record { way = way; path = get_or paths i [] })
with_places-at r first way [] i h = absurd (omega arith)
with_places-at r first way (path ∷ paths) zero h =
    with_places-other (with_place r first way path) (suc first) way paths (first + 0) (inl (omega arith)) ∙ with_place-same r first way path (first + 0) (omega arith)
with_places-at r first way (path ∷ paths) (suc i) h =
    let e : first + suc i ≡ suc first + i = omega arith in
    rw e (with_places-at (with_place r first way path) (suc first) way paths i (omega arith))

pub with_places-next : (r : Register) (first : ℕ) (way : Way) (paths : List (List ℕ)) (path : List ℕ)
    → with_places r first way (paths ++ path ∷ []) ≡ with_place (with_places r first way paths) (first + length paths) way path
with_places-next r first way [] path = ap (λ place. with_place r place way path) (omega arith)
with_places-next r first way (p ∷ paths) path =
    with_places-next (with_place r first way p) (suc first) way paths path
    ∙ ap (λ place. with_place (with_places (with_place r first way p) (suc first) way paths) place way path) (omega arith)

pub with_places-quiet : (r : Register) (first : ℕ) (way : Way) (paths : List (List ℕ)) → IsQuiet r (with_places r first way paths)
with_places-quiet r first way [] = record { faults = refl; losses = refl; failed = refl; asked = refl }
with_places-quiet r first way (path ∷ paths) =
    let later = with_places-quiet (with_place r first way path) (suc first) way paths in
    record { faults = later.faults; losses = later.losses; failed = later.failed; asked = later.asked }
