-- A map whose keys are places, as a list of places with values.
use Rattle.std.proofs.Common.{◌≡◌, ℕ, Bool, true, false, ◌==◌, List, [], ◌∷◌, ◌++◌, Option, Some, None, is_some, map, cond, if◌then◌else◌, refl, sym, ap, ◌∙◌, arith}
use Rattle.std.proofs.lemmas.Bool.{eqb-true}
use Rattle.std.specs.Map.{lookup}
use Rattle.indexmap.specs.IndexMap.{insert_entry}
use Rattle.vs_maps.specs.Places.{Placed, found_at, or_at}

eqb_sym : (m n : ℕ) → (m == n) ≡ (n == m)
eqb_sym m n = grind arith

module _ {V : Type 0} where
  abbrev pub placed_of : ℕ × V → Placed V
  placed_of e = record { place = e.0; value = e.1 }

  pub found_of_lookup : (place : ℕ) (es : List (ℕ × V)) → lookup (λ k. place == k) es ≡ found_at place (map placed_of es)
  found_of_lookup place [] = refl
  found_of_lookup place (e ∷ es) = ap (λ b. cond b (Some e.1) (lookup (λ k. place == k) es)) (eqb_sym place e.0) ∙ ap (λ r. cond (e.0 == place) (Some e.1) r) (found_of_lookup place es)

  -- a new place comes last
  pub found_of_insert : (other place : ℕ) (value : V) (es : List (ℕ × V)) → found_at place (map placed_of es) ≡ None
      → found_at other (map placed_of (insert_entry (λ j k. j == k) es place value)) ≡ or_at other (found_at other (map placed_of es)) place value
  found_of_insert other place value [] h = refl
  found_of_insert other place value (e ∷ es) h = by (e.0 == place) (place == e.0) (eqb_sym place e.0) refl h (found_of_insert other place value es)
    where
      found : (b : Bool) (v : V) (o r : Option V) → o ≡ or_at other r place value → (if b then Some v else o) ≡ or_at other (if b then Some v else r) place value
      found true v o r k = refl
      found false v o r k = k

      by : (b c : Bool) → c ≡ b → (e.0 == place) ≡ b → (if b then Some e.1 else found_at place (map placed_of es)) ≡ None
          → (found_at place (map placed_of es) ≡ None → found_at other (map placed_of (insert_entry (λ j k. j == k) es place value)) ≡ or_at other (found_at other (map placed_of es)) place value)
          → found_at other (map placed_of (cond c ((e.0, value) ∷ es) (e ∷ insert_entry (λ j k. j == k) es place value))) ≡ or_at other (if e.0 == other then Some e.1 else found_at other (map placed_of es)) place value
      by true c same is k rest = cc
      by false true same is k rest = cc
      by false false same is k rest = found (e.0 == other) e.1 (found_at other (map placed_of (insert_entry (λ j k. j == k) es place value))) (found_at other (map placed_of es)) (rest k)

  there : (other place : ℕ) (value : V) (o : Option V) → (place ≡ other → is_some o ≡ true) → o ≡ or_at other o place value
  there other place value (Some v) h = refl
  there other place value None h = by (place == other) refl
    where
      by : (b : Bool) → (place == other) ≡ b → None ≡ (if b then Some value else None)
      by true e = let bad : false ≡ true = h (eqb-true place other e) in cc
      by false e = refl

  -- and one that is there stays
  pub found_again : (other place : ℕ) (value : V) (ps : List (Placed V)) → is_some (found_at place ps) ≡ true → found_at other ps ≡ or_at other (found_at other ps) place value
  found_again other place value ps h = there other place value (found_at other ps) (λ e. ap (λ (p : ℕ). is_some (found_at p ps)) (sym e) ∙ h)
