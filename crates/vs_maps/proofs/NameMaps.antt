-- A map whose keys are references to names, as a list of names with values.
use Rattle.std.proofs.Common.{◌≡◌, ℕ, Bool, true, false, ◌&&◌, ◌==◌, List, [], ◌∷◌, Some, map, length, suc, cond, refl, sym, ap, ◌∙◌, arith}
use Rattle.std.specs.Cmp.Lexicographic.{pointwise}
use Rattle.std.specs.List.{IsDistinct, AllByRecursion}
use Rattle.std.specs.Map.{keys_of, lookup}
use Rattle.indexmap.specs.IndexMap.{insert_entry}
use Rattle.vs_design.specs.Clocks.{same_name}
use Rattle.vs_maps.specs.Maps.{Pair, value_at, values_of, with_value, IsNew, AreDistinct}

eqb_sym : (m n : ℕ) → (m == n) ≡ (n == m)
eqb_sym m n = grind arith

-- the kit's test of two names is that of the definitions
pub same_of : (a b : List ℕ) → pointwise (λ m n. m == n) a b ≡ same_name b a
same_of [] [] = refl
same_of [] (y ∷ ys) = refl
same_of (x ∷ xs) [] = refl
same_of (x ∷ xs) (y ∷ ys) = ap (λ r. (x == y) && r) (same_of xs ys) ∙ ap (λ r. r && same_name ys xs) (eqb_sym x y)

module _ {K V : Type 0} (name_of : K → List ℕ) where
  -- a key with its value
  abbrev pub pair_of : K × V → Pair V
  pair_of e = record { name = name_of e.0; value = e.1 }

  pub value_of_lookup : (name : List ℕ) (es : List (K × V)) → lookup (λ k. pointwise (λ m n. m == n) name (name_of k)) es ≡ value_at name (map pair_of es)
  value_of_lookup name [] = refl
  value_of_lookup name (e ∷ es) = ap (λ b. cond b (Some e.1) (lookup (λ k. pointwise (λ m n. m == n) name (name_of k)) es)) (same_of name (name_of e.0)) ∙ ap (λ r. cond (same_name (name_of e.0) name) (Some e.1) r) (value_of_lookup name es)

  pub with_value_of_insert : (key : K) (value : V) (es : List (K × V)) → map pair_of (insert_entry (λ j k. pointwise (λ m n. m == n) (name_of j) (name_of k)) es key value) ≡ with_value (name_of key) value (map pair_of es)
  with_value_of_insert key value [] = refl
  with_value_of_insert key value (e ∷ es) = by (pointwise (λ m n. m == n) (name_of key) (name_of e.0)) (same_name (name_of e.0) (name_of key)) (same_of (name_of key) (name_of e.0)) (with_value_of_insert key value es)
    where
      by : (b c : Bool) → b ≡ c → map pair_of (insert_entry (λ j k. pointwise (λ m n. m == n) (name_of j) (name_of k)) es key value) ≡ with_value (name_of key) value (map pair_of es)
          → map pair_of (cond b ((e.0, value) ∷ es) (e ∷ insert_entry (λ j k. pointwise (λ m n. m == n) (name_of j) (name_of k)) es key value))
          ≡ cond c ((let p : Pair V = record { name = name_of e.0; value = value } in p) ∷ map pair_of es) (pair_of e ∷ with_value (name_of key) value (map pair_of es))
      by true true same rest = refl
      by true false same rest = cc
      by false true same rest = cc
      by false false same rest = ap (λ r. pair_of e ∷ r) rest

  new_of_apart : (name : List ℕ) (es : List (K × V)) → AllByRecursion (λ k. pointwise (λ m n. m == n) name (name_of k) ≡ false) (keys_of es) → IsNew name (map pair_of es)
  new_of_apart name [] h = tt
  new_of_apart name (e ∷ es) h = (sym (same_of name (name_of e.0)) ∙ h.0, new_of_apart name es h.1)

  pub distinct_of : (es : List (K × V)) → IsDistinct (λ j k. pointwise (λ m n. m == n) (name_of j) (name_of k)) (keys_of es) → AreDistinct (map pair_of es)
  unfolding IsDistinct
  distinct_of [] h = tt
  distinct_of (e ∷ es) h = (new_of_apart (name_of e.0) es h.0, distinct_of es h.1)

  pub values_are : (es : List (K × V)) → values_of (map pair_of es) ≡ map (λ e. e.1) es
  values_are [] = refl
  values_are (e ∷ es) = ap (λ r. e.1 ∷ r) (values_are es)

  pub length_is : (es : List (K × V)) → length (map pair_of es) ≡ length es
  length_is [] = refl
  length_is (e ∷ es) = ap suc (length_is es)
