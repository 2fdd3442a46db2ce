-- What is behind the inputs' fields, field by field.
use Rattle.std.proofs.Common.{◌≡◌, ◌≢◌, ℕ, zero, suc, ◌+◌, ◌<◌, ◌≤◌, Bool, true, false, nat_eq, List, [], ◌∷◌, ◌++◌, length, drop, get_or, refl, sym, ap, ◌∙◌, arith, add-zero, ◌⊎◌, inl, inr}
use Rattle.std.proofs.lemmas.List.{append-nil, length-drop}
use Rattle.std.proofs.lemmas.Bool.Decides.{eqb_tells}
use Rattle.std.proofs.Math.ListN.{get_or-map}
use Rattle.std.proofs.Math.Seq.{map-set_same}
use Rattle.std.specs.Prelude.{Option, Some, None, slice_set, slice_index}
use Rattle.vs_stim.specs.declared.input.Expected.{Expected}
use Rattle.vs_stim.specs.declared.wanted.Digit.{Digit}
use Rattle.vs_stim.specs.Fields.{Fields, is_blank, words, all_fields, fields}
use Rattle.vs_stim.specs.Reading.{Said}
use Rattle.vs_stim.specs.Reading.Said.{Malformed, Given}
use Rattle.vs_stim.specs.Vectors.{wanted_of}
use Rattle.vs_stim.specs.Wanted.{Wanteds, wanted_sizes}
use Rattle.vs_stim.specs.Wants.{wanted_to_come, in_wanted, expected_lengths, if_whole}

-- a byte that is no blank begins a field
pub fields_begin : (b : ℕ) (bs : List ℕ) → is_blank b ≡ false → fields (b ∷ bs) ≡ ((b ∷ (words bs).word) ∷ (words bs).later)
fields_begin b bs h = ap all (ap of h)
  where
    of : Bool → Fields
    of z = elim z as (λ _. Fields) [ true ↦ record { word = []; later = all_fields (words bs).word (words bs).later } | false ↦ record { word = b ∷ (words bs).word; later = (words bs).later } ]

    all : Fields → List (List ℕ)
    all t = all_fields t.word t.later

-- a field that has begun without digits is one that is still to come
pub begun : (es : List Expected) (n : ℕ) (stored : Wanteds) (f : List ℕ) (fs : List (List ℕ)) → in_wanted es [] n stored (record { word = f; later = fs }) ≡ wanted_to_come es n stored (f ∷ fs)
begun [] n stored f fs = refl
begun (e ∷ es) n stored f fs =
    ap (λ m. elim (nat_eq m e.length) as (λ _. Said Wanteds) [
      | false ↦ Malformed
      | true ↦ elim (wanted_of f) as (λ _. Said Wanteds) [ None ↦ Malformed | Some ds ↦ wanted_to_come es (n + 1) (slice_set stored n (ds ++ [])) fs ]
    ]) (add-zero (length f))
    ∙ go (nat_eq (length f) e.length) (wanted_of f)
  where
    go : (b : Bool) (o : Option (List Digit))
        → (elim b as (λ _. Said Wanteds) [
          | false ↦ Malformed
          | true ↦ elim o as (λ _. Said Wanteds) [ None ↦ Malformed | Some ds ↦ wanted_to_come es (n + 1) (slice_set stored n (ds ++ [])) fs ]
        ])
        ≡ (elim (elim b as (λ _. Option (List Digit)) [ true ↦ o | false ↦ None ]) as (λ _. Said Wanteds) [
          | None ↦ Malformed
          | Some w ↦ wanted_to_come es (n + 1) (slice_set stored n w) fs
        ])
    go false o = refl
    go true None = refl
    go true (Some ds) = ap (λ w. wanted_to_come es (n + 1) (slice_set stored n w) fs) (append-nil ds)

-- a line that ends between two fields
pub gap_ends : (es : List Expected) (n : ℕ) (stored : Wanteds) → n ≤ length es → if_whole (nat_eq n (length es)) stored ≡ wanted_to_come (drop n es) n stored []
gap_ends es n stored h = go (eqb_tells n (length es))
  where
    ends : (ds : List Expected) → length ds ≡ 0 → Given stored ≡ wanted_to_come ds n stored []
    ends [] e = refl
    ends (d ∷ ds) e = absurd (omega (arith, e))

    open_still : (ds : List Expected) → 0 < length ds → Malformed ≡ wanted_to_come ds n stored []
    open_still [] e = absurd (omega (arith, e))
    open_still (d ∷ ds) e = refl

    go : ((nat_eq n (length es) ≡ true) × (n ≡ length es)) ⊎ ((nat_eq n (length es) ≡ false) × (n ≢ length es)) → if_whole (nat_eq n (length es)) stored ≡ wanted_to_come (drop n es) n stored []
    go (inl t) = ap (λ b. if_whole b stored) t.0 ∙ ends (drop n es) (length-drop n es ∙ omega (arith, t.1))
    go (inr t) = ap (λ b. if_whole b stored) t.0 ∙ open_still (drop n es) (let e = length-drop n es in let d = t.1 in omega (arith, e, d, h))

-- the length of the output of this place
pub length_at : (es : List Expected) (n : ℕ) (e d : Expected) → e ≡ get_or es n d → n < length es → slice_index (expected_lengths es) n ≡ e.length
length_at [] n e d h k = absurd (omega (arith, k))
length_at (x ∷ es) zero e d h k = ap (λ (y : Expected). y.length) (sym h)
length_at (x ∷ es) (suc n) e d h k = length_at es n e d h (omega (arith, k))

-- lengths stay where digits are replaced by as many
pub wanted_sizes-set : (ws : Wanteds) (n : ℕ) (w : List Digit) → length w ≡ slice_index (wanted_sizes ws) n → wanted_sizes (slice_set ws n w) ≡ wanted_sizes ws
wanted_sizes-set ws n w e = map-set_same (λ v. length v) ws n w [] (e ∙ get_or-map (λ v. length v) ws n [])
