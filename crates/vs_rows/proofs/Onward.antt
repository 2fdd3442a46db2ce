-- The first wrong field from one place on.
use Rattle.std.proofs.Common.{◌≡◌, ℕ, suc, ◌<◌, ◌≤◌, Bool, true, false, ◌||◌, List, [], length, drop, get_or, Option, Some, None, refl}
use Rattle.std.proofs.Math.Seq.{drop-cons}
use Rattle.std.proofs.lemmas.List.{drop_all}
use Rattle.vs_names.specs.Drawn.{Drawn}
use Rattle.vs_rows.specs.Fields.{field_at, wrong_at, missing, is_arrow, fits, first_wrong}

pub passed : (drawn : Option Drawn) (header line : List ℕ) (place : ℕ) (expected : Bool) (names fields : List ℕ) (k : ℕ) → k < length names → k < length fields
    → fits drawn expected (field_at header (get_or names k 0)) (field_at line (get_or fields k 0)) ≡ true
    → first_wrong drawn header line place expected (drop k names) (drop k fields)
    ≡ first_wrong drawn header line (suc place) (expected || is_arrow (field_at header (get_or names k 0))) (drop (suc k) names) (drop (suc k) fields)
passed drawn header line place expected names fields k i j e = rw (drop-cons names k 0 i, drop-cons fields k 0 j, e) refl

pub stopped : (drawn : Option Drawn) (header line : List ℕ) (place : ℕ) (expected : Bool) (names fields : List ℕ) (k : ℕ) → k < length names → k < length fields
    → fits drawn expected (field_at header (get_or names k 0)) (field_at line (get_or fields k 0)) ≡ false
    → first_wrong drawn header line place expected (drop k names) (drop k fields) ≡ Some (wrong_at line place (field_at header (get_or names k 0)) (get_or fields k 0))
stopped drawn header line place expected names fields k i j e = rw (drop-cons names k 0 i, drop-cons fields k 0 j, e) refl

pub missed : (drawn : Option Drawn) (header line : List ℕ) (place : ℕ) (expected : Bool) (names fields : List ℕ) (k : ℕ) → k < length names → length fields ≤ k
    → first_wrong drawn header line place expected (drop k names) (drop k fields) ≡ Some (missing line place (field_at header (get_or names k 0)))
missed drawn header line place expected names fields k i j = rw (drop-cons names k 0 i, drop_all k fields j) refl

pub unnamed : (drawn : Option Drawn) (header line : List ℕ) (place : ℕ) (expected : Bool) (names fields : List ℕ) (k : ℕ) → length names ≤ k → k < length fields
    → first_wrong drawn header line place expected (drop k names) (drop k fields) ≡ Some (wrong_at line place [] (get_or fields k 0))
unnamed drawn header line place expected names fields k i j = rw (drop_all k names i, drop-cons fields k 0 j) refl

pub matched : (drawn : Option Drawn) (header line : List ℕ) (place : ℕ) (expected : Bool) (names fields : List ℕ) (k : ℕ) → length names ≤ k → length fields ≤ k
    → first_wrong drawn header line place expected (drop k names) (drop k fields) ≡ None
matched drawn header line place expected names fields k i j = rw (drop_all k names i, drop_all k fields j) refl
