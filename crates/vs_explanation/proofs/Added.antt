-- Texts added to a page one behind the other.
use Rattle.std.proofs.Common.{◌≡◌, ℕ, Bool, false, cond, List, ◌++◌, Result, Ok, Err, OnOk, append_assoc, refl, ap, ◌∙◌}

-- the first part was added, and then the second was tried
pub then_ok : {V E : Type 0} (result : Result V E) (old now new first second : List ℕ) → now ≡ old ++ first → OnOk result (new ≡ now ++ second) → OnOk result (new ≡ old ++ (first ++ second))
then_ok (Ok v) old now new first second h k = k ∙ ap (λ (xs : List ℕ). xs ++ second) h ∙ append_assoc old first second
then_ok (Err e) old now new first second h k = tt

-- the same text by another name
pub as_ok : {V E : Type 0} (result : Result V E) (old new first second : List ℕ) → first ≡ second → OnOk result (new ≡ old ++ first) → OnOk result (new ≡ old ++ second)
as_ok (Ok v) old new first second h k = k ∙ ap (λ (xs : List ℕ). old ++ xs) h
as_ok (Err e) old new first second h k = tt

-- of two texts the second
pub second_of : (b : Bool) (first second : List ℕ) → b ≡ false → cond b first second ≡ second
second_of b first second e = rw e refl
