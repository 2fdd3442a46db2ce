-- Words without `=`.
use Rattle.std.proofs.Common.{◌≡◌, ◌≢◌, ℕ, suc, ◌<◌, false, List, [], ◌∷◌, length, get_or, None, sym, refl, arith}
use Rattle.std.specs.List.{list_any}
use Rattle.std.proofs.lemmas.Bool.{cond-false, ne_eqb}
use Rattle.vs_job.specs.Job.{is_equals, attached}

no_equals : (word : List ℕ) → ((i : ℕ) → i < length word → get_or word i 0 ≢ 61) → list_any is_equals word ≡ false
no_equals [] h = refl
no_equals (b ∷ bs) h = rw (ne_eqb b 61 (h 0 (omega arith))) (no_equals bs (λ i lt. h (suc i) (omega arith)))

-- nothing is attached to a word without `=`
pub attached-none : (word : List ℕ) → ((i : ℕ) → i < length word → get_or word i 0 ≢ 61) → None ≡ attached word
attached-none word h = sym (cond-false (list_any is_equals word) _ _ (no_equals word h))
