-- Numbers and places one after the other.
use Rattle.std.proofs.Common.{◌≡◌, ℕ, suc, ◌+◌, ◌-◌, ◌<◌, List, [], ◌∷◌, ◌++◌, drop, length, get_or, sym, ap, ◌∙◌, arith, append_assoc, drop-cons}
use Rattle.std.specs.Prelude.{Option, Some, None}
use Rattle.vs_design.specs.Values.{count_from}
use Rattle.vs_design.specs.Footprints.{somes}
use Rattle.vs_shape.specs.Gathered.{bits_from}

pub one_more_of_run : (xs all : List ℕ) (b end : ℕ) → b < end → xs ++ count_from b (end - b) ≡ all → (xs ++ b ∷ []) ++ count_from (b + 1) (end - (b + 1)) ≡ all
one_more_of_run xs all b end h is =
    let split : end - b ≡ suc (end - (b + 1)) = omega arith in
    let next : b + 1 ≡ suc b = omega arith in
    append_assoc xs (b ∷ []) (count_from (b + 1) (end - (b + 1))) ∙ ap (λ k. xs ++ b ∷ count_from k (end - (b + 1))) next ∙ ap (λ n. xs ++ count_from b n) (sym split) ∙ is

-- one more place: where there is one its bit is added
pub one_more_place : (xs all : List ℕ) (first : ℕ) (ps : List (Option ℕ)) (k n : ℕ) → k < length ps → get_or ps k None ≡ Some n → xs ++ somes (bits_from first (drop k ps)) ≡ all
    → (xs ++ (first + n) ∷ []) ++ somes (bits_from first (drop (suc k) ps)) ≡ all
one_more_place xs all first ps k n h at is =
    append_assoc xs ((first + n) ∷ []) (somes (bits_from first (drop (suc k) ps)))
    ∙ ap (λ p. xs ++ somes (bits_from first (p ∷ drop (suc k) ps))) (sym at)
    ∙ ap (λ qs. xs ++ somes (bits_from first qs)) (sym (drop-cons ps k None h))
    ∙ is

pub no_place : (xs all : List ℕ) (first : ℕ) (ps : List (Option ℕ)) (k : ℕ) → k < length ps → get_or ps k None ≡ None → xs ++ somes (bits_from first (drop k ps)) ≡ all → xs ++ somes (bits_from first (drop (suc k) ps)) ≡ all
no_place xs all first ps k h at is =
    ap (λ p. xs ++ somes (bits_from first (p ∷ drop (suc k) ps))) (sym at)
    ∙ ap (λ qs. xs ++ somes (bits_from first qs)) (sym (drop-cons ps k None h))
    ∙ is
