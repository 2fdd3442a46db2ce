-- How many bits a flat design has.
use Rattle.std.proofs.Common.{◌≡◌, ℕ, ◌+◌, ◌≤◌, ◌^◌, List, ap, ◌∙◌, Some, take, arith, get_or}
use Rattle.std.specs.Prelude.{slice_get}
use Rattle.std.proofs.lemmas.Option.{slice_get_within, get_or_from_slice_get}
use Rattle.std.proofs.lemmas.List.Sums.{sum_by_more, sum_by_more_le}
use Rattle.vs_flat.specs.declared.processes.Signal.{Signal}
use Rattle.vs_flat.specs.Arena.{signal_length, bit_count}

-- one signal more
pub bits_more : (ss : List Signal) (n : ℕ) (s : Signal) → slice_get ss n ≡ Some s → bit_count (take (n + 1) ss) ≡ bit_count (take n ss) + signal_length s
bits_more ss n s e = sum_by_more signal_length ss n s (slice_get_within ss n s e) ∙ ap {B = ℕ} (λ t. bit_count (take n ss) + t) (ap signal_length (get_or_from_slice_get ss n s s e))

pub bits_within : (ss : List Signal) (n : ℕ) (s : Signal) → slice_get ss n ≡ Some s → bit_count ss ≤ 2 ^ 20 → bit_count (take n ss) + signal_length s ≤ 2 ^ 20
bits_within ss n s e h =
    let k : bit_count (take n ss) + signal_length (get_or ss n s) ≤ bit_count ss = sum_by_more_le signal_length ss n s (slice_get_within ss n s e) in
    let m : signal_length (get_or ss n s) ≡ signal_length s = ap signal_length (get_or_from_slice_get ss n s s e) in
    omega (arith, k, m, h)
