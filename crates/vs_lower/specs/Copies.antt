-- The copies at the end of a process: each bit that it writes, or its shadow, gets what the bit has then.
use Rattle.std.specs.Prelude.{ℕ, List, [], ◌∷◌, map, slice_index}
use Rattle.vs_code.specs.Calls.{Call}
use Rattle.vs_values.specs.Added.{copy_call}
use Rattle.vs_values.specs.Environments.{homes}
use Rattle.vs_lower.specs.Joined.{differing_bits}

abbrev pub copies : List ℕ → List ℕ → List Call
copies [] to = []
copies (s ∷ from) to = copy_call (s ∷ from) to ∷ []

-- those of these bits that aren't there any more
abbrev pub moved : ℕ → List ℕ → List ℕ → List ℕ
moved count bits env = differing_bits bits (map (slice_index (homes count)) bits) env

-- their copies
abbrev pub home_copies : ℕ → List ℕ → List ℕ → List Call
home_copies count bits env = copies (map (slice_index env) (moved count bits env)) (map (slice_index (homes count)) (moved count bits env))
