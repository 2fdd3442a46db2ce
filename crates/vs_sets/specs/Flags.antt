-- Flags of bits, and what is known of them process by process.
use Rattle.std.specs.Prelude.{◌≡◌, ℕ, Bool, false, not, ◌&&◌, List, take, filter, slice_index_or}
use Rattle.vs_design.specs.Expressions.{Signal}
use Rattle.vs_design.specs.Designs.{Design}
use Rattle.vs_design.specs.Footprints.{contains, is_variable, signals_bits, variable_bits}
use Rattle.vs_design.specs.Initials.{initial_bits}
use Rattle.vs_design.specs.Sleepers.{comb_bits, is_once}

-- a bit that there is not has none
abbrev pub flag_at : List Bool → ℕ → Bool
flag_at flags b = slice_index_or flags b false

-- exactly the bits of which the test holds have a flag
abbrev pub AreFlags : (ℕ → Bool) → List Bool → Type 0
AreFlags test flags = (b : ℕ) → flag_at flags b ≡ test b

-- the bits of the variables among the first n signals
abbrev pub variables_before : List Signal → ℕ → List ℕ
variables_before signals n = signals_bits (filter is_variable (take n signals))

-- what `is_still` says, as far as the processes before p tell
abbrev pub still_before : Design → ℕ → ℕ → Bool
still_before d p b = contains (variable_bits d) b && not (contains (comb_bits (take p d.processes)) b) && is_once (take p d.processes) b

-- and as far as all processes and the first k initial processes tell
abbrev pub still_behind : Design → ℕ → ℕ → Bool
still_behind d k b = contains (variable_bits d) b && not (contains (comb_bits d.processes) b) && is_once d.processes b && not (contains (initial_bits (take k d.initials)) b)
