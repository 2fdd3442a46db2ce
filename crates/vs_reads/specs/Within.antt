-- Processes whose bits are all below a count.
use Rattle.std.specs.Prelude.{◌≡◌, ◌<◌, ℕ, true, ◌++◌}
use Rattle.vs_design.specs.Designs.{Process}
use Rattle.vs_design.specs.Footprints.{contains, all_reads, writes_of, waits_of}

-- as in a design that elaboration gives
abbrev pub IsWithin : ℕ → Process → Type 0
IsWithin count process = (b : ℕ) → contains (all_reads process ++ (writes_of process ++ waits_of process)) b ≡ true → b < count
