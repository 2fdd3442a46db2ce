-- What a design's network has behind the processes of the design and the inputs of the top. A clock that isn't a bit of the design is a writer there, and has a value behind those of the design's bits; and behind that stands the block that keeps what initial processes alone write.
use Rattle.std.specs.Prelude.{ℕ, ◌+◌, Bool, List, [], ◌∷◌, length, if◌then◌else◌, Option, Some, None}
use Rattle.vs_design.specs.Designs.{Design, bit_count, top_inputs}
use Rattle.vs_design.specs.Initials.{sole_bits}
use Rattle.vs_design.specs.Networks.{spare_clocks}
use Rattle.vs_design.specs.RefusalLaws.{is_some_of}

-- a value that is there, alone
abbrev pub alone : Option ℕ → List ℕ
alone (Some c) = c ∷ []
alone None = []

-- how many clocks are such ones; of an accepted design one at most
unfoldable pub spare_count : Design → List ℕ → ℕ
spare_count d clocks = length (spare_clocks d clocks)

-- how many values there are
abbrev pub value_count : Design → List ℕ → ℕ
value_count d clocks = bit_count d + spare_count d clocks

-- there are bits that initial processes alone write
abbrev pub has_keeper : Design → Bool
has_keeper d = is_some_of (sole_bits d)

-- one block more where there are
unfoldable pub keeper_count : Design → ℕ
keeper_count d = if has_keeper d then 1 else 0

-- its number
abbrev pub keeper_at : Design → List ℕ → ℕ
keeper_at d clocks = length d.processes + (length (top_inputs d) + spare_count d clocks)
