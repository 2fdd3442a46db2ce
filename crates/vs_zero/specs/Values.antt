-- Sets of bits with the values that updates give them.
use Rattle.std.specs.Prelude.{◌≡◌, ◌<◌, ℕ, List, length, if◌then◌else◌}
use Rattle.vs_four.specs.declared.Bit4.{Bit4}
use Rattle.vs_four.specs.declared.Bit4.TheVariants.{Zero}
use Rattle.vs_four.specs.Tables.{same}
use Rattle.vs_net.specs.Network.{State, Write, is_written, write_all}
use Rattle.vs_design.specs.Footprints.{contains}
use Rattle.vs_design.specs.Sets.{Set4, only, union}
use Rattle.vs_zero.specs.States.{state_of, unknown}

-- with a value too that both states have
abbrev pub joined : Bit4 → Bit4 → Set4 → Set4
joined v w set = if same v w then union (only v) set else set

-- the set of a bit with the value that these writes give it last
abbrev pub with_updates : List Write → ℕ → Set4 → Set4
with_updates ws b set = if is_written ws b then union (only (write_all unknown ws b)) set else set

-- all bits of a table are 0
abbrev pub IsZero : List Bit4 → Type 0
IsZero values = (b : ℕ) → b < length values → state_of values b ≡ Zero

-- these bits have what they have in the first, the others what they have in the second
abbrev pub replaced_by : List ℕ → State → State → State
replaced_by bits f g b = if contains bits b then f b else g b
