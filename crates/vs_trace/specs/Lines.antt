-- The lines of a slot, signal by signal.
use Rattle.std.specs.Prelude.{◌≡◌, ◌+◌, ◌≤◌, ℕ, List, [], Option, Some, None, if◌then◌else◌, not, ◌&&◌}
use Rattle.std.specs.List.{flat_map}
use Rattle.vs_four.specs.Tables.{is_one}
use Rattle.vs_four.specs.Logic.{identical}
use Rattle.vs_net.specs.Network.{State}
use Rattle.vs_design.specs.Expressions.{Signal, range_or_one}
use Rattle.vs_design.specs.Footprints.{is_memory}
use Rattle.vs_design.specs.Values.{bits_of_signal, read}
use Rattle.vs_vcd.specs.Values.{value_line}
use Rattle.vs_vcd.specs.Shared.{leads}

-- the signal is no memory (4.9), and has 1 to 64 bits among so many
pub record IsShown (count : ℕ) (s : Signal) : Type 0 where
  pub plain : s.words ≡ None
  pub some : 1 ≤ range_or_one s.range
  pub most : range_or_one s.range ≤ 64
  pub there : s.first + range_or_one s.range ≤ count

-- the line of a signal: in the first slot, and in a later one where its value isn't that at the end of the slot before
abbrev pub signal_line : Option State → State → Signal → List ℕ
signal_line None now s = value_line s.number (read now (bits_of_signal s))
signal_line (Some before) now s = if is_one (identical (read before (bits_of_signal s)) (read now (bits_of_signal s))) then [] else value_line s.number (read now (bits_of_signal s))

-- a memory has none, and neither has a signal whose code is that of an earlier one
abbrev pub line_of : (ℕ → ℕ) → Option State → State → Signal → List ℕ
line_of code before now s = if not (is_memory s) && leads code s then signal_line before now s else []

-- those of these signals
abbrev pub slot_lines : (ℕ → ℕ) → Option State → State → List Signal → List ℕ
slot_lines code before now signals = flat_map (line_of code before now) signals
