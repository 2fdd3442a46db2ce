-- What a lane misses of what its stimulus wants of outputs, where the bits have their values at the end of a slot: the first output in the header's order of
-- which a digit isn't met.
use Rattle.std.specs.Prelude.{ℕ, ◌+◌, Bool, true, false, ◌&&◌, List, [], ◌∷◌, slice_get, Option, Some, None}
use Rattle.vs_four.specs.declared.Bit4.{Bit4}
use Rattle.vs_four.specs.Tables.{same}
use Rattle.vs_four.specs.Logic.{BitList}
use Rattle.vs_net.specs.Network.{State}
use Rattle.vs_design.specs.Values.{read}
use Rattle.vs_program.specs.declared.compiled.Span.{Span}
use Rattle.vs_program.specs.Compiled.{span_bits}
use Rattle.vs_stim.specs.declared.input.Expected.{Expected}
use Rattle.vs_stim.specs.declared.wanted.Digit.{Digit}
use Rattle.vs_stim.specs.declared.wanted.Digit.TheVariants.{Exactly, Any}
use Rattle.vs_stim.specs.Known.{Known}

-- a digit is met where the bit is exactly it; one that stands for any bit is met by each
abbrev pub is_met : Digit → Bit4 → Bool
is_met Any b = true
is_met (Exactly d) b = same d b

-- each digit is met by its bit
abbrev pub are_met : List Digit → BitList → Bool
are_met [] bits = true
are_met (d ∷ ds) [] = false
are_met (d ∷ ds) (b ∷ bits) = is_met d b && are_met ds bits

-- the bits that the output of a column has, least significant first, where the outputs have these spans
abbrev pub value_of : List Span → State → Expected → BitList
value_of outputs s e = elim (slice_get outputs e.output) [ None ↦ [] | Some x ↦ read s (span_bits x) ]

-- an output that isn't as it was wanted: the place of its name behind `->`, from 0, what was wanted, and what it was
pub record Miss : Type 0 where
  pub output : ℕ
  pub wanted : List Digit
  pub got : BitList

-- the first of these columns, numbered from n, of which a digit isn't met
abbrev pub first_miss : List Span → State → ℕ → List Expected → List (List Digit) → Option Miss
first_miss outputs s n [] wanted = None
first_miss outputs s n (e ∷ es) [] = None
first_miss outputs s n (e ∷ es) (w ∷ ws) =
    let got = value_of outputs s e in
    elim (are_met w got) [ true ↦ first_miss outputs s (n + 1) es ws | false ↦ Some (record { output = n; wanted = w; got = got }) ]

-- what was found in a lane: the line of the vector, and what was missed there
pub record Found : Type 0 where
  pub line : ℕ
  pub miss : Miss

abbrev pub on_line : ℕ → Option Miss → Option Found
on_line line None = None
on_line line (Some m) = Some (record { line = line; miss = m })

-- the line of the vector that was read last
abbrev pub line_of : Known → ℕ
line_of k = k.line

-- what a lane misses now, if it has a vector
abbrev pub found_now : List Span → Known → State → Option Found
found_now outputs k s = elim k.live [ true ↦ on_line (line_of k) (first_miss outputs s 0 k.columns.expected k.wanted) | false ↦ None ]

-- what was found before stays; else what is missed now is found
abbrev pub found_behind : Option Found → Option Found → Option Found
found_behind None now = now
found_behind (Some f) now = Some f
