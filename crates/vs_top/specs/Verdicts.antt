-- What a check says of its lanes before its report line: a line for each lane that missed something of what its stimulus wants, by lane.
use Rattle.std.specs.Prelude.{ℕ, ◌+◌, List, [], ◌∷◌, ◌++◌, Option, Some, None, is_some}
use Rattle.std.specs.List.{count_by}
use Rattle.vs_refusal.specs.Misses.{miss_line}
use Rattle.vs_misses.specs.Missed.{Found}
use Rattle.vs_misses.specs.Texts.{wanted_text, bits_text}

-- `missed lane=0 line=3 output=0 wanted=0 got=1`, with the end of the line, or nothing where nothing was found in the lane
abbrev pub miss_text : ℕ → Option Found → List ℕ
miss_text lane None = []
miss_text lane (Some f) = miss_line lane f.line f.miss.output (wanted_text f.miss.wanted) (bits_text f.miss.got)

-- what was found in each lane, where lanes are numbered from the first one on
abbrev pub texts_from : ℕ → List (Option Found) → List ℕ
texts_from lane [] = []
texts_from lane (f ∷ found) = miss_text lane f ++ texts_from (lane + 1) found

abbrev pub misses_text : List (Option Found) → List ℕ
misses_text found = texts_from 0 found

-- how many lanes missed something
abbrev pub missed_lanes : List (Option Found) → ℕ
missed_lanes found = count_by is_some found
