-- A line of a text with a caret below one of its bytes.
use Rattle.std.specs.Prelude.{ℕ, ◌+◌, ◌-◌, Bool, nat_lt, List, ◌++◌, length, take, drop, codes, if◌then◌else◌}
use Rattle.vs_excerpt.specs.Positions.{line_before, line_behind}
use Rattle.vs_excerpt.specs.Escapes.{shown, blanks}

-- a line that has more bytes than this is cut, and then so many are shown at most on each side
abbrev pub most_whole : ℕ
most_whole = 200

abbrev pub most_side : ℕ
most_side = 100

abbrev pub is_cut : List ℕ → List ℕ → Bool
is_cut before behind = nat_lt most_whole (length before + length behind)

-- what is shown before the caret's byte, and from it on
abbrev pub shown_before : List ℕ → List ℕ → List ℕ
shown_before before behind = if is_cut before behind then drop (length before - most_side) before else before

abbrev pub shown_behind : List ℕ → List ℕ → List ℕ
shown_behind before behind = if is_cut before behind then take most_side behind else behind

-- the two lines: the text, and the caret below the byte between these parts
abbrev pub caret_lines : List ℕ → List ℕ → List ℕ
caret_lines before behind = shown before ++ (shown behind ++ (codes "\n" ++ (blanks before ++ codes "^\n")))

-- the line of byte `at`, with the caret below it
abbrev pub excerpt : List ℕ → ℕ → List ℕ
excerpt text at =
    caret_lines (shown_before (line_before text at) (line_behind text at)) (shown_behind (line_before text at) (line_behind text at))
