-- The numbers of a text's lines.
use Rattle.std.specs.Prelude.{ℕ, ◌+◌, true, false, List, [], ◌∷◌, slice_index_or}
use Rattle.vs_stim.specs.Lines.{Line, lines, all_lines, content}
use Rattle.vs_stim.specs.Fields.{is_skipped}

-- the numbers of the lines that aren't skipped, where the first of these lines has number n
abbrev pub filled : ℕ → List Line → List ℕ
filled n [] = []
filled n (line ∷ later) = elim (is_skipped (content line)) [ true ↦ filled (n + 1) later | false ↦ n ∷ filled (n + 1) later ]

-- The number of the line on which vector k of a text stands, both from 1 and k from 0: the first line that isn't skipped is the header's, and the vectors
-- stand on those behind it.
abbrev pub line_of_vector : List ℕ → ℕ → ℕ
line_of_vector text k = slice_index_or (filled 1 (all_lines (lines text))) (k + 1) 0
