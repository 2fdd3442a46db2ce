-- What a lane misses of what its stimulus wants of outputs: the first vector of which a digit isn't met, and there the first output in the header's order.
use Rattle.std.specs.Prelude.{◌≡◌, ℕ, ◌+◌, List, [], ◌∷◌, map, take, Option, Some, None}
use Rattle.std.specs.List.{filter}
use Rattle.vs_net.specs.Network.{State}
use Rattle.vs_design.specs.Designs.{Design}
use Rattle.vs_program.specs.declared.compiled.Span.{Span}
use Rattle.vs_program.specs.Compiled.{span_of}
use Rattle.vs_stim.specs.declared.input.Output.{Output}
use Rattle.vs_stim.specs.declared.input.Expected.{Expected}
use Rattle.vs_stim.specs.declared.wanted.Digit.{Digit}
use Rattle.vs_stim.specs.Header.{PortLists, ColumnLists, output_lengths}
use Rattle.vs_stim.specs.Reading.{reading, columns}
use Rattle.vs_stim.specs.Numbers.{line_of_vector}
use Rattle.vs_misses.specs.Missed.{Miss, Found, first_miss}
use Rattle.vs_rounds.specs.Inputs.{is_output, outputs}

-- the bits of each output: those of the top's signals that have these names, in order of declaration
abbrev pub output_spans : Design → List Output → List Span
output_spans d os = map span_of (filter (is_output (map (λ (o : Output). o.name) os)) d.signals)

-- For the outputs of the design that have these names they are the bits of these very signals, as many of each as the output has digits.
abbrev pub OutputsHaveSpans : Type 0
OutputsHaveSpans = (d : Design) (names : List (List ℕ)) → output_spans d (outputs d names) ≡ map span_of (filter (is_output names) d.signals)

abbrev pub SpansHaveLengths : Type 0
SpansHaveLengths = (d : Design) (names : List (List ℕ)) → map (λ (s : Span). s.length) (output_spans d (outputs d names)) ≡ output_lengths (outputs d names)

-- what is missed, and the vector with which it was so, from 0
pub record Missed : Type 0 where
  pub vector : ℕ
  pub miss : Miss

abbrev pub at_vector : ℕ → Option Miss → Option Missed → Option Missed
at_vector k None later = later
at_vector k (Some m) later = Some (record { vector = k; miss = m })

-- the first, where vectors are numbered from k: of two slots of a vector the first counts, when the clocks are low and the vector stands on the inputs
abbrev pub missed_from : List Span → List Expected → ℕ → List (List (List Digit)) → List State → Option Missed
missed_from spans es k [] ends = None
missed_from spans es k (w ∷ ws) [] = None
missed_from spans es k (w ∷ ws) (s ∷ []) = at_vector k (first_miss spans s 0 es w) None
missed_from spans es k (w ∷ ws) (s ∷ r ∷ ends) = at_vector k (first_miss spans s 0 es w) (missed_from spans es (k + 1) ws ends)

-- What is missed of a design whose top has these outputs, where the header has these columns, and the slots of the lane end in these states; None where
-- all digits are met.
abbrev pub missed : Design → List Output → List Expected → List (List (List Digit)) → List State → Option Missed
missed d outputs es wanted ends = missed_from (output_spans d outputs) es 0 wanted ends

-- ---- of a text

-- the columns of outputs that a header calls for
abbrev pub expected_in : Option ColumnLists → List Expected
expected_in None = []
expected_in (Some cs) = cs.expected

-- it is told with the line on which the text has the vector
abbrev pub told_of : List ℕ → Option Missed → Option Found
told_of text None = None
told_of text (Some m) = Some (record { line = line_of_vector text m.vector; miss = m.miss })

-- what is missed of what a text wants, where the slots of its lane end in these states
abbrev pub missed_of : Design → PortLists → List ℕ → List (List (List Digit)) → List State → Option Found
missed_of d ports text wanted ends = told_of text (missed d ports.outputs (expected_in (columns ports text)) wanted ends)

-- and of its first k vectors
abbrev pub missed_in : Design → PortLists → List ℕ → ℕ → List State → Option Found
missed_in d ports text k ends = missed_of d ports text (take k (reading ports text).wanted) ends
