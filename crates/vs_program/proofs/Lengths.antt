-- The lengths of a design's signals, and of their spans in its program.
use Rattle.std.proofs.Common.{List, ◌≡◌, ℕ, ◌∙◌, map, ap}
use Rattle.std.proofs.lemmas.Simd.{map-map}
use Rattle.vs_design.specs.Expressions.{signal_length}
use Rattle.vs_design.specs.Designs.{Design}
use Rattle.vs_program.specs.declared.compiled.Span.{Span}
use Rattle.vs_program.specs.Program.{Program}
use Rattle.vs_program.specs.Compiled.{IsProgramOf, span_of, shown_signals}

-- a program's signals have the lengths of the design's
pub lengths_of_spans : (d : Design) (clocks : List ℕ) (p : Program) → IsProgramOf d clocks p → map (λ (s : Span). s.length) p.signals ≡ map signal_length (shown_signals d)
lengths_of_spans d clocks p h = ap (map (λ (s : Span). s.length)) h.signals ∙ map-map (λ (s : Span). s.length) span_of (shown_signals d)
