-- What a text of a stimulus gives: its vectors one after the other, what outputs are wanted to have with each, and how it ends.
use Rattle.std.specs.Prelude.{◌≡◌, ℕ, zero, suc, ◌+◌, Bool, true, false, not, ◌&&◌, List, [], ◌∷◌, ◌++◌, length, map, nat_eq, nat_le, nat_lt, if◌then◌else◌, Option, Some, None}
use Rattle.vs_four.specs.declared.Bit4.{Bit4}
use Rattle.vs_stim.specs.declared.input.Input.{Input}
use Rattle.vs_stim.specs.declared.input.Column.{Column}
use Rattle.vs_stim.specs.declared.input.Output.{Output}
use Rattle.vs_stim.specs.declared.wanted.Digit.{Digit}
use Rattle.vs_stim.specs.declared.error.StimError.{StimError}
use Rattle.vs_stim.specs.declared.error.StimError.TheVariants.{BadHeader, NoExpectation, BadVector, FirstUnknown, UnknownReset, UnknownSelect, NoVector, TooManyVectors, StimulusTooLong, LineTooLong}
use Rattle.vs_stim.specs.Lines.{Line, lines, all_lines, content}
use Rattle.vs_stim.specs.Fields.{is_skipped, fields}
use Rattle.vs_stim.specs.Header.{PortLists, ColumnLists, lacks_output, header}
use Rattle.vs_stim.specs.Vectors.{Entry, entry, vector_known, broken}

-- the greatest number of vectors, of bytes in a line before its LF, and of bytes in the text
pub record Limits : Type 0 where
  pub vectors : ℕ
  pub line : ℕ
  pub bytes : ℕ

abbrev pub limits : Limits
limits = record { vectors = 16777216; line = 65536; bytes = 4294967296 }

-- the vectors, the digits that the expected outputs are wanted to have with each, in the header's order, and why none comes behind them: a refusal, or None
-- at the end of the whole text
pub record Reading : Type 0 where
  pub vectors : List (List (List Bit4))
  pub wanted : List (List (List Digit))
  pub refusal : Option StimError

abbrev pub refused : StimError → Reading
refused e = record { vectors = []; wanted = []; refusal = Some e }

abbrev pub whole : Reading
whole = record { vectors = []; wanted = []; refusal = None }

-- one vector more before the others
abbrev pub with_vector : Entry → Reading → Reading
with_vector v r = record { vectors = v.values ∷ r.vectors; wanted = v.wanted ∷ r.wanted; refusal = r.refusal }

abbrev pub entry_values : List Entry → List (List (List Bit4))
entry_values vs = map (λ v. v.values) vs

abbrev pub entry_wanted : List Entry → List (List (List Digit))
entry_wanted vs = map (λ v. v.wanted) vs

-- these vectors, and behind them what a reading gives
abbrev pub with_vectors : List Entry → Reading → Reading
with_vectors vs r = record { vectors = entry_values vs ++ r.vectors; wanted = entry_wanted vs ++ r.wanted; refusal = r.refusal }

-- where a line stands: its number from 1, and how many bytes stand before it
pub record Place : Type 0 where
  pub number : ℕ
  pub start : ℕ

-- the bytes of a line, with its LF
abbrev pub bytes_with_lf : ℕ → Bool → ℕ
bytes_with_lf n true = n + 1
bytes_with_lf n false = n

-- the line behind one that has n bytes before its LF
abbrev pub behind : Place → ℕ → Place
behind p n = record { number = p.number + 1; start = p.start + n + 1 }

-- The refusal of a line with n bytes before its LF or the end of the text: the first byte past a limit, and
-- LineTooLong where one byte is past both.
abbrev pub too_long : Limits → Place → ℕ → Bool → Option StimError
too_long l p n ended =
    elim (nat_lt l.line n) [
      | true ↦ elim (nat_le (p.start + l.line) l.bytes) [ true ↦ Some (LineTooLong p.number) | false ↦ Some StimulusTooLong ]
      | false ↦ elim (nat_lt l.bytes (p.start + bytes_with_lf n ended)) [ true ↦ Some StimulusTooLong | false ↦ None ]
    ]

-- what a line says
pub data Said (A : Type 0) : Type 0 where
  Skipped : Said A
  Malformed : Said A
  Given : A → Said A

abbrev pub said : {A : Type 0} → Option A → Said A
said None = Malformed
said (Some a) = Given a

-- a line before the header or at it
abbrev pub header_line : PortLists → List ℕ → Said ColumnLists
header_line ports text = elim (is_skipped text) [ true ↦ Skipped | false ↦ said (header ports (fields text)) ]

-- a line behind the header
abbrev pub vector_line : ColumnLists → List ℕ → Said Entry
vector_line cs text = elim (is_skipped text) [ true ↦ Skipped | false ↦ said (entry cs (fields text)) ]

-- an input that has to be known isn't: that is told of a reset before a select input
abbrev pub unknown_in : Column → ℕ → StimError
unknown_in c number = if c.reset then UnknownReset number else UnknownSelect number

-- The refusal of a vector that stands on the line of this number, behind this many others. Where a first vector is known, its resets and select inputs are. What outputs
-- are wanted to have doesn't matter.
abbrev pub not_taken : Limits → ColumnLists → ℕ → ℕ → Entry → Option StimError
not_taken l cs number count v =
    elim (nat_eq count 0 && not (vector_known v.values)) [
      | true ↦ Some FirstUnknown
      | false ↦ elim (broken cs.inputs v.values) [
        | Some c ↦ Some (unknown_in c number)
        | None ↦ elim (nat_eq count l.vectors) [ true ↦ Some TooManyVectors | false ↦ None ]
      ]
    ]

-- the end of the text behind this many vectors
abbrev pub at_end : ℕ → Reading
at_end zero = refused NoVector
at_end (suc n) = whole

-- lines behind the header, where this many vectors stand before them
abbrev pub read_vectors : Limits → ColumnLists → Place → ℕ → List Line → Reading
read_vectors l cs p count [] = at_end count
read_vectors l cs p count (line ∷ later) =
    elim (too_long l p (length line.bytes) line.ended) [
      | Some e ↦ refused e
      | None ↦ elim (vector_line cs (content line)) [
        | Skipped ↦ read_vectors l cs (behind p (length line.bytes)) count later
        | Malformed ↦ refused (BadVector p.number)
        | Given v ↦ elim (not_taken l cs p.number count v) [
          | Some e ↦ refused e
          | None ↦ with_vector v (read_vectors l cs (behind p (length line.bytes)) (count + 1) later)
        ]
      ]
    ]

-- lines from the first one on
abbrev pub read_header : Limits → PortLists → Place → List Line → Reading
read_header l ports p [] = refused BadHeader
read_header l ports p (line ∷ later) =
    elim (too_long l p (length line.bytes) line.ended) [
      | Some e ↦ refused e
      | None ↦ elim (header_line ports (content line)) [
        | Skipped ↦ read_header l ports (behind p (length line.bytes)) later
        | Malformed ↦ refused BadHeader
        | Given cs ↦ elim (lacks_output ports cs) [ true ↦ refused NoExpectation | false ↦ read_vectors l cs (behind p (length line.bytes)) 0 later ]
      ]
    ]

-- why lines from the first one on are refused up to the header; None where they have one
abbrev pub header_fault : Limits → PortLists → Place → List Line → Option StimError
header_fault l ports p [] = Some BadHeader
header_fault l ports p (line ∷ later) =
    elim (too_long l p (length line.bytes) line.ended) [
      | Some e ↦ Some e
      | None ↦ elim (header_line ports (content line)) [
        | Skipped ↦ header_fault l ports (behind p (length line.bytes)) later
        | Malformed ↦ Some BadHeader
        | Given cs ↦ elim (lacks_output ports cs) [ true ↦ Some NoExpectation | false ↦ None ]
      ]
    ]

abbrev pub first_place : Place
first_place = record { number = 1; start = 0 }

-- what the text gives, under these limits
abbrev pub reading_within : Limits → PortLists → List ℕ → Reading
reading_within l ports text = read_header l ports first_place (all_lines (lines text))

-- what the text gives
abbrev pub reading : PortLists → List ℕ → Reading
reading ports text = reading_within limits ports text

-- why the text is refused up to its header; None where it has one
abbrev pub header_refusal : PortLists → List ℕ → Option StimError
header_refusal ports text = header_fault limits ports first_place (all_lines (lines text))

-- the columns that the header of lines calls for; none where they have no header, or one that names no output, though it has to
abbrev pub header_columns : Limits → PortLists → Place → List Line → Option ColumnLists
header_columns l ports p [] = None
header_columns l ports p (line ∷ later) =
    elim (too_long l p (length line.bytes) line.ended) [
      | Some e ↦ None
      | None ↦ elim (header_line ports (content line)) [
        | Skipped ↦ header_columns l ports (behind p (length line.bytes)) later
        | Malformed ↦ None
        | Given cs ↦ elim (lacks_output ports cs) [ true ↦ None | false ↦ Some cs ]
      ]
    ]

-- the columns that the text's header calls for
abbrev pub columns : PortLists → List ℕ → Option ColumnLists
columns ports text = header_columns limits ports first_place (all_lines (lines text))

-- A valid stimulus of a design with these data inputs and outputs: it has these vectors, and with each of them the outputs that its header names behind
-- `->` are wanted to have these digits.
abbrev pub stimulus : List ℕ → List Input → List Output → List (List (List Bit4)) → List (List (List Digit)) → Type 0
stimulus text inputs outputs vectors wanted =
    reading (record { inputs = inputs; outputs = outputs; demanded = false }) text ≡ record { vectors = vectors; wanted = wanted; refusal = None }
