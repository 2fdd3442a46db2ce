-- A text of which a part was read, in the middle of a line.
use Rattle.std.specs.Prelude.{◌≡◌, ℕ, ◌+◌, ◌<◌, ◌≤◌, List, [], ◌∷◌, ◌++◌, length, Option, Some, None, Bool, true, false}
use Rattle.vs_desk.specs.Desk.{Told}
use Rattle.vs_four.specs.declared.Bit4.{Bit4}
use Rattle.vs_stim.specs.declared.error.StimError.{StimError}
use Rattle.vs_stim.specs.declared.wanted.Digit.{Digit}
use Rattle.vs_stim.specs.declared.error.StimError.TheVariants.{BadHeader, NoExpectation, BadVector, FirstUnknown, UnknownReset, UnknownSelect, NoVector, TooManyVectors, StimulusTooLong, LineTooLong, ReadFault, Memory}
use Rattle.vs_stim.specs.declared.source.Source.{Source}
use Rattle.vs_stim.specs.declared.source.Piece.{Piece}
use Rattle.vs_stim.specs.declared.source.Piece.TheVariants.{Byte, LineEnd, TextEnd}
use Rattle.vs_stim.specs.Known.{lines_tell}
use Rattle.vs_stim.specs.Header.{PortLists, ColumnLists}
use Rattle.vs_stim.specs.Lines.{lines, all_lines, content, no_lf, is_inner}
use Rattle.vs_stim.specs.Numbers.{filled}
use Rattle.vs_stim.specs.Reading.{limits, Place, behind, too_long, Reading, with_vector, read_vectors, read_header, header_fault, header_columns}
use Rattle.vs_stim.specs.declared.row.Row.{Row}
use Rattle.vs_stim.specs.Vectors.{Entry, bits_of, wanted_of}
use Rattle.vs_stim.specs.declared.wants.Wants.{Wants}
use Rattle.vs_stim.specs.Wants.{wants_with}
use Rattle.vs_stim.specs.Row.{row_with}

-- where the line stands, how many of its bytes were read, and the text that is left
pub record Open : Type 0 where
  pub at : Place
  pub taken : ℕ
  pub rest : List ℕ

-- how many bytes the line has before its LF
abbrev pub line_length : Open → ℕ
line_length o = o.taken + length (lines o.rest).first.bytes

-- the line's refusal for its length
abbrev pub line_refusal : Open → Option StimError
line_refusal o = too_long limits o.at (line_length o) (lines o.rest).first.ended

-- what is left of what the line says
abbrev pub says : Open → List ℕ
says o = content (lines o.rest).first

-- The next byte of what the line says is this, and the line goes on.
pub record GivesByte (byte : ℕ) (old new : Open) : Type 0 where
  pub said : says old ≡ byte ∷ says new
  pub size : line_length new ≡ line_length old
  pub ended : (lines new.rest).first.ended ≡ (lines old.rest).first.ended
  pub later : (lines new.rest).later ≡ (lines old.rest).later

-- The line says no more, and an LF ends it.
pub record EndsLine (old new : Open) : Type 0 where
  pub said : says old ≡ []
  pub kept : line_refusal old ≡ None
  pub later : all_lines (lines new.rest) ≡ (lines old.rest).later
  pub at : new.at ≡ behind old.at (line_length old)

-- The line says no more, and the text ends with it.
pub record EndsText (old new : Open) : Type 0 where
  pub said : says old ≡ []
  pub kept : line_refusal old ≡ None
  pub ended : (lines old.rest).first.ended ≡ false
  pub later : (lines old.rest).later ≡ []
  pub nothing : new.rest ≡ []

abbrev pub Gives : Piece → Open → Open → Type 0
Gives (Byte b) old new = GivesByte b old new
Gives LineEnd old new = EndsLine old new
Gives TextEnd old new = EndsText old new

-- The reader went on in its line by these bytes.
pub record GoesOn (old new : Open) : Type 0 where
  pub bytes : List ℕ
  pub inner : no_lf bytes ≡ true
  pub rest : old.rest ≡ bytes ++ new.rest
  pub taken : new.taken ≡ old.taken + length bytes
  pub at : new.at ≡ old.at

-- The reader passed an LF, behind these bytes of its line.
pub record PassesLf (old new : Open) : Type 0 where
  pub bytes : List ℕ
  pub inner : no_lf bytes ≡ true
  pub rest : old.rest ≡ bytes ++ 10 ∷ new.rest

-- how a reader came by a piece
abbrev pub ComesBy : Piece → Open → Open → Type 0
ComesBy (Byte b) old new = GoesOn old new
ComesBy LineEnd old new = PassesLf old new
ComesBy TextEnd old new = Unit {0}

-- the text that is left: what was taken and not yet read, and what is left on the desk
abbrev pub rest_of : {tells : Bool} → Source → Told tells → List ℕ
rest_of s told = s.block ++ told.contents.left s.place

-- where a reader is in its text, where this is left of it
abbrev pub open_before : Source → List ℕ → Open
open_before s rest = record { at = record { number = s.number; start = s.start }; taken = s.length; rest = rest }

abbrev pub open_at : {tells : Bool} → Source → Told tells → Open
open_at s told = open_before s (rest_of s told)

-- a reader, where its block is all that is left of the text
abbrev pub in_block : Source → Open
in_block s = open_before s s.block

-- the rest has the line's LF, or a byte past a limit
abbrev pub is_told : Open → Bool
is_told o = elim (line_refusal o) [ Some e ↦ true | None ↦ (lines o.rest).first.ended ]

-- how the numbers of a reader go on
abbrev pub Moves : Piece → Source → Source → Type 0
Moves (Byte b) old new = (new.number ≡ old.number) × (new.start ≡ old.start) × (new.length ≡ old.length + 1)
Moves LineEnd old new = (old.start < new.start) × (new.length ≡ 0)
Moves TextEnd old new = new.length ≡ 0

-- the refusals of a line for its length, and a fault
abbrev pub IsReadError : ℕ → StimError → Type 0
IsReadError number ReadFault = Unit {0}
IsReadError number StimulusTooLong = Unit {0}
IsReadError number (LineTooLong line) = line ≡ number
IsReadError number BadHeader = ⊥
IsReadError number NoExpectation = ⊥
IsReadError number (BadVector line) = ⊥
IsReadError number FirstUnknown = ⊥
IsReadError number (UnknownReset line) = ⊥
IsReadError number (UnknownSelect line) = ⊥
IsReadError number NoVector = ⊥
IsReadError number TooManyVectors = ⊥
IsReadError number Memory = ⊥

-- the numbers are in range
pub record IsSource (s : Source) : Type 0 where
  pub number : s.number ≤ s.start + 1
  pub line : s.length ≤ limits.line
  pub bytes : s.start + s.length ≤ limits.bytes

-- A reader went on in its line by this text, which stood first in its block.
pub record WentOn (text : List ℕ) (old new : Source) : Type 0 where
  pub block : old.block ≡ text ++ new.block
  pub moved : new ≡ record old { block = new.block; length = old.length + length text }

-- The text is digits, and their bits stand below those before them.
pub record ReadsDigits (old new : Source) (high all : List Bit4) : Type 0 where
  pub text : List ℕ
  pub went : WentOn text old new
  pub bits : List Bit4
  pub are : bits_of text ≡ Some bits
  pub below : all ≡ bits ++ high

-- And the same of digits that an output is wanted to have.
pub record ReadsWantedDigits (old new : Source) (high all : List Digit) : Type 0 where
  pub text : List ℕ
  pub went : WentOn text old new
  pub digits : List Digit
  pub are : wanted_of text ≡ Some digits
  pub below : all ≡ digits ++ high

-- What is behind the inputs' fields read the text, in which no line ends.
pub record ReadsBehind (before after : Wants) (old new : Source) : Type 0 where
  pub text : List ℕ
  pub went : WentOn text old new
  pub inner : is_inner text ≡ true
  pub says : (rest : List ℕ) → wants_with after rest ≡ wants_with before (text ++ rest)

-- The row read the text, in which no line ends.
pub record ReadsAhead (before after : Row) (old new : Source) : Type 0 where
  pub text : List ℕ
  pub went : WentOn text old new
  pub inner : is_inner text ≡ true
  pub says : (rest : List ℕ) → row_with after rest ≡ row_with before (text ++ rest)

-- what lines behind the header give from here on, where this many vectors stand before them
abbrev pub vectors_from : ColumnLists → ℕ → Open → Reading
vectors_from cs count o = read_vectors limits cs o.at count (all_lines (lines o.rest))

-- the answers of a line that should be a vector, but for Ok
abbrev pub IsVectorError : StimError → Type 0
IsVectorError BadHeader = ⊥
IsVectorError NoExpectation = ⊥
IsVectorError (BadVector line) = Unit {0}
IsVectorError FirstUnknown = Unit {0}
IsVectorError (UnknownReset line) = Unit {0}
IsVectorError (UnknownSelect line) = Unit {0}
IsVectorError NoVector = Unit {0}
IsVectorError TooManyVectors = Unit {0}
IsVectorError StimulusTooLong = Unit {0}
IsVectorError (LineTooLong line) = Unit {0}
IsVectorError ReadFault = Unit {0}
IsVectorError Memory = ⊥

-- what lines before the vectors give from here on
abbrev pub header_from : PortLists → Open → Reading
header_from ports o = read_header limits ports o.at (all_lines (lines o.rest))

-- why lines before the vectors are refused from here on, up to the header
abbrev pub header_fault_from : PortLists → Open → Option StimError
header_fault_from ports o = header_fault limits ports o.at (all_lines (lines o.rest))

-- the answers of a line that should be a header, but for Ok
abbrev pub IsHeaderError : StimError → Type 0
IsHeaderError BadHeader = Unit {0}
IsHeaderError NoExpectation = Unit {0}
IsHeaderError (BadVector line) = ⊥
IsHeaderError FirstUnknown = ⊥
IsHeaderError (UnknownReset line) = ⊥
IsHeaderError (UnknownSelect line) = ⊥
IsHeaderError NoVector = ⊥
IsHeaderError TooManyVectors = ⊥
IsHeaderError StimulusTooLong = Unit {0}
IsHeaderError (LineTooLong line) = Unit {0}
IsHeaderError ReadFault = Unit {0}
IsHeaderError Memory = Unit {0}

-- The line of old was read whole: an LF ended it, or the text.
pub record Passes (last : Bool) (old new : Open) : Type 0 where
  pub kept : line_refusal old ≡ None
  pub more : last ≡ false → all_lines (lines new.rest) ≡ (lines old.rest).later
  pub at : last ≡ false → new.at ≡ behind old.at (line_length old)
  pub none : last ≡ true → (lines old.rest).later ≡ []
  pub nothing : last ≡ true → new.rest ≡ []

-- The reader is still in the line of old.
pub record SameLine (old new : Open) : Type 0 where
  pub at : new.at ≡ old.at
  pub size : line_length new ≡ line_length old
  pub ended : (lines new.rest).first.ended ≡ (lines old.rest).first.ended
  pub later : (lines new.rest).later ≡ (lines old.rest).later

-- the rest tells what is read next, from a line's start
abbrev pub text_tells : Open → Bool
text_tells o = lines_tell o.at (all_lines (lines o.rest))

-- The reader passed lines, the last of which, that of this number, is a vector, and the others are skipped: whatever stands behind them, or nothing where
-- the text ends.
pub record PassesVector (cs : ColumnLists) (count line : ℕ) (v : Entry) (old new : Open) : Type 0 where
  pub bytes : List ℕ
  pub rest : old.rest ≡ bytes ++ new.rest
  pub gives : (more : List ℕ) → (new.rest ≡ [] → more ≡ [])
      → read_vectors limits cs old.at count (all_lines (lines (bytes ++ more))) ≡ with_vector v (read_vectors limits cs new.at (count + 1) (all_lines (lines more)))
  pub filled : (more : List ℕ) → (new.rest ≡ [] → more ≡ []) → filled old.at.number (all_lines (lines (bytes ++ more))) ≡ line ∷ filled new.at.number (all_lines (lines more))

-- And the same of lines whose last is the header.
pub record PassesHeader (ports : PortLists) (cs : ColumnLists) (old new : Open) : Type 0 where
  pub bytes : List ℕ
  pub rest : old.rest ≡ bytes ++ new.rest
  pub columns_are : header_columns limits ports old.at (all_lines (lines old.rest)) ≡ Some cs
  pub gives : (more : List ℕ) → (new.rest ≡ [] → more ≡ []) → read_header limits ports old.at (all_lines (lines (bytes ++ more))) ≡ read_vectors limits cs new.at 0 (all_lines (lines more))
  pub line : ℕ
  pub filled : (more : List ℕ) → (new.rest ≡ [] → more ≡ []) → filled old.at.number (all_lines (lines (bytes ++ more))) ≡ line ∷ filled new.at.number (all_lines (lines more))
