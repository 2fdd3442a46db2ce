-- What is known of a stimulus that is being read.
use Rattle.std.specs.Prelude.{◌≡◌, ℕ, ◌+◌, ◌<◌, Bool, true, false, List, [], ◌∷◌, ◌++◌, length, slice_index_or, Some, None}
use Rattle.vs_desk.specs.Desk.{Contents}
use Rattle.vs_desk.specs.Places.{stimulus_place}
use Rattle.vs_four.specs.declared.Bit4.{Bit4}
use Rattle.vs_stim.specs.declared.wanted.Digit.{Digit}
use Rattle.vs_stim.specs.Header.{PortLists, ColumnLists}
use Rattle.vs_stim.specs.Vectors.{Entry}
use Rattle.vs_stim.specs.Lines.{Line, lines, all_lines, content}
use Rattle.vs_stim.specs.Fields.{is_skipped}
use Rattle.vs_stim.specs.Numbers.{filled}
use Rattle.vs_stim.specs.Reading as R
use Rattle.vs_stim.specs.Reading.{Place, Reading, limits, behind, too_long, with_vectors, reading, read_vectors}

-- A stimulus between two lines: its lane, whether the next line may be read, the columns of its header, how many vectors
-- were given, the number of the line of the last of them, that vector, what the expected outputs are wanted to have with it, where the next line
-- stands, and the bytes that were taken and not yet read.
pub record Known : Type 0 where
  pub lane : ℕ
  pub live : Bool
  pub columns : ColumnLists
  pub count : ℕ
  pub line : ℕ
  pub vector : List (List Bit4)
  pub wanted : List (List Digit)
  pub at : Place
  pub pending : List ℕ

-- what the line of the last vector gave
abbrev pub last_entry : Known → Entry
last_entry k = record { values = k.vector; wanted = k.wanted }

-- the place of a lane's stimulus
abbrev pub place_of : ℕ → ℕ
place_of lane = stimulus_place lane

-- the text that is left: the pending bytes, and what is left on a desk with these contents
abbrev pub text_left : Known → Contents → List ℕ
text_left k contents = k.pending ++ contents.left (stimulus_place k.lane)

-- Lines from here on tell what is read next: one that isn't skipped has its LF, or a byte is past a limit.
abbrev pub lines_tell : Place → List Line → Bool
lines_tell p [] = false
lines_tell p (line ∷ later) =
    elim (too_long limits p (length line.bytes) line.ended) [
      | Some e ↦ true
      | None ↦ elim line.ended [
        | false ↦ false
        | true ↦ elim (is_skipped (content line)) [ false ↦ true | true ↦ lines_tell (behind p (length line.bytes)) later ]
      ]
    ]

-- the pending bytes tell what is read next
abbrev pub pending_tells : Known → Bool
pending_tells k = lines_tell k.at (all_lines (lines k.pending))

-- what the text that is left gives
abbrev pub remaining : Known → Contents → Reading
remaining k contents = read_vectors limits k.columns k.at k.count (all_lines (lines (text_left k contents)))

-- A take failed behind these bytes of the text, and they don't tell what is read next: no byte was asked for without need.
pub record IsUntold (p : Place) (text left : List ℕ) : Type 0 where
  pub taken : List ℕ
  pub text_is : text ≡ taken ++ left
  pub untold : lines_tell p (all_lines (lines taken)) ≡ false

-- A text was read up to here: its header, which has these columns, and so many vectors, the last of which stands on this line. What stands behind them
-- is read on from this place, whatever it is. Where nothing stands behind them in this text, its last line may lack an LF, and nothing is said of more
-- behind it. The lines that aren't skipped up to here have these numbers: the header's, and one for each vector.
pub record IsReadTo (ports : PortLists) (text : List ℕ) (count : ℕ) (columns : ColumnLists) (line : ℕ) (at : Place) (rest : List ℕ) : Type 0 where
  pub given : List ℕ
  pub text_is : text ≡ given ++ rest
  pub vectors : List Entry
  pub count_is : length vectors ≡ count
  pub columns_are : R.columns ports text ≡ Some columns
  pub goes_on : (more : List ℕ) → (rest ≡ [] → more ≡ []) → reading ports (given ++ more) ≡ with_vectors vectors (read_vectors limits columns at count (all_lines (lines more)))
  pub numbers : List ℕ
  pub numbers_are : length numbers ≡ count + 1
  pub last : 0 < count → slice_index_or numbers count 0 ≡ line
  pub filled : (more : List ℕ) → (rest ≡ [] → more ≡ []) → filled 1 (all_lines (lines (given ++ more))) ≡ numbers ++ filled at.number (all_lines (lines more))

-- the text was read up to where a stimulus stands
abbrev pub IsReadBy : PortLists → List ℕ → Known → Contents → Type 0
IsReadBy ports text k contents = IsReadTo ports text k.count k.columns k.line k.at (text_left k contents)

-- A take failed behind so many vectors of a text, and what was taken has no refusal, and doesn't tell what is read next.
pub record IsUntoldBehind (ports : PortLists) (count : ℕ) (text left : List ℕ) : Type 0 where
  pub columns : ColumnLists
  pub line : ℕ
  pub at : Place
  pub rest : List ℕ
  pub read : IsReadTo ports text count columns line at rest
  pub untold : IsUntold at rest left
