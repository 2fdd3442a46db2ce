-- What a line before the vectors says, where some of it was read already.
use Rattle.std.specs.Prelude.{◌≡◌, ℕ, ◌<◌, Bool, true, false, List, [], ◌∷◌, ◌++◌, length, Some, None, codes, bytes_eq, slice_index, All}
use Rattle.vs_stim.specs.declared.input.Column.{Column}
use Rattle.vs_stim.specs.declared.input.Expected.{Expected}
use Rattle.vs_stim.specs.declared.input.Columns.{Columns}
use Rattle.vs_stim.specs.declared.heading.Stage.{Stage}
use Rattle.vs_stim.specs.declared.heading.Stage.TheVariants.{Start, Comment, Gap, Word, Bad}
use Rattle.vs_stim.specs.declared.heading.Section.{Section}
use Rattle.vs_stim.specs.declared.heading.Section.TheVariants.{Title, Inputs, Outputs}
use Rattle.vs_stim.specs.declared.heading.Heading.{Heading}
use Rattle.vs_stim.specs.Fields.{is_skipped, words, fields}
use Rattle.vs_stim.specs.Header.{PortLists, ColumnLists, lengths, output_lengths, column_of, count_of, each_once, is_arrow, expected_of, is_expected}
use Rattle.vs_stim.specs.Row.{IsColumn}
use Rattle.vs_stim.specs.Wants.{IsExpected, IsExpectedOf, is_each_once}
use Rattle.vs_stim.specs.Reading.{Said}
use Rattle.vs_stim.specs.Reading.Said.{Skipped, Malformed, Given}

-- all names were read, and there is one of an output at least
abbrev pub some_expected : List Column → List Expected → Said ColumnLists
some_expected cs [] = Malformed
some_expected cs (e ∷ es) = Given (record { inputs = cs; expected = e ∷ es })

-- names of outputs are still to come behind these columns
abbrev pub outputs_to_come : PortLists → List Column → List Expected → List (List ℕ) → Said ColumnLists
outputs_to_come ports cs es [] = some_expected cs es
outputs_to_come ports cs es (f ∷ fs) =
    elim (expected_of 0 f ports.outputs) [
      | None ↦ Malformed
      | Some e ↦ elim (is_expected e.output es) [ true ↦ Malformed | false ↦ outputs_to_come ports cs (es ++ e ∷ []) fs ]
    ]

-- names of inputs are still to come behind these columns
abbrev pub names_to_come : PortLists → List Column → List Expected → List (List ℕ) → Said ColumnLists
names_to_come ports cs es [] = elim (each_once (length ports.inputs) cs) [ true ↦ Given (record { inputs = cs; expected = es }) | false ↦ Malformed ]
names_to_come ports cs es (f ∷ fs) =
    elim (is_arrow f) [
      | true ↦ elim (each_once (length ports.inputs) cs) [ true ↦ outputs_to_come ports cs es fs | false ↦ Malformed ]
      | false ↦ elim (column_of 0 f ports.inputs) [ None ↦ Malformed | Some c ↦ names_to_come ports (cs ++ c ∷ []) es fs ]
    ]

-- `inputs` is still to come
abbrev pub title_to_come : PortLists → List Column → List Expected → List (List ℕ) → Said ColumnLists
title_to_come ports cs es [] = Malformed
title_to_come ports cs es (f ∷ fs) = elim (bytes_eq f (codes "inputs")) [ true ↦ names_to_come ports cs es fs | false ↦ Malformed ]

-- the fields that are still to come in this section
abbrev pub fields_to_come : PortLists → Section → List Column → List Expected → List (List ℕ) → Said ColumnLists
fields_to_come ports Title cs es fs = title_to_come ports cs es fs
fields_to_come ports Inputs cs es fs = names_to_come ports cs es fs
fields_to_come ports Outputs cs es fs = outputs_to_come ports cs es fs

abbrev pub at_stage : Stage → PortLists → Section → List Column → List Expected → List ℕ → List ℕ → Said ColumnLists
at_stage Start ports section cs es word rest = elim (is_skipped rest) [ true ↦ Skipped | false ↦ fields_to_come ports section cs es (fields rest) ]
at_stage Comment ports section cs es word rest = Skipped
at_stage Gap ports section cs es word rest = fields_to_come ports section cs es (fields rest)
at_stage Word ports section cs es word rest = fields_to_come ports section cs es ((word ++ (words rest).word) ∷ (words rest).later)
at_stage Bad ports section cs es word rest = Malformed

-- what the line says if it goes on with this
abbrev pub heading_with : PortLists → Heading → List ℕ → Said ColumnLists
heading_with ports h rest = at_stage h.stage ports h.section h.columns.items h.expected.items h.word.items rest

-- no more names are called for
abbrev pub is_whole : Section → ℕ → List Column → List Expected → Bool
is_whole Title n cs es = false
is_whole Inputs n cs es = each_once n cs
is_whole Outputs n cs [] = false
is_whole Outputs n cs (e ∷ es) = true

abbrev pub lists_of : Columns → ColumnLists
lists_of cs = record { inputs = cs.inputs.items; expected = cs.expected.items }

-- the columns that it has read
abbrev pub columns_of_heading : Heading → ColumnLists
columns_of_heading h = record { inputs = h.columns.items; expected = h.expected.items }

-- the counts are those of each input's columns, of n inputs
pub record AreCounts (n : ℕ) (counts : List ℕ) (cs : List Column) : Type 0 where
  pub length : length counts ≡ n
  pub each : (j : ℕ) → j < n → slice_index counts j ≡ count_of j cs

-- nothing was read but what is skipped
pub record IsUnread (h : Heading) : Type 0 where
  pub section : h.section ≡ Title
  pub columns : h.columns.items ≡ []
  pub expected : h.expected.items ≡ []

-- no field was read yet, where none can have been
abbrev pub IsUntouched : Stage → Heading → Type 0
IsUntouched Start h = IsUnread h
IsUntouched Comment h = IsUnread h
IsUntouched Gap h = Unit {0}
IsUntouched Word h = Unit {0}
IsUntouched Bad h = Unit {0}

-- each input has a column where those of outputs are read
abbrev pub AreNamed : Section → ℕ → List Column → Type 0
AreNamed Title n cs = Unit {0}
AreNamed Inputs n cs = Unit {0}
AreNamed Outputs n cs = each_once n cs ≡ true

-- what is kept while a line is read
pub record IsHeading (ports : PortLists) (h : Heading) : Type 0 where
  pub counts : AreCounts (length ports.inputs) h.counts.items h.columns.items
  pub columns : All (IsColumn (lengths ports.inputs)) h.columns.items
  pub expected : All IsExpected h.expected.items
  pub outputs : All (IsExpectedOf (output_lengths ports.outputs)) h.expected.items
  pub once : is_each_once h.expected.items ≡ true
  pub named : AreNamed h.section (length ports.inputs) h.columns.items
  pub untouched : IsUntouched h.stage h

-- no word is open
abbrev pub IsBetween : Stage → Type 0
IsBetween Start = Unit {0}
IsBetween Comment = Unit {0}
IsBetween Gap = Unit {0}
IsBetween Word = ⊥
IsBetween Bad = Unit {0}

-- a field was read last
abbrev pub IsEnded : Stage → Type 0
IsEnded Start = ⊥
IsEnded Comment = ⊥
IsEnded Gap = Unit {0}
IsEnded Word = ⊥
IsEnded Bad = Unit {0}
