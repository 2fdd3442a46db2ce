-- The lines of a refusal of a stimulus.
use Rattle.std.specs.Prelude.{ℕ, zero, suc, ◌+◌, ◌-◌, Bool, true, false, ◌||◌, ◌==◌, List, [], ◌∷◌, ◌++◌, length, min, Option, Some, None, is_some, is_none, option_and_then, codes, decimal, if◌then◌else◌}
use Rattle.std.specs.List.{list_any, after_first}
use Rattle.std.specs.Option.{option_map_or}
use Rattle.vs_refusal.specs.declared.names.LaneName.TheVariants.{BadHeader, FirstUnknown, NoExpectation}
use Rattle.vs_refusal.specs.declared.names.LineName.TheVariants.{BadVector, UnknownReset, UnknownSelect}
use Rattle.vs_refusal.specs.declared.refusal.Refusal.{Refusal}
use Rattle.vs_refusal.specs.declared.refusal.Refusal.TheVariants.{Lane, Line}
use Rattle.vs_excerpt.specs.Positions.{is_newline}
use Rattle.vs_excerpt.specs.Escapes.{escaped}
use Rattle.vs_excerpt.specs.Excerpts.{excerpt}
use Rattle.vs_names.specs.Drawn.{Drawn, port_bits}
use Rattle.vs_stim.specs.Header.{PortLists}
use Rattle.vs_rows.specs.Rows.{header_row, row_bytes, first_unknown}
use Rattle.vs_rows.specs.Fields.{Wrong, is_mark, wrong_field}
use Rattle.vs_rows.specs.Naming.{BadName}
use Rattle.vs_rows.specs.declared.controls.Control.{Control}
use Rattle.vs_rows.specs.declared.controls.Control.TheVariants.{Reset, Select}
use Rattle.vs_rows.specs.Controls.{wrong_control}
use Rattle.vs_explanation.specs.Headers.{refuses_header, header_at}
use Rattle.vs_explanation.specs.Naming.{control_note, right_note}
use Rattle.vs_explanation.specs.Placed.{position_text, caret_text}
use Rattle.vs_explanation.specs.Seen.{Seen}

-- ---- lines by number

-- what stands behind the first newline, where there is one
abbrev pub behind_newline : List ℕ → Option (List ℕ)
behind_newline text = if list_any is_newline text then Some (after_first is_newline text) else None

-- and behind the first n newlines
abbrev pub behind_newlines : ℕ → List ℕ → Option (List ℕ)
behind_newlines zero text = Some text
behind_newlines (suc n) text = option_and_then (behind_newlines n) (behind_newline text)

-- the text of a file from its line n on, counted from 1
abbrev pub from_line : Option (List ℕ) → ℕ → Option (List ℕ)
from_line file n = option_and_then (behind_newlines (n - 1)) file

abbrev pub unshown : List ℕ
unshown = codes "note: the line can't be shown again\n"

-- a line of a stimulus, with a caret below this byte of it
abbrev pub row_text : Option (List ℕ) → ℕ → List ℕ
row_text None at = unshown
row_text (Some text) at = excerpt text (min at (length text))

-- ---- the field that is wrong

-- the fields of a line are refused
abbrev pub refuses_fields : Refusal → Bool
refuses_fields (Line BadVector lane row) = true
refuses_fields _ = false

-- and a digit of such an input is
abbrev pub refused_control : Refusal → Option Control
refused_control (Line UnknownReset lane row) = Some Reset
refused_control (Line UnknownSelect lane row) = Some Select
refused_control _ = None

-- names of a stimulus are held against the ports of the accepted design
abbrev pub asks_ports : Refusal → Bool
asks_ports r = refuses_header r || is_some (refused_control r)

-- the first field that isn't as the stimulus's header wants it, of the line with which this text begins
abbrev pub wrong_under : Option Drawn → (file line : List ℕ) → Option Wrong
wrong_under drawn file line = option_and_then (λ (at : ℕ). wrong_field drawn (row_bytes file at) (row_bytes line 0)) (header_row file)

abbrev pub wrong_seen : Option Drawn → (file line : Option (List ℕ)) → Option Wrong
wrong_seen drawn None line = None
wrong_seen drawn (Some file) None = None
wrong_seen drawn (Some file) (Some line) = wrong_under drawn file line

-- the first field that leaves such an input unknown, of the line with which this text begins
abbrev pub control_under : Control → PortLists → (file line : List ℕ) → Option Wrong
control_under control ports file line = option_and_then (λ (at : ℕ). wrong_control control ports.inputs (row_bytes file at) (row_bytes line 0)) (header_row file)

abbrev pub control_seen : Control → Option PortLists → (file line : Option (List ℕ)) → Option Wrong
control_seen control None file line = None
control_seen control (Some ports) None line = None
control_seen control (Some ports) (Some file) None = None
control_seen control (Some ports) (Some file) (Some line) = control_under control ports file line

-- of a line with a field that is refused, that one
abbrev pub wrong_of : Refusal → Seen → (line : Option (List ℕ)) → Option Wrong
wrong_of r seen line =
    if refuses_fields r then wrong_seen seen.drawn seen.file line
    else option_and_then (λ (control : Control). control_seen control seen.ports seen.file line) (refused_control r)

-- the byte of the line at which it begins; the first where there is none
abbrev pub wrong_byte : Option Wrong → ℕ
wrong_byte wrong = option_map_or (λ (w : Wrong). w.at) wrong 0

-- the byte of the line at which a refusal is told, where this is seen from that line on
abbrev pub row_at : Option (List ℕ) → Option Wrong → ℕ
row_at None wrong = 0
row_at (Some text) wrong = min (wrong_byte wrong) (length text)

abbrev pub no_digit : List ℕ
no_digit = codes "a byte that is no digit\n"

abbrev pub sizes_text : (size wanted : ℕ) → List ℕ
sizes_text size wanted = decimal size ++ (codes " digits, and " ++ (decimal wanted ++ codes " are wanted\n"))

-- what the field has, where a port has so many bits: another number of digits, or a byte that is none
abbrev pub digits_text : Option ℕ → ℕ → List ℕ
digits_text None size = if size == 0 then codes "no digits\n" else no_digit
digits_text (Some n) size = if size == n then no_digit else sizes_text size n

-- what a field has to be
abbrev pub mark_text : List ℕ → List ℕ
mark_text mark = codes " has to be " ++ (escaped mark ++ codes "\n")

abbrev pub named_text : Option Drawn → (name : List ℕ) → (size : ℕ) → List ℕ
named_text drawn name size =
    if is_mark name then mark_text name
    else codes ", " ++ (escaped name ++ (codes ", has " ++ digits_text (port_bits drawn name) size))

abbrev pub problem_text : Option Drawn → (name : List ℕ) → (size : ℕ) → List ℕ
problem_text drawn [] size = codes " has no name in the header\n"
problem_text drawn (b ∷ bs) size = named_text drawn (b ∷ bs) size

abbrev pub wrong_text : Option Drawn → Wrong → List ℕ
wrong_text drawn w = codes "note: field " ++ (decimal w.place ++ problem_text drawn w.name w.size)

-- No field is wrong: the files aren't as they were, or there is no design by whose ports digits could be counted.
abbrev pub matched_text : Option Drawn → List ℕ
matched_text None = codes "note: the design can't be elaborated again, so digits aren't counted\n"
matched_text (Some d) = codes "note: the files have changed: no field of the line is wrong\n"

-- what is said of a line in which no field is wrong
abbrev pub right_text : Refusal → Seen → List ℕ
right_text r seen = if refuses_fields r then matched_text seen.drawn else (if is_some (refused_control r) then right_note seen.ports else [])

-- and of a field that is
abbrev pub field_text_of : Option Control → Seen → Wrong → List ℕ
field_text_of (Some control) seen w = control_note control w
field_text_of None seen w = wrong_text seen.drawn w

abbrev pub field_text : Refusal → Seen → Wrong → List ℕ
field_text r seen w = field_text_of (refused_control r) seen w

-- what is said of the fields of a line
abbrev pub fields_text : Refusal → Seen → (line : Option (List ℕ)) → Option Wrong → List ℕ
fields_text r seen line None = if is_some line then right_text r seen else []
fields_text r seen line (Some w) = field_text r seen w

-- ---- lines without a number

-- The byte of a stimulus at which a refusal is told that has no number of a line: where in the header what is wrong in it begins, where the header does, or the first x or z
-- digit of the first vector.
abbrev pub row_of : Refusal → Option (List ℕ) → Option BadName → Option ℕ
row_of (Lane BadHeader lane) file bad = header_at file bad
row_of (Lane NoExpectation lane) file bad = option_and_then header_row file
row_of (Lane FirstUnknown lane) file bad = option_and_then first_unknown file
row_of _ file bad = None

abbrev pub row_position : Option (List ℕ) → Option ℕ → List ℕ
row_position file at = option_map_or (position_text file) at []

-- a line is to be shown; of a file that was read and has no line that counts there is no header
abbrev pub has_row : Refusal → Option (List ℕ) → Bool
has_row (Lane BadHeader lane) file = is_none file
has_row (Lane NoExpectation lane) file = true
has_row (Lane FirstUnknown lane) file = true
has_row _ file = false

-- the line with a caret, or a note where it is to be shown and isn't there
abbrev pub row_caret : Refusal → Option (List ℕ) → Option ℕ → List ℕ
row_caret r file None = if has_row r file then unshown else []
row_caret r file (Some at) = caret_text file at
