-- What is said of a refusal.
use Rattle.std.specs.Prelude.{ℕ, ◌+◌, List, ◌++◌, Option, Some, None}
use Rattle.std.specs.Option.{option_map_or}
use Rattle.vs_desk.specs.Places.{stimulus_place}
use Rattle.vs_job.specs.declared.job.Job.{Job}
use Rattle.vs_refusal.specs.declared.refusal.Refusal.{Refusal}
use Rattle.vs_refusal.specs.declared.refusal.Refusal.TheVariants.{SamePath, At, TooLarge, Latch, Sensitivity, TwoDrivers, Process, Cycle, Race, Lane, Line}
use Rattle.vs_rows.specs.Fields.{Wrong}
use Rattle.vs_rows.specs.Naming.{BadName}
use Rattle.vs_explanation.specs.Seen.{Seen}
use Rattle.vs_explanation.specs.Placed.{line_column}
use Rattle.vs_explanation.specs.Subjects.{subject, path_text}
use Rattle.vs_explanation.specs.Heavy.{heavy_text}
use Rattle.vs_explanation.specs.Located.{error_at, remedy_text, located}
use Rattle.vs_explanation.specs.Headers.{bad_of, names_text}
use Rattle.vs_explanation.specs.Rows.{from_line, row_text, wrong_of, row_at, fields_text, row_of, row_position, row_caret}

-- the byte of the design's text at which a refusal is told; a stimulus's and those without a place have none
abbrev pub at_of : Refusal → Option ℕ
at_of (At kind at) = Some at
at_of (Latch process bit at) = Some at
at_of (Sensitivity process signal at) = Some at
at_of (TwoDrivers bit first second at) = Some at
at_of (Process kind process at) = Some at
at_of (Cycle processes at) = Some at
at_of (Race process bit at) = Some at
at_of _ = None

-- the place of a job that a refusal without a byte is about
abbrev pub about : Refusal → ℕ
about (SamePath first second) = second
about (Lane kind lane) = stimulus_place lane
about (Line kind lane row) = stimulus_place lane
about _ = 1

-- all lines of a refusal of a line of a stimulus, where this is what is seen of it from that line on, and a field of it is wrong
abbrev pub lined : Job → Seen → Refusal → (row : ℕ) → (line : Option (List ℕ)) → Option Wrong → List ℕ
lined job seen r row line wrong =
    error_at (path_text job (about r) ++ line_column row (row_at line wrong + 1)) r (subject job seen.drawn r)
    ++ (row_text line (row_at line wrong) ++ (fields_text r seen line wrong ++ remedy_text r))

-- all lines of a refusal that has no number of a line, where it is told at this byte of the file that was seen, and this is wrong in the header
abbrev pub unlined_at : Job → Seen → Refusal → (at : Option ℕ) → Option BadName → List ℕ
unlined_at job seen r at bad =
    error_at (path_text job (about r) ++ row_position seen.file at) r (subject job seen.drawn r)
    ++ (row_caret r seen.file at ++ (names_text r seen at bad ++ remedy_text r))

-- all lines of a refusal that has no number of a line
abbrev pub unlined : Job → Seen → Refusal → List ℕ
unlined job seen r = unlined_at job seen r (row_of r seen.file (bad_of r seen)) (bad_of r seen)

-- all lines of a design that is too large
abbrev pub oversized : Job → Seen → Refusal → List ℕ
oversized job seen r = error_at (path_text job (about r)) r (subject job seen.drawn r) ++ (heavy_text job seen seen.heavy ++ remedy_text r)

abbrev pub unlocated : Job → Seen → Refusal → List ℕ
unlocated job seen (TooLarge size) = oversized job seen (TooLarge size)
unlocated job seen (Line kind lane row) =
    lined job seen (Line kind lane row) row (from_line seen.file row) (wrong_of (Line kind lane row) seen (from_line seen.file row))
unlocated job seen r = unlined job seen r

-- all lines of a refusal of a job
abbrev pub refusal_text : Job → Seen → Refusal → List ℕ
refusal_text job seen r = option_map_or (located job seen r (subject job seen.drawn r)) (at_of r) (unlocated job seen r)
