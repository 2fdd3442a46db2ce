-- The lines of a refusal that has a place in the design's text.
use Rattle.std.specs.Prelude.{ℕ, ◌-◌, Bool, true, false, not, ◌&&◌, ◌==◌, List, [], ◌∷◌, ◌++◌, drop, Option, None, is_some, is_none, codes, option_and_then, if◌then◌else◌}
use Rattle.std.specs.List.{flat_map}
use Rattle.std.specs.Option.{option_map_or}
use Rattle.vs_names.specs.Drawn.{Drawn, process_byte}
use Rattle.vs_refusal.specs.Refusals.{name}
use Rattle.vs_refusal.specs.declared.refusal.Refusal.{Refusal}
use Rattle.vs_refusal.specs.declared.refusal.Refusal.TheVariants.{Latch, Sensitivity, TwoDrivers, Process, Cycle, Race}
use Rattle.vs_refusal.specs.declared.names.ProcessName.TheVariants.{NotTheClock}
use Rattle.vs_hints.specs.Hints.{opening, closing, remedy}
use Rattle.vs_job.specs.declared.job.Job.{Job}
use Rattle.vs_explanation.specs.Files.{FilePlace, file_place}
use Rattle.vs_explanation.specs.Seen.{Seen}
use Rattle.vs_explanation.specs.Placed.{place_text, caret_text, change_text}

-- `error: TwoDrivers: net top.y is driven from two places`
abbrev pub error_text : Refusal → List ℕ → List ℕ
error_text r subject = codes "error: " ++ (name r ++ (codes ": " ++ (opening r ++ (subject ++ (closing r ++ codes "\n")))))

-- the same behind a place
abbrev pub error_at : List ℕ → Refusal → List ℕ → List ℕ
error_at place r subject = place ++ (codes ": " ++ error_text r subject)

abbrev pub remedy_text : Refusal → List ℕ
remedy_text r = codes "note: " ++ (remedy r ++ codes " (docs/refusals.md)\n")

-- the further processes of a refusal, by number: of two drivers the first, and of a cycle all but the one that it is told at
abbrev pub further : Refusal → List ℕ
further (TwoDrivers bit first second at) = first ∷ []
further (Cycle processes at) = drop 1 processes
further _ = []

-- the byte of the text at which a reader finds a process
abbrev pub process_at : Seen → ℕ → Option ℕ
process_at seen process = option_and_then (λ (d : Drawn). process_byte d process) seen.drawn

-- each of them, where it is in its file
abbrev pub further_in : FilePlace → List ℕ
further_in p = place_text p.path p.file p.at ++ codes ": note: and here\n"

abbrev pub further_line : Job → Seen → ℕ → List ℕ
further_line job seen process =
    option_map_or (λ byte. further_in (file_place job seen (byte - seen.head))) (process_at seen process) []

abbrev pub further_text : Job → Seen → List ℕ → List ℕ
further_text job seen processes = flat_map (further_line job seen) processes

-- whether a refusal has numbers of the elaborated design
abbrev pub has_numbers : Refusal → Bool
has_numbers (Latch process bit at) = true
has_numbers (Sensitivity process signal at) = true
has_numbers (TwoDrivers bit first second at) = true
has_numbers (Cycle processes at) = true
has_numbers (Race process bit at) = true
has_numbers _ = false

-- a file that no longer elaborates, so that numbers have no names
abbrev pub unnamed_text : Seen → Refusal → List ℕ
unnamed_text seen r =
    if has_numbers r && (is_some seen.file && is_none seen.drawn) then codes "note: the file has changed: it elaborates to no design, so there are no names\n" else []

-- what is told at byte 0 may stand in a line of a macro before the file
abbrev pub head_text : ℕ → ℕ → List ℕ
head_text head at = if at == 0 && not (head == 0) then codes "note: or in a line that --define gives\n" else []

-- a clocked block is refused where no clock is named
abbrev pub clockless_text : List (List ℕ) → Refusal → List ℕ
clockless_text [] (Process NotTheClock process at) = codes "note: no clock is named: --clock <C> says which input it is\n"
clockless_text clocks r = []

-- the notes of a refusal at byte `at` of the text, which lies there
abbrev pub notes_text : Job → Seen → Refusal → ℕ → FilePlace → List ℕ
notes_text job seen r at p =
    head_text seen.head at ++ (further_text job seen (further r) ++ (change_text p.file p.at ++ (unnamed_text seen r ++ (clockless_text job.clocks r ++ remedy_text r))))

-- all its lines
abbrev pub located_in : Job → Seen → Refusal → List ℕ → ℕ → FilePlace → List ℕ
located_in job seen r subject at p = error_at (place_text p.path p.file p.at) r subject ++ (caret_text p.file p.at ++ notes_text job seen r at p)

abbrev pub located : Job → Seen → Refusal → List ℕ → ℕ → List ℕ
located job seen r subject at = located_in job seen r subject at (file_place job seen at)
