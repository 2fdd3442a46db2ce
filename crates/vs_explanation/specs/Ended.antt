-- What is said of an answer that isn't a refusal of a job.
use Rattle.std.specs.Prelude.{ℕ, List, [], ◌∷◌, ◌++◌, ◌==◌, codes, decimal, suc, if◌then◌else◌}
use Rattle.vs_job.specs.declared.job.Job.{Job}
use Rattle.vs_job.specs.declared.job.Mode.{Mode}
use Rattle.vs_explanation.specs.Subjects.{path_text, wave_path}

-- a number between two texts
abbrev pub numbered : List ℕ → ℕ → List ℕ → List ℕ
numbered before n behind = before ++ (decimal n ++ behind)

-- a line of a number behind what it counts
abbrev pub counted : List ℕ → ℕ → List ℕ
counted what n = numbered what n (codes "\n")

-- of a run that is done
abbrev pub done_text : ℕ → ℕ → ℕ → ℕ → List ℕ
done_text lanes vectors settlings size =
    counted (codes "note: lanes: ") lanes ++ (counted (codes "note: vectors of all lanes together: ") vectors
    ++ (counted (codes "note: half-periods of the clock: ") settlings ++ counted (codes "note: plane operations in each half-period, at most: ") size))

-- how many lanes of a check missed something: an error where one did
abbrev pub missed_text : ℕ → List ℕ
missed_text missed =
    if missed == 0 then codes "note: no lane missed what its stimulus wants\n"
    else counted (codes "error: lanes that missed what their stimuli want: ") missed

-- of a check that is done
abbrev pub checked_text : ℕ → ℕ → ℕ → ℕ → ℕ → List ℕ
checked_text lanes vectors settlings size missed = missed_text missed ++ done_text lanes vectors settlings size

-- of a run of the queue that is done
abbrev pub ordered_text : ℕ → ℕ → ℕ → List ℕ
ordered_text vectors slots order =
    counted (codes "note: the order of the event queue's steps: ") order ++ (counted (codes "note: vectors: ") vectors ++ counted (codes "note: time slots: ") slots)

-- `note: waveform of lane 0: s0.vcd`
abbrev pub wave_line : Mode → ℕ → List ℕ → List ℕ
wave_line mode lane stimulus = numbered (codes "note: waveform of lane ") lane (codes ": ") ++ (wave_path mode stimulus ++ codes "\n")

-- the waveforms' paths, of which the first is of this lane
abbrev pub waves_from : Mode → ℕ → List (List ℕ) → List ℕ
waves_from mode lane [] = []
waves_from mode lane (stimulus ∷ stimuli) = wave_line mode lane stimulus ++ waves_from mode (suc lane) stimuli

-- of a file that can't be read
abbrev pub read_fault_text : Job → ℕ → List ℕ
read_fault_text job place =
    path_text job place ++ codes ": error: ReadFault: the file can't be read\nnote: check that it is there, and who may read it (docs/refusals.md)\n"

-- of standard output that can't be written
abbrev pub output_fault_text : List ℕ
output_fault_text = codes "error: WriteFault: standard output can't be written\n"

-- of a file that can't be written
abbrev pub file_fault_text : Job → ℕ → List ℕ
file_fault_text job place =
    path_text job place ++ codes ": error: WriteFault: the file can't be written\nnote: check who may write it, and the room on its disk (docs/refusals.md)\n"

abbrev pub write_fault_text : Job → ℕ → List ℕ
write_fault_text job place = if place == 0 then output_fault_text else file_fault_text job place

-- of want of memory
abbrev pub memory_text : List ℕ
memory_text = codes "error: Memory: there was not enough memory\nnote: docs/trust.md says what a run takes (docs/refusals.md)\n"
