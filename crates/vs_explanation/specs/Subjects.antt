-- The name or the number in the sentence of a refusal.
use Rattle.std.specs.Prelude.{ℕ, ◌-◌, nat_lt, List, [], ◌∷◌, ◌++◌, ◌==◌, length, slice_get, Option, Some, None, codes, decimal, if◌then◌else◌}
use Rattle.std.specs.List.{flat_map}
use Rattle.std.specs.Option.{option_map_or}
use Rattle.vs_desk.specs.Places.{stimulus_place, waveform_place, other_place}
use Rattle.vs_flat.specs.DesignOf.{design_of}
use Rattle.vs_names.specs.Names.{bit_text, signal_of_number}
use Rattle.vs_names.specs.Drawn.{Drawn}
use Rattle.vs_job.specs.declared.job.Job.{Job}
use Rattle.vs_job.specs.declared.job.Mode.{Mode}
use Rattle.vs_job.specs.declared.job.Mode.TheVariants.{Run, Check, Queue}
use Rattle.vs_refusal.specs.declared.names.BareName.TheVariants.{NoTop, NoClock}
use Rattle.vs_refusal.specs.declared.refusal.Refusal.{Refusal}
use Rattle.vs_refusal.specs.declared.refusal.Refusal.TheVariants.{Bare, SamePath, TooLarge, Latch, Sensitivity, TwoDrivers, Race}
use Rattle.vs_excerpt.specs.Escapes.{escaped}

-- what the path of a stimulus has added in that of its waveform
abbrev pub wave_suffix : Mode → List ℕ
wave_suffix Run = codes ".vcd"
wave_suffix Check = codes ".vcd"
wave_suffix (Queue order) = codes ".queue.vcd"

-- the path of the waveform of a stimulus, as it is shown
abbrev pub wave_path : Mode → List ℕ → List ℕ
wave_path mode stimulus = escaped stimulus ++ wave_suffix mode

-- a place of a run in words
abbrev pub role_text : ℕ → List ℕ
role_text place =
    if nat_lt place (stimulus_place 0) then codes "the design"
    else (if nat_lt place (waveform_place 0) then codes "the stimulus of lane " ++ decimal (place - stimulus_place 0)
    else (if nat_lt place (other_place 0) then codes "the waveform of lane " ++ decimal (place - waveform_place 0) else codes "the design's further file " ++ decimal (place - other_place 0)))

-- the path of a lane's stimulus, as it is shown, and of its waveform; of a lane that the job hasn't they are empty
abbrev pub stimulus_path : Job → ℕ → List ℕ
stimulus_path job lane = option_map_or escaped (slice_get job.stimuli lane) []

abbrev pub waveform_path : Job → ℕ → List ℕ
waveform_path job lane = option_map_or (wave_path job.mode) (slice_get job.stimuli lane) []

-- the path of a further file of the design; of one that the job hasn't it is empty
abbrev pub other_path : Job → ℕ → List ℕ
other_path job n = option_map_or escaped (slice_get job.others n) []

-- the path of a place
abbrev pub path_text : Job → ℕ → List ℕ
path_text job place =
    if nat_lt place (stimulus_place 0) then escaped job.design
    else (if nat_lt place (waveform_place 0) then stimulus_path job (place - stimulus_place 0)
    else (if nat_lt place (other_place 0) then waveform_path job (place - waveform_place 0) else other_path job (place - other_place 0)))

-- a bit by its name, and by its number where there is no design
abbrev pub bit_subject : Option Drawn → ℕ → List ℕ
bit_subject drawn bit = option_map_or (λ (d : Drawn). bit_text (design_of d.flat) bit) drawn (codes "bit " ++ decimal bit)

abbrev pub signal_subject : Option Drawn → ℕ → List ℕ
signal_subject drawn signal = option_map_or (λ (d : Drawn). signal_of_number (design_of d.flat) signal) drawn (codes "signal " ++ decimal signal)

abbrev pub roles_text : ℕ → ℕ → List ℕ
roles_text first second = role_text first ++ (codes " and to " ++ role_text second)

abbrev pub size_text : ℕ → List ℕ
size_text size = decimal size ++ codes " plane operations a half-period"

-- a refusal of the top is of the name that is given, or of the one module that no instance names
abbrev pub top_text : Option (List ℕ) → List ℕ
top_text None = codes "that is the only one without an instance"
top_text (Some top) = escaped top

-- a name behind a comma
abbrev pub behind_text : List ℕ → List ℕ
behind_text name = codes "," ++ escaped name

-- names, each so
abbrev pub more_text : List (List ℕ) → List ℕ
more_text names = flat_map behind_text names

-- several names, parted by commas: it isn't told which of them is none of an input's, or is given twice
abbrev pub several_text : List ℕ → List (List ℕ) → List ℕ
several_text name more = codes "for one of " ++ (escaped name ++ (more_text more ++ codes ", or a name is there twice"))

-- a refusal of the clocks is of the names that are given
abbrev pub names_text : List (List ℕ) → List ℕ
names_text [] = []
names_text (name ∷ more) = if length more == 0 then escaped name else several_text name more

-- nothing where the sentence has neither
abbrev pub subject : Job → Option Drawn → Refusal → List ℕ
subject job drawn (Bare NoTop) = top_text job.top
subject job drawn (Bare NoClock) = names_text job.clocks
subject job drawn (SamePath first second) = roles_text first second
subject job drawn (TooLarge size) = size_text size
subject job drawn (Latch process bit at) = bit_subject drawn bit
subject job drawn (Sensitivity process signal at) = signal_subject drawn signal
subject job drawn (TwoDrivers bit first second at) = bit_subject drawn bit
subject job drawn (Race process bit at) = bit_subject drawn bit
subject job drawn _ = []
