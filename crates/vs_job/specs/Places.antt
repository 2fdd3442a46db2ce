-- The places of a job on a desk, and the path of each.
use Rattle.std.specs.Prelude.{◌≢◌, ℕ, suc, List, [], ◌∷◌, ◌++◌, map, AllPairs, Option, Some, None, codes, bytes_eq, if◌then◌else◌}
use Rattle.vs_desk.specs.Places.{design_place, stimulus_place, waveform_place, other_place}
use Rattle.vs_job.specs.declared.job.Job.{Job}
use Rattle.vs_job.specs.declared.job.Mode.{Mode}
use Rattle.vs_job.specs.declared.job.Mode.TheVariants.{Run, Check, Queue}

-- a place's number, and its path
pub record Place : Type 0 where
  pub number : ℕ
  pub path : List ℕ

abbrev pub place : ℕ → List ℕ → Place
place number path = record { number = number; path = path }

-- the path of the waveform of a stimulus in a run
abbrev pub vcd_path : List ℕ → List ℕ
vcd_path stimulus = stimulus ++ codes ".vcd"

-- and where the event queue runs it
abbrev pub queue_path : List ℕ → List ℕ
queue_path stimulus = stimulus ++ codes ".queue.vcd"

-- places that are numbered from n on, with these paths
abbrev pub places_from : ℕ → List (List ℕ) → List Place
places_from n [] = []
places_from n (path ∷ paths) = place n path ∷ places_from (suc n) paths

-- the waveforms by lane, and none where no file is written
abbrev pub waveforms : Mode → List (List ℕ) → List Place
waveforms Run stimuli = places_from (waveform_place 0) (map vcd_path stimuli)
waveforms Check stimuli = []
waveforms (Queue order) stimuli = places_from (waveform_place 0) (map queue_path stimuli)

-- the design, the stimuli by lane, the waveforms by lane, and the further files of the design
unfoldable pub places : Job → List Place
places j = place design_place j.design ∷ (places_from (stimulus_place 0) j.stimuli ++ (waveforms j.mode j.stimuli ++ places_from (other_place 0) j.others))

-- the first of the places that has this path
abbrev pub place_with : List ℕ → List Place → Option ℕ
place_with path [] = None
place_with path (p ∷ ps) = if bytes_eq p.path path then Some p.number else place_with path ps

-- a place with the path of an earlier one, or else what comes later
abbrev pub pair_or : Option ℕ → ℕ → Option (ℕ × ℕ) → Option (ℕ × ℕ)
pair_or None number later = later
pair_or (Some first) number later = Some (first, number)

-- The first place that has the path of an earlier one: the earliest place with that path, and this one.
abbrev pub same_from : List Place → List Place → Option (ℕ × ℕ)
same_from earlier [] = None
same_from earlier (p ∷ ps) = pair_or (place_with p.path earlier) p.number (same_from (earlier ++ p ∷ []) ps)

-- Two places whose paths are equal texts: of all pairs the one whose later member comes first, and with it the
-- earliest equal one.
unfoldable pub same_paths : Job → Option (ℕ × ℕ)
same_paths j = same_from [] (places j)

-- no two of the places have the same path
abbrev pub PathsDiffer : List Place → Type 0
PathsDiffer ps = AllPairs (λ p q. p.path ≢ q.path) ps
