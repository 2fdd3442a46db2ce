-- The files of a bench, and the job over them.
use Rattle.std.specs.Prelude.{false, ℕ, zero, suc, List, [], ◌∷◌, ◌++◌, codes, decimal, Some}
use Rattle.vs_desk.specs.Desk.{Contents, no_contents}
use Rattle.vs_desk.specs.MemoryDesk.{with_file}
use Rattle.vs_job.specs.declared.job.Job.{Job}
use Rattle.vs_job.specs.declared.job.Mode.TheVariants.{Run}
use Rattle.vs_bench.specs.Texts.{Text, design, stimulus}

-- the path of the design
abbrev pub design_path : Text
design_path = codes "bench.v"

-- the path of a lane's stimulus: its number
abbrev pub lane_path : ℕ → Text
lane_path lane = decimal lane

-- the paths of the first lanes, so many
abbrev pub lane_paths : ℕ → List Text
lane_paths zero = []
lane_paths (suc lane) = lane_paths lane ++ lane_path lane ∷ []

-- the files of a bench: the design, and stimuli of so many vectors for so many lanes
abbrev pub files : ℕ → ℕ → Contents
files vectors zero = with_file no_contents design_path design
files vectors (suc lane) = with_file (files vectors lane) (lane_path lane) (stimulus lane vectors)

-- the job of a bench of so many lanes
abbrev pub job : ℕ → Job
job lanes = record { mode = Run; top = Some (codes "top"); clocks = codes "clk" ∷ []; half = 5; share = false; head = []; design = design_path; others = []; stimuli = lane_paths lanes }
