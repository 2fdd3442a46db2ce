-- Places whose paths aren't built.
use Rattle.std.specs.Prelude.{ℕ, List, ◌++◌, codes}
use Rattle.vs_job.specs.declared.job.Mode.{Mode}
use Rattle.vs_job.specs.declared.job.Mode.TheVariants.{Queue}
use Rattle.vs_job.specs.declared.places.Path.{Path}
use Rattle.vs_job.specs.declared.places.Path.TheVariants.{Word, Waveform}
use Rattle.vs_job.specs.declared.places.Place.{Place as Lent}
use Rattle.vs_job.specs.Places.{Place}

-- what is added to a stimulus's path for that of its waveform
abbrev pub ending : Mode → List ℕ
ending (Queue order) = codes ".queue.vcd"
ending _ = codes ".vcd"

-- the path, where this is added for waveforms
abbrev pub path_of : List ℕ → Path → List ℕ
path_of added (Word word) = word.now
path_of added (Waveform word) = word.now ++ added

abbrev pub place_of : List ℕ → Lent → Place
place_of added p = record { number = p.number; path = path_of added p.path }
