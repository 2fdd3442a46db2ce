-- Words that ask for an explanation.
use Rattle.std.specs.Prelude.{Bool, false, List, ◌∷◌, drop, codes, bytes_eq}
use Rattle.vs_job.specs.Job.{Text}

-- `--explain` is the first word behind the program's own name
abbrev pub is_asked : List Text → Bool
is_asked (program ∷ word ∷ words) = bytes_eq word (codes "--explain")
is_asked _ = false

-- The words that are run then: those behind the program's own name. So `--explain` stands where that name does, at which no command looks.
abbrev pub asked : List Text → List Text
asked words = drop 1 words
