use Rattle.std.proofs.Common.{◌≡◌, drop, option_map}
use Rattle.vs_explanation.specs.Files as spec
use Rattle.vs_explanation.specs.Seen.{seen_of}
use Rattle.vs_explanation.proofs.files.file_place.Given as goal

abbrev pub invariant-loop-n : goal.invariant-loop-n
invariant-loop-n l =
    spec.file_place l.job (seen_of l.seen) l.at ≡ spec.place_from l.path l.from (option_map (λ t. t.now) l.seen.file) (drop l.n l.seen.starts.now) (drop l.n l.job.others) l.at
