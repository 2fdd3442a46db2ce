use Rattle.std.proofs.Common.{Bool, [], ◌∷◌, ◌++◌, if◌then◌else◌, ap, ◌∙◌}
use Rattle.vs_driver.specs.Writers.{first_writers}
use Rattle.vs_driver.proofs.writers.with_any.Goals as goal

pub returns : goal.returns
returns c xs k = c.with_one.ensures xs k ∙ ap (λ (t : Bool). first_writers (xs ++ (if t then (c.args.x ∷ []) else []))) c.has_bit.ensures
