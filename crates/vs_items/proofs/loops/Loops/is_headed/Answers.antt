use Rattle.std.proofs.Common.{ap, ◌∙◌}
use Rattle.std.specs.List.{list_any}
use Rattle.vs_elaborated.specs.Heads.{same_integer}
use Rattle.vs_elaborated.specs.Surveys as survey
use Rattle.vs_items.specs.Loops.{integer_of}
use Rattle.vs_items.proofs.LoopSteps.{known_headed}
use Rattle.vs_items.proofs.loops.Loops.is_headed.Goals as goal

pub returns : goal.returns
returns c =
    c.contains.ensures ∙ known_headed c.self.inside.known.keys c.self.inside.headed.items c.args.i c.self.invariant
    ∙ ap (λ (l : survey.Loops). list_any (same_integer (integer_of c.args.i)) l.headed) c.self.view_is
