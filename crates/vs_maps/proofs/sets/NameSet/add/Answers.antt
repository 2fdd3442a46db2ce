use Rattle.std.proofs.Common.{ℕ, List, is_some, ap, ◌∙◌}
use Rattle.vs_maps.specs.Maps.{Pair, value_at}
use Rattle.vs_maps.specs.MapViews.{pairs}
use Rattle.vs_maps.proofs.NameSets.{some_more}
use Rattle.vs_maps.proofs.sets.NameSet.add.Goals as goal

pub returns : goal.returns
returns c = λ other. ap (λ (ps : List (Pair ℕ)). is_some (value_at other ps)) c.in_ok-put.ensures.put ∙ some_more c.args.name.now other 0 (pairs c.args.self.now.map)
