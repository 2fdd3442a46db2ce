use Rattle.std.proofs.Common.{length, map, ap, ◌∙◌}
use Rattle.std.proofs.lemmas.List.{length-map}
use Rattle.vs_net.specs.Network.{State}
use Rattle.vs_design.specs.Lifted.{Family}
use Rattle.vs_design.specs.Sets.{only}
use Rattle.vs_zero.proofs.Starting.{sets_mapped}
use Rattle.vs_zero.proofs.starts.early_sources.Goals as goal

pub returns-clause-count : goal.returns-clause-count
returns-clause-count c = ap length (c.in_ok-sets.ensures ∙ ap (map only) c.as_slice.ensures.value) ∙ length-map c.in_ok-values.values.items only ∙ c.in_ok-values.ensures.count

pub returns-clause-sets : goal.returns-clause-sets
returns-clause-sets c =
    sets_mapped c.in_ok-values.values.items c.in_ok-sets.sets.items (c.in_ok-sets.ensures ∙ ap (map only) c.as_slice.ensures.value) ∙ ap (λ (s : State). let f : Family = λ b. only (s b) in f) c.in_ok-values.ensures.values
