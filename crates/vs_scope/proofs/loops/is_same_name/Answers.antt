use Rattle.std.proofs.Common.{ap, ◌∙◌}
use Rattle.vs_design.specs.Clocks.{same_name}
use Rattle.vs_maps.proofs.NameMaps.{same_of}
use Rattle.vs_scope.proofs.loops.is_same_name.Goals as goal

pub returns : goal.returns
returns c =
    c.eq.ensures ∙ same_of c.as_slice.result.now c.as_slice-2.result.now ∙ ap (λ x. same_name x c.as_slice.result.now) c.as_slice-2.ensures ∙ ap (same_name c.args.a.now.text) c.as_slice.ensures
