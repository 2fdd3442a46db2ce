use Rattle.std.proofs.Common.{sym, ap, ◌∙◌}
use Rattle.vs_four.specs.Planes.{bits_of_planes}
use Rattle.vs_stim.specs.Wanted.{marked}
use Rattle.vs_stim.proofs.Marked.{view_length}
use Rattle.vs_stim.proofs.wanted.Wanted.planes.Goals as goal

pub returns : goal.returns
returns c =
    let value = c.planes-value.result.0 in
    let unknown = c.planes-value.result.1 in
    let long = view_length c.self.inside.bits c.self.inside.any c.args.self.now c.self.view_is in
    sym c.self.view_is ∙ ap (λ bits. marked bits c.self.inside.any) (sym (ap (λ n. bits_of_planes n value unknown) (sym long) ∙ c.planes-value.ensures.vector))
