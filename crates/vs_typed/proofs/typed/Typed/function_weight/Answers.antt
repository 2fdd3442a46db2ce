use Rattle.std.proofs.Common.{length, refl, ap, ◌∙◌, subst, arith}
use Rattle.std.proofs.lemmas.Option.{slice_get_read}
use Rattle.vs_flat.specs.Arena.{Arena}
use Rattle.vs_flat.specs.DesignOf.{design_of}
use Rattle.vs_typed.specs.Functions.{HaveWeights}
use Rattle.vs_typed.proofs.WeightSteps.{weighed}
use Rattle.vs_typed.proofs.typed.Typed.function_weight.Goals as goal

pub returns : goal.returns
returns c x is fit =
    let weights = c.self.inside.weights.items in
    let are = subst (λ (a : Arena). HaveWeights (design_of a).functions weights) c.self.view_is c.self.invariant.weights_are in
    let many = ap (λ (a : Arena). length a.bodies) c.self.view_is in
    let at = slice_get_read weights (length weights) c.args.f c.index.result.now refl (omega (arith, c.requires, c.self.invariant.all_weighed, many)) c.index.ensures in
    c.unwrap_or.ensures ∙ weighed x.statement c.index.result.now (are c.args.f x c.index.result.now is at) fit
