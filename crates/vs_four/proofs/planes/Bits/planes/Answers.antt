use Rattle.std.proofs.Common.{ℕ, ◌<◌, ◌^◌, length, ap, sym, subst, ◌∙◌}
use Rattle.vs_four.specs.Planes.{bits_of_planes}
use Rattle.vs_four.specs.PlanesBack.{length-planes}
use Rattle.vs_four.proofs.planes.Bits.planes.Goals as goal

pub returns-clause-vector : goal.returns-clause-vector
returns-clause-vector c =
    let b = c.self.inside in
    ap (λ (n : ℕ). bits_of_planes n b.value b.unknown) (ap length (sym c.self.view_is) ∙ length-planes b.len b.value b.unknown) ∙ c.self.view_is

pub returns-clause-value_below : goal.returns-clause-value_below
returns-clause-value_below c =
    let b = c.self.inside in
    subst (λ (n : ℕ). b.value < 2 ^ n) (sym (length-planes b.len b.value b.unknown) ∙ ap length c.self.view_is) c.self.invariant.2

pub returns-clause-unknown_below : goal.returns-clause-unknown_below
returns-clause-unknown_below c =
    let b = c.self.inside in
    subst (λ (n : ℕ). b.unknown < 2 ^ n) (sym (length-planes b.len b.value b.unknown) ∙ ap length c.self.view_is) c.self.invariant.3
