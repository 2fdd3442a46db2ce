use Rattle.std.proofs.Common.{◌≡◌, ◌∙◌, length, sym, ap}
use Rattle.std.proofs.lemmas.List.{length-map}
use Rattle.vs_values.specs.Constants.{constant_bit}
use Rattle.vs_values.proofs.Folding.{has_lengths}
use Rattle.vs_values.proofs.expressions.folded.Goals as goal

pub apply-value-requires : goal.apply-value-requires
apply-value-requires c =
    let a : length c.in_ok-a.a ≡ length c.args.a.now = ap length c.in_ok-a.ensures ∙ length-map c.args.a.now constant_bit in
    let b : length c.in_ok-b.b ≡ length c.args.b.now = ap length c.in_ok-b.ensures ∙ length-map c.args.b.now constant_bit in
    has_lengths c.args.op c.in_ok-a.a c.in_ok-b.b (λ e. a ∙ c.requires.alike e ∙ sym b) (λ e. a ∙ c.requires.compared e ∙ sym b)
