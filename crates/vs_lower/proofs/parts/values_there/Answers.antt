use Rattle.std.proofs.Common.{◌∙◌, ◌++◌, ◌∷◌, [], ◌≤◌, ℕ, Option, length, slice_index, ap, ap₂, arith}
use Rattle.std.proofs.lemmas.List.{take_all}
use Rattle.vs_lower.specs.Parts.{those_there}
use Rattle.vs_lower.proofs.Columns.{those_more}
use Rattle.vs_lower.proofs.parts.values_there.Goals as goal

pub loop-k-preserved : goal.loop-k-preserved
loop-k-preserved c =
    c.in_ok-push_value.ensures
    ∙ ap (λ (p : Option ℕ). c.loop-k.to.items ++ those_there (p ∷ []) (slice_index c.args.value.now c.loop-k.k ∷ [])) c.get.ensures
    ∙ those_more c.args.places.now c.args.value.now c.loop-k.k c.loop-k.to.items (omega (arith, c.loop-k-test.true, c.len-k-end.ensures.value)) c.requires c.loop-k.invariant

pub returns : goal.returns
returns c =
    let end : length c.args.places.now ≤ c.loop-k.k = omega (arith, c.loop-k-test.false, c.len-k-end.ensures.value) in
    c.loop-k.invariant ∙ ap₂ those_there (take_all c.loop-k.k c.args.places.now end) (take_all c.loop-k.k c.args.value.now (omega (arith, end, c.requires)))
