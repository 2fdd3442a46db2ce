use Rattle.std.proofs.Common.{◌≡◌, ◌+◌, ◌*◌, refl, sym, ap, ap₂, ◌∙◌}
use Rattle.std.specs.Prelude.{Option, None, Some}
use Rattle.vs_four.specs.declared.Range.{Range}
use Rattle.vs_four.specs.Selects.{range_length}
use Rattle.vs_design.specs.Expressions.{range_or_one, range_or_zero}
use Rattle.vs_design.specs.Sizes as S
use Rattle.vs_typed.specs.Weights.{capped}
use Rattle.vs_typed.proofs.Capped.{times_capped}
use Rattle.vs_typed.proofs.words.address_weight.Goals as goal

-- one word where there are no addresses
count_of : (words : Option Range) → range_or_one words ≡ range_length (range_or_zero words)
count_of None = refl
count_of (Some r) = refl

pub returns : goal.returns
returns c =
    let e = c.trees_law.ensures.signals c.args.shapes.now c.args.memory c.signal-signal.result.now (rw c.flat.ensures.same at c.signal-signal.ensures) in
    let each = c.plus-each.ensures ∙ ap (λ k. capped (c.args.m + k)) c.range_bits.ensures in
    let words = range_length (range_or_zero c.signal-signal.result.now.words) in
    let word = c.args.m + range_or_one c.signal-signal.result.now.range in
    let all = c.times.ensures ∙ ap₂ (λ k n. capped (k * n)) (c.range_bits-2.ensures ∙ count_of c.signal-signal.result.now.words) each ∙ times_capped words word in
    c.times-2.ensures ∙ ap (λ n. capped (2 * n)) all ∙ times_capped 2 (words * word) ∙ sym (ap (λ s. capped (S.address_weight s c.args.m)) e)
