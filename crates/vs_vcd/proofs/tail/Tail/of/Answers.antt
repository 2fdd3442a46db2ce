use Rattle.std.proofs.Common.{length, ◌++◌, ◌∷◌, [], ◌∙◌, ap, length-append, arith}
use Rattle.vs_vcd.specs.Values.{tail_text}
use Rattle.vs_vcd.specs.Numerals.{identifier}
use Rattle.vs_vcd.proofs.LineLemmas.{front_is}
use Rattle.vs_vcd.proofs.tail.Tail.of.Goals as goal

pub invariant_of-result : goal.invariant_of-result
invariant_of-result c =
    omega (arith, ap length (c.as_slice-text.ensures ∙ c.push-2.ensures), length-append c.push_identifier.new.self (10 ∷ []), ap length c.push.ensures, ap length c.new-line.ensures, length-append c.new-line.result (32 ∷ []))

pub returns : goal.returns
unfolding tail_text
returns c =
    front_is c.as_slice-text.result.now c.copy_from_slice.new.self _ c.copy_from_slice.ensures.after
    ∙ c.as_slice-text.ensures
    ∙ c.push-2.ensures
    ∙ ap (λ t. t ++ 10 ∷ []) (c.push_identifier.ensures.text ∙ ap (λ t. t ++ identifier c.args.number) (c.push.ensures ∙ ap (λ t. t ++ 32 ∷ []) c.new-line.ensures))
