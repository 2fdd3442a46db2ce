use Rattle.std.proofs.Common.{sym, ap, ◌∙◌, ◌+◌, ◌%◌, ◌^◌, ◌<◌, length, arith}
use Rattle.std.proofs.lemmas.Bool.{cond-true}
use Rattle.vs_four.specs.Numbers.{number, bits_of}
use Rattle.vs_four.proofs.NumberLemmas.{bits_of-negated, number-below}
use Rattle.vs_four.proofs.numbers.neg.Goals as goal

pub returns-then-is_known : goal.returns-then-is_known
returns-then-is_known c =
    let r = c.wrapping_neg.result in
    let below : number c.args.a < 2 ^ length c.args.a = number-below c.args.a in
    c.of_number.ensures
    ∙ ap (λ n. bits_of n r) c.len.ensures.length
    ∙ bits_of-negated _ 64 r _ (omega (arith, c.len.ensures)) (omega (arith, below)) (ap (λ a. (r + a) % 2 ^ 64) (sym c.number.ensures) ∙ c.wrapping_neg.ensures)
    ∙ sym (cond-true _ _ _ (sym c.is_known.ensures ∙ c.if-is_known.true))
