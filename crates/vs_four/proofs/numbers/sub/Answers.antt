use Rattle.std.proofs.Common.{sym, ap₂, ◌∙◌, ◌+◌, ◌-◌, ◌%◌, ◌^◌, ◌<◌, length, arith}
use Rattle.vs_four.specs.Numbers.{number, bits_of}
use Rattle.vs_four.proofs.NumberLemmas.{bits_of-down, number-below, if_both}
use Rattle.vs_four.proofs.numbers.sub.Goals as goal

pub returns-then-is_known-2 : goal.returns-then-is_known-2
returns-then-is_known-2 c =
    let below : number c.args.b < 2 ^ length c.args.b = number-below c.args.b in
    let shorter : number c.args.b < 2 ^ length c.args.a = rw c.requires below in
    c.of_number.ensures
    ∙ ap₂ bits_of c.len.ensures.length (ap₂ (λ a b. (a + (2 ^ 64 - b)) % 2 ^ 64) c.number.ensures c.number-then-is_known-2.ensures)
    ∙ bits_of-down _ 64 _ _ (omega (arith, c.len.ensures)) (omega (arith, shorter))
    ∙ sym (if_both _ _ _ _ (sym c.is_known.ensures ∙ c.if-is_known.true) (sym c.is_known-then-is_known.ensures ∙ c.if-is_known-2.true))
