use Rattle.std.proofs.Common.{sym, ap, ap₂, ◌∙◌, ◌+◌, ◌%◌, ◌^◌, arith}
use Rattle.vs_four.specs.Numbers.{bits_of}
use Rattle.vs_four.proofs.NumberLemmas.{bits_of-longer, if_both}
use Rattle.vs_four.proofs.numbers.add.Goals as goal

pub returns-then-is_known-2 : goal.returns-then-is_known-2
returns-then-is_known-2 c =
    c.of_number.ensures
    ∙ ap₂ bits_of c.len.ensures.length (ap (λ m. m % 2 ^ 64) (ap₂ ◌+◌ c.number.ensures c.number-then-is_known-2.ensures))
    ∙ bits_of-longer _ 64 _ (omega (arith, c.len.ensures))
    ∙ sym (if_both _ _ _ _ (sym c.is_known.ensures ∙ c.if-is_known.true) (sym c.is_known-then-is_known.ensures ∙ c.if-is_known-2.true))
