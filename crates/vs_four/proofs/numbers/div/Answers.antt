use Rattle.std.proofs.Common.{sym, ◌∙◌}
use Rattle.vs_four.proofs.NumberLemmas.{quotient_defined}
use Rattle.vs_four.proofs.numbers.div.Goals as goal

pub nonzero_div-quotient : goal.nonzero_div-quotient
nonzero_div-quotient c =
    quotient_defined c.args.signed c.args.a c.args.b c.integer.result c.integer-then-has_quotient.result
    (sym c.has_quotient.ensures ∙ c.if-has_quotient.true) c.integer.ensures.fits c.integer-then-has_quotient.ensures.fits c.integer-then-has_quotient.ensures.value
