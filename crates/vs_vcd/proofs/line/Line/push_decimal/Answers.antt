use Rattle.std.proofs.Common.{ℕ, List, ◌++◌, sym, ap, ◌∙◌}
use Rattle.vs_vcd.proofs.NumeralLemmas.{decimal_is}
use Rattle.vs_vcd.proofs.line.Line.push_decimal.Goals as goal

pub returns-clause-text : goal.returns-clause-text
returns-clause-text c =
    c.push_text.ensures ∙ ap (λ (t : List ℕ). c.args.self.now ++ t) (c.as_bytes.ensures.value ∙ c.format.ensures.text ∙ sym (decimal_is c.args.number c.ranges.number.fits))
