use Rattle.std.proofs.Common.{◌≡◌, ℕ, false, sym, ap, ◌∙◌}
use Rattle.std.specs.Prelude.{◌==◌}
use Rattle.std.proofs.lemmas.Bool.{cond-false, ne_eqb}
use Rattle.vs_lexer.specs.declared.bytes.Base.{Base}
use Rattle.vs_lexer.specs.Classes.{is_x, is_z, digit_value}
use Rattle.vs_lexer.specs.Literals.{number_bits, digit_bits, digit_width}
use Rattle.vs_lexer.proofs.PlaneFacts.{number_cut}
use Rattle.vs_lexer.proofs.value.digit_planes.Goals as goal

digit_is : (base : Base) (b : ℕ) → (b == 95) ≡ false → is_x b ≡ false → is_z b ≡ false → number_bits (digit_width base) (digit_value b) ≡ digit_bits base b
digit_is base b mark x z = sym (cond-false _ _ _ mark ∙ cond-false _ _ _ x ∙ cond-false _ _ _ z)

pub returns-else-is_z-clause-bits : goal.returns-else-is_z-clause-bits
returns-else-is_z-clause-bits c =
    number_cut (digit_width c.args.base) c.from.result c.digit_step-step.result c.digit_step-step.ensures.value
    ∙ ap (number_bits (digit_width c.args.base)) (c.from.ensures ∙ c.digit_value.ensures.value)
    ∙ digit_is c.args.base c.args.byte (ne_eqb _ _ c.requires) (sym c.is_x.ensures ∙ c.if-is_x.false) (sym c.is_z.ensures ∙ c.if-is_z.false)
