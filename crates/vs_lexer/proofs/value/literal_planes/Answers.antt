use Rattle.std.proofs.Common.{◌++◌, take, replicate, get_or, sym, ◌∙◌, ap}
use Rattle.vs_four.specs.Planes.{bits_of_planes}
use Rattle.vs_lexer.specs.Literals.{fill_bit}
use Rattle.vs_lexer.proofs.PlaneFacts.{digits_are, decimal_are, bits_number, number_filled}
use Rattle.vs_lexer.proofs.value.literal_planes.Goals as goal

pub returns-then-not-is_decimal_number : goal.returns-then-not-is_decimal_number
returns-then-not-is_decimal_number c =
    let fill = replicate 64 (fill_bit (get_or c.args.digits.now 0 0)) in
    c.digits_planes.ensures ∙ ap (λ b. take 64 (b ++ fill)) (sym (digits_are c.args.base c.args.digits.now (sym c.is_decimal_number.ensures ∙ c.if-not-is_decimal_number.true)))

pub returns : goal.returns
returns c =
    let fill = replicate 64 (fill_bit (get_or c.args.digits.now 0 0)) in
    ap (λ v. bits_of_planes 64 v 0) c.in-Some.ensures.value ∙ bits_number 64 _ ∙ sym (number_filled 64 _ fill)
    ∙ ap (λ b. take 64 (b ++ fill)) (sym (decimal_are c.args.base c.args.digits.now (sym c.is_decimal_number.ensures ∙ c.if-not-is_decimal_number.false)))
