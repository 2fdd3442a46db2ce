use Rattle.std.proofs.Common.{◌≡◌, ◌*◌, ℕ, sym, ◌∙◌, ap, arith}
use Rattle.vs_four.specs.Planes.{bits_of_planes}
use Rattle.vs_lexer.specs.Literals.{number_bits}
use Rattle.vs_lexer.specs.Strings.{string_size}
use Rattle.vs_lexer.proofs.PlaneFacts.{bits_number}
use Rattle.vs_lexer.proofs.StringFacts.{string_parts}
use Rattle.vs_lexer.proofs.value.string_literal.Goals as goal

pub returns-clause-bits : goal.returns-clause-bits
returns-clause-bits c =
    let text = c.args.text.now in
    let value = c.in-Some.number.value in
    let parts = string_parts text c.in-Some.number (sym c.in-Some.is ∙ c.string_number.ensures.number) in
    let size : 8 * c.max.result ≡ string_size text = omega (arith, c.max.ensures, parts.0) in
    ap (λ (n : ℕ). bits_of_planes n value 0) size ∙ bits_number (string_size text) value ∙ ap (number_bits (string_size text)) (sym parts.1)
