use Rattle.std.proofs.Common.{◌+◌, ◌<◌, sym, ◌∙◌, ap, arith}
use Rattle.vs_lexer.specs.declared.token.TokenKind.TheVariants as kind
use Rattle.vs_lexer.specs.Tokens.{checked}
use Rattle.vs_lexer.proofs.Longest.{lexeme}
use Rattle.vs_lexer.proofs.Numbers.{based_here, head_of_token}
use Rattle.vs_lexer.proofs.scan.based_number.Goals as goal

pub is_in_range-requires-clause-head : goal.is_in_range-requires-clause-head
is_in_range-requires-clause-head c = head_of_token c.args.text.now c.args.head.now (c.args.head.now.digits + c.digits_length-digits.result) c.requires.head (omega arith)

pub returns : goal.returns
returns c =
    let n = c.args.head.now.digits + c.digits_length-digits.result in
    let same = c.digits_length-digits.ensures.value in
    let some : 0 < c.digits_length-digits.result = omega arith in
    c.checked.ensures ∙ ap (λ b. checked b (lexeme kind.Based n)) c.is_in_range.ensures
    ∙ sym (based_here c.args.text.now c.args.head.now n c.requires.some c.requires.start c.requires.head (omega (arith, some, same)) (ap (λ d. c.args.head.now.digits + d) same) c.digits_length-digits.ensures.within)
