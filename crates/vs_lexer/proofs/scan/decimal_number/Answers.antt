use Rattle.std.proofs.Common.{◌+◌, sym, ◌∙◌, ap}
use Rattle.vs_lexer.specs.declared.token.TokenKind.TheVariants as kind
use Rattle.vs_lexer.specs.Tokens.{checked}
use Rattle.vs_lexer.proofs.Longest.{lexeme}
use Rattle.vs_lexer.proofs.Numbers.{decimal_here, quote_here, no_head_of_token}
use Rattle.vs_lexer.proofs.scan.decimal_number.Goals as goal

pub returns-then-not-is_digit : goal.returns-then-not-is_digit
returns-then-not-is_digit c = sym (quote_here c.args.text.now c.requires.some c.requires.start (sym c.is_digit.ensures ∙ c.if-not-is_digit.true) c.requires.head)

pub is_in_range_unsized-requires : goal.is_in_range_unsized-requires
is_in_range_unsized-requires c = no_head_of_token c.args.text.now (1 + c.run_length-length.result) c.requires.head

pub returns : goal.returns
returns c =
    let n = 1 + c.run_length-length.result in
    c.checked.ensures ∙ ap (λ b. checked b (lexeme kind.Decimal n)) c.is_in_range_unsized.ensures
    ∙ sym (decimal_here c.args.text.now n c.requires.some c.requires.start (sym c.is_digit.ensures ∙ c.if-not-is_digit.false) c.requires.head (ap (λ k. 1 + k) c.run_length-length.ensures.value))
