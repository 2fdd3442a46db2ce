use Rattle.std.proofs.Common.{◌≡◌, false, List, subst}
use Rattle.std.specs.Prelude.{MatchOption}
use Rattle.vs_lexer.specs.declared.token.TokenKind.{TokenKind}
use Rattle.vs_grammar.specs.Predictive.{is_member}
use Rattle.vs_base.specs.declared.operators.BinaryOp.{BinaryOp}
use Rattle.vs_statements.specs.Reading.{kind_at, kinds_in, Picked}
use Rattle.vs_statements.proofs.Choices.{option_more}
use Rattle.vs_statements.specs.Levels.{table_of}
use Rattle.vs_statements.proofs.Chains.{operator_at}
use Rattle.vs_statements.proofs.expressions.operator.Goals as goal

pub returns : goal.returns
returns c =
    let h = subst (λ (l : List (TokenKind × BinaryOp)). MatchOption c.choose.result (is_member (kind_at c.args.input.now.tokens.now c.args.at) (kinds_in l) ≡ false) (λ f. Picked c.args.input.now.tokens.now l c.args.at f.value f.to)) c.operators.ensures c.choose.ensures in
    option_more (is_member (kind_at c.args.input.now.tokens.now c.args.at) (kinds_in (table_of c.args.level)) ≡ false) c.choose.result h (λ y w. operator_at c.args.input.now c.args.level w)
