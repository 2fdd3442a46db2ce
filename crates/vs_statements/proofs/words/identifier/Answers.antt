use Rattle.vs_lexer.specs.declared.token.TokenKind.TheVariants as kind
use Rattle.vs_statements.proofs.Places.{kind_inside, took_kind, answer_exit}
use Rattle.vs_statements.proofs.Numbers.{is_no_number_there}
use Rattle.vs_statements.specs.Reading.Missing.{no_memory}
use Rattle.vs_statements.specs.declared.error.ParseError.TheVariants.{Memory}
use Rattle.vs_statements.proofs.words.identifier.Goals as goal

pub spelling-requires-clause-inside : goal.spelling-requires-clause-inside
spelling-requires-clause-inside c = kind_inside c.args.input.now.tokens.now c.args.at kind.Identifier (took_kind c.in_ok-to.ensures)

pub spelling-requires-clause-name : goal.spelling-requires-clause-name
spelling-requires-clause-name c = is_no_number_there c.args.input.now.tokens.now c.args.at (took_kind c.in_ok-to.ensures)

pub returns-in_err-to : goal.returns-in_err-to
returns-in_err-to c = answer_exit _ _ c.from_residual.result c.in_err-to.field-0.0 c.from_residual.ensures.1 c.in_err-to.ensures

pub returns-in_err-bytes : goal.returns-in_err-bytes
returns-in_err-bytes c = answer_exit _ _ c.from_residual-in_err-bytes.result Memory c.from_residual-in_err-bytes.ensures.1 no_memory
