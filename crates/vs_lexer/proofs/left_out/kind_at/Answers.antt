use Rattle.std.proofs.Common.{Option, Some, None, ap, sym}
use Rattle.std.proofs.lemmas.Option.{slice_get-get_or, slice_get_past}
use Rattle.vs_lexer.specs.declared.token.Token.{Token}
use Rattle.vs_lexer.specs.declared.token.TokenKind.{TokenKind}
use Rattle.vs_lexer.proofs.left_out.kind_at.Goals as goal

kind_of : Option Token → Option TokenKind
kind_of o = elim o [ None ↦ None | Some t ↦ Some t.kind ]

pub returns-then-n-tokens : goal.returns-then-n-tokens
unfolding kind_of
returns-then-n-tokens c = sym (ap kind_of (slice_get-get_or c.args.tokens.now c.args.n _ c.if-n-tokens.true))

pub returns-else-n-tokens : goal.returns-else-n-tokens
unfolding kind_of
returns-else-n-tokens c = sym (ap kind_of (slice_get_past c.args.tokens.now c.args.n c.if-n-tokens.false))
