use Rattle.std.proofs.Common.{sym}
use Rattle.vs_lexer.proofs.TableFacts.{signs_are, looked_up, sign_kind_is}
use Rattle.vs_lexer.proofs.scan.sign_kind.Goals as goal

pub returns : goal.returns
returns c = sym (sign_kind_is c.args.text.now _ (looked_up _ _ c.args.text.now _ signs_are c.find_spelling.ensures))
