use Rattle.std.proofs.Common.{sym, ◌∙◌}
use Rattle.vs_lexer.proofs.TableFacts.{system_names_are, looked_up, system_kind_is}
use Rattle.vs_lexer.proofs.scan.system_kind.Goals as goal

pub returns : goal.returns
returns c = c.unwrap_or.ensures ∙ sym (system_kind_is c.args.name.now _ (looked_up _ _ c.args.name.now _ system_names_are c.find_spelling.ensures))
