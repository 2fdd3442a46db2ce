use Rattle.std.proofs.Common.{arith}
use Rattle.std.proofs.lemmas.Map.Text.{text_keys}
use Rattle.vs_desk.proofs.files.set_file.Goals as goal

pub returns-clause-ok : goal.returns-clause-ok
returns-clause-ok c = λ q. grind (arith, text_keys)

pub returns-clause-ok_held : goal.returns-clause-ok_held
returns-clause-ok_held c = λ q. grind (arith, text_keys)

pub returns-clause-kept : goal.returns-clause-kept
returns-clause-kept c = λ q h. grind (arith, text_keys)
