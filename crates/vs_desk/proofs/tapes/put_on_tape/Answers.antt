use Rattle.std.proofs.Common.{arith}
use Rattle.std.proofs.lemmas.Map.Text.{text_keys}
use Rattle.vs_desk.proofs.tapes.put_on_tape.Goals as goal

pub returns-clause-held : goal.returns-clause-held
returns-clause-held c = λ q. grind (arith, text_keys)

pub returns-clause-bytes : goal.returns-clause-bytes
returns-clause-bytes c = λ q. grind (arith, text_keys)
