use Rattle.std.proofs.Common.{◌+◌, ◌<◌, sym, ◌∙◌, ap, Ok, arith}
use Rattle.vs_lexer.proofs.Longest.{lexeme}
use Rattle.vs_lexer.proofs.Classes.{system_here, no_system_here}
use Rattle.vs_lexer.proofs.scan.system_name.Goals as goal

pub returns-then-run-eq0 : goal.returns-then-run-eq0
returns-then-run-eq0 c = sym (no_system_here c.args.text.now c.requires.some c.requires.start (sym c.run_length-run.ensures.value ∙ c.if-run-eq0.true))

pub returns : goal.returns
returns c =
    let n = c.run_length-run.result in
    let some : 0 < n = omega arith in
    sym (system_here c.args.text.now n c.requires.some c.requires.start c.run_length-run.ensures.value some ∙ ap (λ k. Ok (lexeme k (1 + n))) (sym c.system_kind.ensures))
