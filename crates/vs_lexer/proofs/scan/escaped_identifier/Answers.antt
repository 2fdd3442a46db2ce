use Rattle.std.proofs.Common.{◌<◌, sym, ◌∙◌, arith}
use Rattle.vs_lexer.proofs.Classes.{escaped_here, no_escaped_here}
use Rattle.vs_lexer.proofs.scan.escaped_identifier.Goals as goal

pub returns-then-run-eq0 : goal.returns-then-run-eq0
returns-then-run-eq0 c = sym (no_escaped_here c.args.text.now c.requires.some c.requires.start (sym c.run_length-run.ensures.value ∙ c.if-run-eq0.true))

pub returns : goal.returns
returns c =
    let n = c.run_length-run.result in
    let some : 0 < n = omega arith in
    sym (escaped_here c.args.text.now n c.requires.some c.requires.start c.run_length-run.ensures.value some)
