use Rattle.std.proofs.Common.{◌+◌, sym, ◌∙◌, ap, Ok}
use Rattle.vs_lexer.proofs.Longest.{lexeme}
use Rattle.vs_lexer.proofs.Classes.{word_here}
use Rattle.vs_lexer.proofs.scan.word.Goals as goal

pub returns : goal.returns
returns c =
    let n = 1 + c.run_length-length.result in
    word_here c.args.text.now n c.requires.some c.requires.start (ap (λ k. 1 + k) c.run_length-length.ensures.value) ∙ ap (λ k. Ok (lexeme k n)) (sym c.word_kind.ensures)
