use Rattle.std.proofs.Common.{◌+◌, sym, ◌∙◌, ap, arith}
use Rattle.vs_lexer.proofs.Classes.{directive_here, no_directive_here}
use Rattle.vs_lexer.proofs.scan.directive.Goals as goal
use Rattle.vs_lexer.proofs.scan.directive.Goals.{then-text-lt2-via-then-text-lt2, then-text-lt2-via-else-text-lt2+then-not-is_letter}

pub returns-then-text-lt2 : goal.returns-then-text-lt2
returns-then-text-lt2 c = sym (no_directive_here c.args.text.now c.requires.some c.requires.start (elim c.then-text-lt2.branch [
  | then-text-lt2-via-then-text-lt2 w ↦ λ h. absurd (omega arith)
  | then-text-lt2-via-else-text-lt2+then-not-is_letter w ↦ λ h. sym w.is_letter.ensures ∙ w.if-not-is_letter.true
]))

pub returns : goal.returns
returns c = sym (directive_here c.args.text.now (2 + c.run_length.result) (omega arith) c.requires.start (sym c.is_letter.ensures ∙ c.if-not-is_letter.false) (ap (λ n. 2 + n) c.run_length.ensures.value))
