use Rattle.std.proofs.Common.{◌≡◌, length, map}
use Rattle.vs_lexer.specs.Spellings.{is_among}
use Rattle.vs_lexer.proofs.scan.is_among.Given as goal

abbrev pub invariant-loop-words : goal.invariant-loop-words
invariant-loop-words l = is_among (map (λ w. w.now) l.words) l.text ≡ is_among (map (λ w. w.now) l.initial.words) l.text

abbrev pub decreases-loop-words : goal.decreases-loop-words
decreases-loop-words l = length l.words
