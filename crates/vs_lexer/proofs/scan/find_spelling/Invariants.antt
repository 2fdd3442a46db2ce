use Rattle.std.proofs.Common.{◌≡◌, length, map}
use Rattle.vs_lexer.specs.Spellings.{find_spelling}
use Rattle.vs_lexer.proofs.scan.find_spelling.Given as goal

abbrev pub invariant-loop-table : goal.invariant-loop-table
invariant-loop-table l = find_spelling (map (λ k. (k.0.now, k.1)) l.table) l.text ≡ find_spelling (map (λ k. (k.0.now, k.1)) l.initial.table) l.text

abbrev pub decreases-loop-table : goal.decreases-loop-table
decreases-loop-table l = length l.table
