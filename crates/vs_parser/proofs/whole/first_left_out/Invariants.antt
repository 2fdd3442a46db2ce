use Rattle.std.proofs.Common.{◌≡◌, ◌<◌, ℕ, false}
use Rattle.vs_lexer.specs.LeftOut.{is_left_out}
use Rattle.vs_parser.proofs.whole.first_left_out.Given as goal

abbrev pub invariant-loop-n : goal.invariant-loop-n
invariant-loop-n l = (k : ℕ) → k < l.n → is_left_out l.tokens k ≡ false
