use Rattle.std.proofs.Common.{◌≡◌, take}
use Rattle.std.specs.List.{fold}
use Rattle.vs_lexer.specs.Literals.{with_digit}
use Rattle.vs_lexer.proofs.number.decimal_value.Given as goal

abbrev pub invariant-loop-byte : goal.invariant-loop-byte
invariant-loop-byte l = l.number ≡ fold with_digit 0 (take l.byte-index l.digits)
