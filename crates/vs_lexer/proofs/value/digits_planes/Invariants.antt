use Rattle.std.proofs.Common.{◌≡◌, ◌++◌, take, replicate, get_or}
use Rattle.vs_four.specs.Planes.{bits_of_planes}
use Rattle.vs_lexer.specs.Literals.{all_digit_bits, fill_bit}
use Rattle.vs_lexer.proofs.value.digits_planes.Given as goal

abbrev pub invariant-loop-byte : goal.invariant-loop-byte
invariant-loop-byte l = bits_of_planes 64 l.planes.value l.planes.unknown ≡ take 64 (all_digit_bits l.base (take l.byte-index l.digits) ++ replicate 64 (fill_bit (get_or l.digits 0 0)))
