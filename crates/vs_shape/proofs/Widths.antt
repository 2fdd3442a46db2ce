-- Lengths of what fits, and lengths as far as 65.
use Rattle.std.proofs.Common.{◌≡◌, ℕ, ◌≤◌, true, min, refl, arith}
use Rattle.vs_design.specs.Expressions.{Expression, width, unary_length, binary_length, UnaryOp, Plus, Minus, BitNot, Signed, Unsigned, Way, InContext, Own, Compared, Shifted, Raised}
use Rattle.vs_design.specs.Fits.{fits}
use Rattle.vs_design.proofs.WidthExact.{width_most}

pub width_least : (e : Expression) → fits e ≡ true → min (width e) 65 ≡ width e
width_least e h = omega (arith, width_most e h)

-- an operator's length is a byte where its operands' are
pub unary_room : (op : UnaryOp) (n : ℕ) → n ≤ 255 → unary_length op n ≤ 255
unary_room Plus n h = h
unary_room Minus n h = h
unary_room BitNot n h = h
unary_room Signed n h = h
unary_room Unsigned n h = h
unary_room _ n h = omega arith

pub binary_room : (w : Way) (m n : ℕ) → m ≤ 255 → n ≤ 255 → binary_length w m n ≤ 255
binary_room InContext m n h k = omega arith
binary_room Own m n h k = omega arith
binary_room Compared m n h k = omega arith
binary_room Shifted m n h k = h
binary_room Raised m n h k = h

-- and is as far as 65 by theirs
pub unary_capped : (op : UnaryOp) (n : ℕ) → unary_length op (min n 65) ≡ min (unary_length op n) 65
unary_capped Plus n = refl
unary_capped Minus n = refl
unary_capped BitNot n = refl
unary_capped Signed n = refl
unary_capped Unsigned n = refl
unary_capped _ n = refl

pub binary_capped : (w : Way) (m n : ℕ) → binary_length w (min m 65) (min n 65) ≡ min (binary_length w m n) 65
binary_capped InContext m n = omega arith
binary_capped Own m n = refl
binary_capped Compared m n = refl
binary_capped Shifted m n = refl
binary_capped Raised m n = refl

pub ruleset unary_lengths = (unary_room, unary_capped)

pub ruleset binary_lengths = (binary_room, binary_capped)
