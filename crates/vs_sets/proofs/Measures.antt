-- What falls where expressions go to the statements of functions, and statements to their expressions.
use Rattle.std.proofs.Common.{ℕ, ◌+◌, ◌*◌}

-- an expression, in so many steps
abbrev pub of_expression : (e step : ℕ) → ℕ
of_expression e step = 2535301200456458802993406410752 * e + (1267650600228229401496703205376 + step)

-- a statement, all expressions of which have numbers below this
abbrev pub of_statement : (nodes s step : ℕ) → ℕ
of_statement nodes s step = 2535301200456458802993406410752 * nodes + (36893488147419103232 * s + step)
