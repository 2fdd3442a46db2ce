-- Signals that come behind those of a design.
use Rattle.std.specs.Prelude.{◌≡◌, ◌<◌, ◌≤◌, ◌+◌, ◌^◌, ℕ, List, [], ◌∷◌, ◌++◌}
use Rattle.vs_design.specs.Expressions as design
use Rattle.vs_design.specs.Expressions.{signal_length}
use Rattle.vs_scope.specs.declared.names.Signal.{Signal}
use Rattle.vs_scope.specs.Views.{signal_meaning}
use Rattle.vs_build.specs.Drafts.{Draft}

-- a signal of a scope, in the design
abbrev pub signal : Signal → design.Signal
signal s = (signal_meaning s).signal

-- they have numbers from `n` on and their bits from `b` on, stand in scopes that are there, and with them there are at most 2^20 bits
abbrev pub Follow : (scopes n b : ℕ) → List design.Signal → Type 0
Follow scopes n b [] = Unit {0}
Follow scopes n b (s ∷ ss) = (s.number ≡ n) × (s.first ≡ b) × (s.scope < scopes) × (b + signal_length s ≤ 2 ^ 20) × Follow scopes (n + 1) (b + signal_length s) ss

-- with these signals more
abbrev pub and_signals : Draft → List design.Signal → Draft
and_signals s xs = record s { design = record s.design { signals = s.design.signals ++ xs } }
