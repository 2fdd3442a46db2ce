-- The bits of signals, by what the code keeps of them.
use Rattle.std.specs.Prelude.{ℕ, ◌+◌, List, [], ◌∷◌, nat_lt, if◌then◌else◌}
use Rattle.vs_design.specs.Expressions.{signal_length}
use Rattle.vs_const.specs.declared.faults.Fault.{Fault}
use Rattle.vs_const.specs.Faults.{fault}
use Rattle.vs_const.specs.declared.rules.Rule.TheVariants.{TooManyBits}
use Rattle.vs_scope.specs.Signalled.{Placed}

-- of one signal
abbrev pub counted_bits : Placed → ℕ
counted_bits p = if p.meaning.known then signal_length p.meaning.signal else 0

-- the first signal with whose bits there are more than the most
abbrev pub over : (most total : ℕ) → List Placed → List Fault
over most total [] = []
over most total (p ∷ ps) = if nat_lt most (total + counted_bits p) then fault TooManyBits p.place else over most (total + counted_bits p) ps
