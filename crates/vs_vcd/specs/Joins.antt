-- What a process names whole, by number.
use Rattle.std.specs.Prelude.{ℕ, [], ◌∷◌, Option, None, Some, option_map, option_and_then}
use Rattle.vs_design.specs.Expressions.{Signal, Expression}
use Rattle.vs_design.specs.Statements.{Target, Whole}
use Rattle.vs_design.specs.Clocks.{name_of}
use Rattle.vs_flat.specs.declared.expressions.Node.{Node}
use Rattle.vs_flat.specs.declared.expressions.Node.TheVariants.{Join}
use Rattle.vs_flat.specs.declared.processes.Port.{Port}
use Rattle.vs_flat.specs.declared.processes.Port.TheVariants.{Written, Input, Output}
use Rattle.vs_flat.specs.Targets.{target_of}

-- the number of the signal that an expression is the name of
abbrev pub named_number : Expression → Option ℕ
named_number e = option_map (λ (s : Signal). s.number) (name_of e)

-- of the signal that a target is the whole of
abbrev pub whole_number : Target → Option ℕ
whole_number (Whole signal) = Some signal.number
whole_number _ = None

-- the same of the target that an expression is
abbrev pub target_number : Expression → Option ℕ
target_number e = option_and_then whole_number (target_of e)

-- the only part of a concatenation that has one
abbrev pub only_part : Node → Option ℕ
only_part (Join (part ∷ [])) = Some part
only_part _ = None

abbrev pub pair_of : Option ℕ → Option ℕ → Option (ℕ × ℕ)
pair_of (Some from) (Some to) = Some (from, to)
pair_of _ _ = None

-- what a port's assign reads, and what it writes
abbrev pub named_by : Port → Option ℕ → Option ℕ → Option (ℕ × ℕ)
named_by Written from to = None
named_by Input from to = pair_of from to
named_by Output from to = pair_of from to
