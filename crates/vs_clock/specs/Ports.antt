-- Assigns that copy a bit.
use Rattle.std.specs.Prelude.{◌≡◌, ℕ, ◌<◌, Bool, true, false, ◌&&◌, List, [], ◌∷◌, length, take, ◌==◌, if◌then◌else◌, Option, Some, None, option_and_then}
use Rattle.std.specs.List.{list_any}
use Rattle.vs_design.specs.Expressions.{Signal, signal_length, Expression}
use Rattle.vs_design.specs.Statements.{Target, Whole}
use Rattle.vs_design.specs.Designs.{Process, Continuous, Design}
use Rattle.vs_design.specs.Footprints.{contains}
use Rattle.vs_design.specs.Clocks.{name_of}
use Rattle.vs_design.specs.Dead.{is_port}
use Rattle.vs_flat.specs.declared.expressions.Node.{Node}
use Rattle.vs_flat.specs.declared.expressions.Node.TheVariants.{Join}
use Rattle.vs_flat.specs.declared.processes.Kind.{Kind}
use Rattle.vs_flat.specs.declared.processes.Kind.TheVariants.{Assign, Block}
use Rattle.vs_flat.specs.declared.processes.Port.TheVariants.{Written, Input, Output}
use Rattle.vs_flat.specs.Targets.{target_of}
use Rattle.vs_clock.specs.Spread.{targets_at}

-- the bit of a signal that has one
abbrev pub one_bit : Signal → Option ℕ
one_bit s = if signal_length s == 1 then Some s.first else None

abbrev pub bit_of : Option Signal → Option ℕ
bit_of None = None
bit_of (Some s) = one_bit s

abbrev pub both_bits : Option ℕ → Option ℕ → Option (ℕ × ℕ)
both_bits (Some from) (Some to) = Some (from, to)
both_bits _ _ = None

-- of a target that is the whole of one
abbrev pub whole_bit : Target → Option ℕ
whole_bit (Whole signal) = one_bit signal
whole_bit _ = None

-- the same of the target that an expression is
abbrev pub target_bit : Expression → Option ℕ
target_bit e = option_and_then whole_bit (target_of e)

-- the only part of a concatenation that has one
abbrev pub only_part : Node → Option ℕ
only_part (Join (part ∷ [])) = Some part
only_part _ = None

-- the bit that an assign copies, and the one that it copies it to
abbrev pub port_bits : Process → Option (ℕ × ℕ)
port_bits (Continuous place port target_place (Whole signal) e) = both_bits (bit_of (name_of e)) (one_bit signal)
port_bits _ = None

abbrev pub is_copy : ℕ → ℕ → Option (ℕ × ℕ) → Bool
is_copy b t None = false
is_copy b t (Some (from, to)) = (b == from) && (t == to)

-- the same of an assign that stands for a port
abbrev pub ported_bits : Process → Option (ℕ × ℕ)
ported_bits x = if is_port x then port_bits x else None

-- one of these copies bit b to bit t
abbrev pub copies_by : (Process → Option (ℕ × ℕ)) → List Process → ℕ → ℕ → Bool
copies_by bits ps b t = list_any (λ x. is_copy b t (bits x)) ps

-- an assign copies bit b to bit t
abbrev pub copies : List Process → ℕ → ℕ → Bool
copies ps b t = copies_by port_bits ps b t

-- the copies of the processes before p
abbrev pub AreTargets : (Process → Option (ℕ × ℕ)) → Design → ℕ → List (List ℕ) → Type 0
AreTargets bits d p targets = (b t : ℕ) → b < length targets → contains (targets_at targets b) t ≡ copies_by bits (take p d.processes) b t

-- whether an assign of a flat design stands for a port
abbrev pub is_port_kind : Kind → Bool
is_port_kind (Assign target e Written) = false
is_port_kind (Assign target e Input) = true
is_port_kind (Assign target e Output) = true
is_port_kind (Block star events statement) = false
