-- The laws of expressions and statements, from what is proved of them.
use Rattle.std.proofs.Common.{[], inr, inl, ◌⊎◌, ◌≡◌, true}
use Rattle.vs_four.specs.declared.Bit4.TheVariants.{X}
use Rattle.vs_net.specs.Network.{is_written}
use Rattle.vs_design.specs.Bodies.{body}
use Rattle.vs_design.specs.Footprints.{contains}
use Rattle.vs_design.specs.TreeLaws.{ValueLength, AssignedLength, ConstantValue, AssignWritesExactly, BodyWritesWithin, BodyAssigns, NoUpdates, NoWrites}
use Rattle.vs_design.proofs.Lengths.{length_value, length_assigned}
use Rattle.vs_design.proofs.ReadValue.{value_reads, constant_agree}
use Rattle.vs_design.proofs.LawfulParts.{assign_exact}
use Rattle.vs_design.proofs.BodyExact.{body_within, body_assigns, body_updates, body_writes}

pub value_length : ValueLength
value_length e w g s h = length_value e w g s h

pub assigned_length : AssignedLength
assigned_length e w s = length_assigned e w s

pub constant_value : ConstantValue
constant_value e h w g s = value_reads e w g s (λ b. X) (constant_agree e h s (λ b. X))

pub assign_writes : AssignWritesExactly
assign_writes t e c f s b = assign_exact t e s b c f

pub body_within_bits : BodyWritesWithin
body_within_bits st f s b h = body_within st s f b h

pub body_assigned : BodyAssigns
body_assigned st m s b h = go (body_assigns st s [] m b h)
  where
    go : (contains [] b ≡ true) ⊎ (is_written (body st s).writes b ≡ true) → is_written (body st s).writes b ≡ true
    go (inl q) = cc
    go (inr q) = q

pub no_updates : NoUpdates
no_updates st s m = body_updates st s m

pub no_writes : NoWrites
no_writes st s m = body_writes st s m
