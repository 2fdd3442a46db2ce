use Rattle.std.proofs.Common.{ℕ, List, ap₂, ◌∙◌}
use Rattle.vs_refusal.specs.declared.refusal.Refusal.TheVariants as refusal
use Rattle.vs_accept.proofs.places.Places.refused_cycle.Goals as goal

pub returns-in-Ok : goal.returns-in-Ok
returns-in-Ok c = ap₂ (λ (ps : List ℕ) (n : ℕ). refusal.Cycle ps n) (c.new.ensures ∙ c.in-Ok.ensures) c.byte.ensures
