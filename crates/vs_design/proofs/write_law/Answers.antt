use Rattle.vs_design.proofs.TreeFacts.{assign_writes, body_within_bits, body_assigned, no_updates, no_writes}
use Rattle.vs_design.proofs.write_law.Goals as goal

pub returns : goal.returns
returns c = record { assign = assign_writes; body = body_within_bits; assigned = body_assigned; no_updates = no_updates; no_writes = no_writes }
