use Rattle.std.proofs.Common.{length, ap, ◌∙◌, arith}
use Rattle.vs_values.proofs.Environments.{at_none, at_some, slots_length}
use Rattle.vs_values.proofs.environment.Environment.slot.Goals as goal

pub first_slot-requires-clause-bit : goal.first_slot-requires-clause-bit
first_slot-requires-clause-bit c = omega (arith, c.requires, ap length c.self.view_is, slots_length c.self.inside.bits c.self.inside.housed c.self.inside.moved)

pub returns-in-Some : goal.returns-in-Some
returns-in-Some c = at_some c.self.inside.bits c.self.inside.housed c.self.inside.moved c.args.self.now c.args.bit c.in-Some.slot.now c.self.view_is c.requires c.in-Some.ensures.value

pub returns-in-None : goal.returns-in-None
returns-in-None c = c.first_slot.ensures ∙ at_none c.self.inside.bits c.self.inside.housed c.self.inside.moved c.args.self.now c.args.bit c.self.view_is c.requires c.in-None.ensures.value
