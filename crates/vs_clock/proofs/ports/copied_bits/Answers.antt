use Rattle.std.proofs.Common.{◌∙◌}
use Rattle.vs_clock.proofs.ByKind.{copied_by}
use Rattle.vs_reads.proofs.ByKind.{target_there, expr_there}
use Rattle.vs_clock.proofs.ports.copied_bits.Goals as goal

pub bits_of_assign-requires-clause-target : goal.bits_of_assign-requires-clause-target
bits_of_assign-requires-clause-target c = target_there c.names_law.ensures.processes c.args.flat.now c.requires.lawful.names c.args.p c.process.result.now _ _ _ c.process.ensures c.in-Assign.is

pub bits_of_assign-requires-clause-expr : goal.bits_of_assign-requires-clause-expr
bits_of_assign-requires-clause-expr c = expr_there c.names_law.ensures.processes c.args.flat.now c.requires.lawful.names c.args.p c.process.result.now _ _ _ c.process.ensures c.in-Assign.is

pub returns-in-Assign : goal.returns-in-Assign
returns-in-Assign c = λ x e. c.bits_of_assign.ensures ∙ copied_by c.trees_law.ensures.processes c.lawful_law.ensures.assign_targets c.args.flat.now c.requires.lawful c.args.p c.process.result.now _ _ _ c.process.ensures c.in-Assign.is x e
