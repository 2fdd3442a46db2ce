use Rattle.std.proofs.Common.{sym, ◌∙◌}
use Rattle.vs_clock.proofs.ByKind.{port_same, ported_yes, ported_no}
use Rattle.vs_clock.proofs.ports.ported_bits.Goals as goal

pub returns-then-is_port : goal.returns-then-is_port
returns-then-is_port c = λ x e. c.copied_bits.ensures x e ∙ ported_yes x (port_same c.trees_law.ensures.processes c.args.flat.now c.args.p c.process.result.now x c.process.ensures e ∙ sym c.is_port.ensures ∙ c.if-is_port.true)

pub returns : goal.returns
returns c = λ x e. ported_no x (port_same c.trees_law.ensures.processes c.args.flat.now c.args.p c.process.result.now x c.process.ensures e ∙ sym c.is_port.ensures ∙ c.if-is_port.false)
