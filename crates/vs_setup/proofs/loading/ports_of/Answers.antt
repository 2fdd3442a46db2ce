use Rattle.std.proofs.Common.{ap, ◌∙◌}
use Rattle.vs_stim.specs.Header.{PortLists}
use Rattle.vs_setup.proofs.loading.ports_of.Goals as goal

pub data_inputs-requires : goal.data_inputs-requires
data_inputs-requires c = rw c.flat-flat.ensures.same c.flat-flat.ensures.lawful

pub outputs_of-requires : goal.outputs_of-requires
outputs_of-requires c = rw c.flat-flat.ensures.same c.flat-flat.ensures.lawful

pub returns-clause-inputs : goal.returns-clause-inputs
returns-clause-inputs c =
    ap (λ (p : PortLists). p.inputs) c.of.ensures ∙ (rw (c.reset_inputs.ensures, c.selects.ensures, c.bits.ensures, c.clocks-clocks.ensures, c.flat-flat.ensures.same, c.typed.ensures) at c.in_ok-inputs.ensures)

pub returns-clause-outputs : goal.returns-clause-outputs
returns-clause-outputs c =
    ap (λ (p : PortLists). p.outputs) c.of.ensures ∙ (rw (c.outputs.ensures, c.flat-flat.ensures.same, c.typed.ensures) at c.in_ok-outputs.ensures)

pub returns-clause-demanded : goal.returns-clause-demanded
returns-clause-demanded c = ap (λ (p : PortLists). p.demanded) c.of.ensures
