use Rattle.std.proofs.Common.{◌∙◌, ap, sym, Option}
use Rattle.vs_const.specs.declared.faults.Fault.{Fault}
use Rattle.vs_const.specs.Faults.{better}
use Rattle.vs_elab.proofs.InstanceLimits.{instance_limits}
use Rattle.vs_elab.proofs.limits.limit_fault.Goals as goal

pub returns : goal.returns
returns c = λ t totals h p d i.
    c.first_of.ensures ∙ ap (λ (x : Option Fault). better x c.fault_if-many.result) c.fault_if-deep.ensures ∙ ap (better _) c.fault_if-many.ensures
    ∙ sym (instance_limits t totals c.args.place c.args.depth c.args.instances h p d i)
