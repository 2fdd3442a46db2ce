use Rattle.std.proofs.Common.{Bool, not, ap, ◌∙◌}
use Rattle.vs_const.specs.Faults.{least, fault_if}
use Rattle.vs_const.specs.declared.rules.Rule.TheVariants.{FunctionRule}
use Rattle.vs_bodies.proofs.reads.unheard.Goals as goal

pub returns : goal.returns
returns c = λ ms t.
    c.fault_if.ensures ∙ ap (λ (b : Bool). least (fault_if (not b) FunctionRule c.args.place)) (c.are_heard-heard.ensures ms t (c.in_ok-named.ensures ms t))
