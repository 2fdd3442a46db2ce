use Rattle.std.proofs.Common.{not, Bool, ap, ◌∙◌}
use Rattle.vs_four.specs.Logic.{all_known}
use Rattle.vs_design.specs.Values.{constant_value}
use Rattle.vs_const.specs.Faults.{least, fault_if}
use Rattle.vs_const.specs.declared.rules.Rule.TheVariants.{UnknownConstant}
use Rattle.vs_scope.proofs.CaseLabels.{own_bad, own_good}
use Rattle.vs_scope.proofs.Says.{says_good, says_bad}
use Rattle.vs_scope.proofs.cases.own_unknown.Goals as goal

pub returns-in-None : goal.returns-in-None
returns-in-None c = λ t says. own_bad c.args.place t (says_bad c.args.c.now t says c.in-None.is)

pub returns-in-Some : goal.returns-in-Some
returns-in-Some c = λ t says.
    let of = says_good c.args.c.now t c.in-Some.f says c.in-Some.is in
    own_good c.args.place t c.fault_if.result of.good
    (c.fault_if.ensures ∙ ap (λ (b : Bool). least (fault_if (not b) UnknownConstant c.args.place)) (c.is_known.ensures ∙ ap all_known (c.own.ensures.value ∙ ap constant_value of.same)))
