use Rattle.std.proofs.Common.{◌∙◌, ap, subst, IfSome}
use Rattle.vs_four.specs.Numbers.{clog2}
use Rattle.vs_const.specs.Found.{IsOf}
use Rattle.vs_const.proofs.Logarithm.{clog2_found}
use Rattle.vs_const.proofs.found.find_clog2.Goals as goal

pub returns-in-Some : goal.returns-in-Some
returns-in-Some c = λ needed t h.
    clog2_found needed c.args.place t c.in-Some.f c.clog2-n.result _
    (subst (λ o. IfSome o (λ f. IsOf f t)) c.in-Some.is h.finds.keeps.sound)
    (c.clog2-n.ensures ∙ ap clog2 c.own.ensures.value)
    (record { checks = c.clog2_of.ensures t.faults h.finds.checks.flaws; keeps = c.clog2_form.ensures needed c.args.place t.faults })
