use Rattle.std.proofs.Common.{ap, ◌∙◌, subst}
use Rattle.vs_four.specs.declared.Bit4.TheVariants.{X}
use Rattle.vs_design.specs.Expressions.{Expression}
use Rattle.vs_design.specs.Values.{constant_value, assigned_value}
use Rattle.vs_const.specs.declared.faults.Flaws.{Flaws}
use Rattle.vs_const.specs.Faults.{merged}
use Rattle.vs_const.specs.Checks.{ChecksNatural}
use Rattle.vs_scope.specs.Turns.{assigned_natural}
use Rattle.vs_scope.proofs.GenvarNumbers.{genvar_is}
use Rattle.vs_scope.proofs.Says.{says_good}
use Rattle.vs_scope.proofs.turns.genvar_number.Goals as goal

pub returns-in-Some : goal.returns-in-Some
returns-in-Some c = λ t says.
    let of = says_good c.args.c.now t c.in-Some.f says c.in-Some.is in
    let n = c.assigned_number-n.result in
    genvar_is c.args.place t n c.both.result of.good
    (subst (λ x. ChecksNatural n (assigned_natural c.args.place (constant_value t.expression) x)) (c.assigned.ensures.value ∙ ap (λ (x : Expression). assigned_value x 32 (λ b. X)) of.same)
    (subst (λ x. ChecksNatural n (assigned_natural c.args.place x c.assigned.result)) (c.own.ensures.value ∙ ap constant_value of.same) c.assigned_number-n.ensures))
    (c.both.ensures ∙ ap (λ (x : Flaws). merged x n.flaws) says.finds.checks.flaws)
