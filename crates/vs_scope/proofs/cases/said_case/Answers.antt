use Rattle.std.proofs.Common.{◌≡◌, ◌++◌, List, Option, IfOk, refl, sym, ap, ◌∙◌, subst}
use Rattle.vs_ast.specs.Views as view
use Rattle.vs_const.specs.declared.faults.Fault.{Fault}
use Rattle.vs_const.specs.Faults.{least, better}
use Rattle.vs_const.proofs.Least.{least_append}
use Rattle.vs_scope.specs.Cases.{AreLabels, IsSaidCase, label_faults, own_faults}
use Rattle.vs_scope.specs.Frames.{view_env}
use Rattle.vs_scope.proofs.CaseLabels.{HaveValues, have_values, case_labels, case_good, case_bad}
use Rattle.vs_scope.proofs.cases.said_case.Goals as goal

two : (a b : List Fault) (x y o : Option Fault) → x ≡ least a → y ≡ least b → o ≡ better x y → o ≡ least (a ++ b)
two a b x y o h k e = e ∙ ap (λ (q : Option Fault). better q y) h ∙ ap (better (least a)) k ∙ sym (least_append a b)

pub compared-requires : goal.compared-requires
compared-requires c =
    let env = view_env c.args.here.now in
    let subject = view.expr c.args.subject.now in
    let arms = view.generate_arms c.args.arms.now in
    let all : AreLabels c.together-all.result (case_labels env subject arms) = c.together-all.ensures _ _ c.in_ok-first.ensures c.in_ok-rest.ensures in
    let v : HaveValues c.together-all.result env subject arms = have_values c.together-all.result env subject arms c.requires.subject c.requires.arms all c.if-all.true in
    record { subject = v.subject_fits; arms = v.arms_fit; most = v.most }

pub returns-then-all : goal.returns-then-all
returns-then-all c =
    let env = view_env c.args.here.now in
    let subject = view.expr c.args.subject.now in
    let arms = view.generate_arms c.args.arms.now in
    let all : AreLabels c.together-all.result (case_labels env subject arms) = c.together-all.ensures _ _ c.in_ok-first.ensures c.in_ok-rest.ensures in
    let v : HaveValues c.together-all.result env subject arms = have_values c.together-all.result env subject arms c.requires.subject c.requires.arms all c.if-all.true in
    subst (λ s. IfOk c.compared.result (λ r. IsSaidCase r s)) (case_good env subject arms (sym all.good ∙ c.if-all.true)) (c.compared.ensures (case_labels env subject arms) all refl v.width)

pub returns-else-all : goal.returns-else-all
returns-else-all c =
    let env = view_env c.args.here.now in
    let subject = view.expr c.args.subject.now in
    let arms = view.generate_arms c.args.arms.now in
    let all : AreLabels c.together-all.result (case_labels env subject arms) = c.together-all.ensures _ _ c.in_ok-first.ensures c.in_ok-rest.ensures in
    let ls = case_labels env subject arms in
    subst (λ s. IsSaidCase c.no_case.result s) (case_bad env subject arms (sym all.good ∙ c.if-all.false))
    (c.no_case.ensures (label_faults ls ++ own_faults ls) (two (label_faults ls) (own_faults ls) c.together-all.result.fault c.together-all.result.unknown c.first_of.result all.fault all.unknown c.first_of.ensures))
