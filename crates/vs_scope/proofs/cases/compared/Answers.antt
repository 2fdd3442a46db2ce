use Rattle.std.proofs.Common.{◌≡◌, ◌++◌, List, Option, sym, ap, ◌∙◌}
use Rattle.vs_ast.specs.Views as view
use Rattle.vs_const.specs.declared.faults.Fault.{Fault}
use Rattle.vs_const.specs.Faults.{least, better}
use Rattle.vs_const.proofs.Least.{least_append}
use Rattle.vs_elaborated.specs.Constructs.{label_of}
use Rattle.vs_scope.specs.Cases.{label_faults, own_faults}
use Rattle.vs_scope.specs.Frames.{view_env}
use Rattle.vs_scope.proofs.CaseLabels.{unknown_is, case_unclean}
use Rattle.vs_scope.proofs.cases.compared.Goals as goal

two : (a b : List Fault) (x y o : Option Fault) → x ≡ least a → y ≡ least b → o ≡ better x y → o ≡ least (a ++ b)
two a b x y o h k e = e ∙ ap (λ (q : Option Fault). better q y) h ∙ ap (better (least a)) k ∙ sym (least_append a b)

pub returns-else-are_clean : goal.returns-else-are_clean
returns-else-are_clean c = λ ls h e w.
    let env = view_env c.args.here.now in
    let subject = view.expr c.args.subject.now in
    let arms = view.generate_arms c.args.arms.now in
    let all = c.args.all in
    let unknown = unknown_is all.width all.signed (label_of env subject) _ ls c.in_ok-first.first c.in_ok-rest.rest c.first_of-unknown.result e w h.signed c.in_ok-first.ensures c.in_ok-rest.ensures c.first_of-unknown.ensures in
    case_unclean env subject arms ls c.no_case.result all.unknown c.first_of-unknown.result h.unknown unknown (sym c.are_clean.ensures ∙ c.if-are_clean.false)
    (c.no_case.ensures _ (two (label_faults ls ++ own_faults ls) _ c.first_of-fault.result c.first_of-unknown.result c.first_of.result (two (label_faults ls) (own_faults ls) all.fault all.unknown c.first_of-fault.result h.fault h.unknown c.first_of-fault.ensures) unknown c.first_of.ensures))
