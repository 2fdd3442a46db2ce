use Rattle.std.proofs.Common.{rules, ◌≡◌, Bool, false, Option, Some, IfOk, ap, sym, subst, ◌∙◌}
use Rattle.vs_ast.specs.Views as view
use Rattle.vs_const.specs.declared.faults.Fault.{Fault}
use Rattle.vs_const.specs.Faults.{least}
use Rattle.vs_elaborated.specs.Instances.{directed}
use Rattle.vs_scope.specs.Frames.{view_env}
use Rattle.vs_items.proofs.instances.directed_fault.Goals as goal

pub returns-in-Some-false : goal.returns-in-Some-false
returns-in-Some-false c = λ name.
    let output : c.in-Some-false.field-0 ≡ false = search rules in
    subst (λ (i : Option Bool). IfOk c.output_fault.result (λ (f : Option Fault). f ≡ least (directed name i (view.expr c.args.e.now) (view_env c.args.here.now)).faults)) (sym (c.in-Some-false.is ∙ ap Some output))
    (c.output_fault.ensures name)
