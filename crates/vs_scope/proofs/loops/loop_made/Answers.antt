use Rattle.std.proofs.Common.{◌≡◌, ◌++◌, ℕ, List, Option, IfOk, sym, ap, ◌∙◌, subst}
use Rattle.vs_ast.specs.Views as view
use Rattle.vs_ast.specs.Views.{option}
use Rattle.vs_const.specs.declared.faults.Fault.{Fault}
use Rattle.vs_const.specs.declared.faults.Flaws.{Flaws}
use Rattle.vs_const.specs.Faults.{least, better}
use Rattle.vs_const.proofs.Least.{least_append}
use Rattle.vs_elaborated.specs.Environments.{find_name}
use Rattle.vs_elaborated.specs.Limits.{the_limits}
use Rattle.vs_elaborated.specs.Loops as spec
use Rattle.vs_scope.specs.Blocks.{block}
use Rattle.vs_scope.specs.Frames.{view_env}
use Rattle.vs_scope.specs.Made.{made, kept}
use Rattle.vs_scope.proofs.loops.loop_made.Goals as goal

three : (a b c : List Fault) (x y z i o : Option Fault) → x ≡ least a → y ≡ least b → z ≡ least c → i ≡ better y z → o ≡ better x i → o ≡ least (a ++ (b ++ c))
three a b c x y z i o h k m n p =
    p ∙ ap (λ (q : Option Fault). better q i) h ∙ ap (better (least a)) (n ∙ ap (λ (q : Option Fault). better q z) k ∙ ap (better (least b)) m ∙ sym (least_append b c)) ∙ sym (least_append a (b ++ c))

pub returns : goal.returns
returns c =
    let head = view.loop_head c.args.head.now in
    let env = view_env c.args.here.now in
    let v = spec.variable_of head.variable.place (find_name env.frames head.variable.bytes) in
    let first = spec.genvar_value head.first env in
    let fs : List Fault = v.faults ++ (spec.again_faults head.variable head.again env ++ first.faults) in
    let h : c.first_of-fault.result ≡ least fs =
    three v.faults (spec.again_faults head.variable head.again env) first.faults c.variable_of-variable.result.fault c.again_fault-again.result c.in_ok-first.first.flaws.first c.first_of.result c.first_of-fault.result
    c.variable_of-variable.ensures.fault c.again_fault-again.ensures (ap (λ (f : Flaws). f.first) c.in_ok-first.ensures.flaws) c.first_of.ensures c.first_of-fault.ensures in
    subst (λ (g : Option ℕ). IfOk c.loop_at.result (λ m. made m ≡ kept (spec.loop_from the_limits head g first.number fs (option block c.args.body) env c.args.total))) c.variable_of-variable.ensures.genvar
    (subst (λ (n : Option ℕ). IfOk c.loop_at.result (λ m. made m ≡ kept (spec.loop_from the_limits head c.variable_of-variable.result.genvar n fs (option block c.args.body) env c.args.total))) c.in_ok-first.ensures.number (c.loop_at.ensures fs h))
