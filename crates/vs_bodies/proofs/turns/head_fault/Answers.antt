use Rattle.std.proofs.Common.{◌≡◌, ℕ, Bool, not, List, sym, ap, ◌∙◌, subst}
use Rattle.vs_design.specs.Clocks.{same_name}
use Rattle.vs_ast.specs.Views as view
use Rattle.vs_const.specs.declared.rules.Rule.{Rule}
use Rattle.vs_const.specs.Faults.{fault_if, least, better}
use Rattle.vs_const.specs.Meanings.{Means}
use Rattle.vs_const.proofs.Least.{least_append}
use Rattle.vs_elaborated.specs.Statements.{variable_faults, second_faults}
use Rattle.vs_bodies.proofs.turns.head_fault.Goals as goal

pub returns : goal.returns
returns g c =
    let find = g.E.Env.names c.args.env.now in
    let h = c.args.head.now in
    let first : Means c.find-first.result (find h.variable.text) = subst (λ (b : List ℕ). Means c.find-first.result (find b)) c.as_slice.ensures c.find-first.ensures in
    let second : Means c.find-second.result (find h.again.text) = subst (λ (b : List ℕ). Means c.find-second.result (find b)) c.as_slice-2.ensures c.find-second.ensures in
    let same : c.is_same_name-is_same.result ≡ same_name h.variable.text h.again.text =
    c.is_same_name-is_same.ensures ∙ ap (λ (x : List ℕ). same_name x c.as_slice-4.result.now) c.as_slice-3.ensures ∙ ap (λ (x : List ℕ). same_name h.variable.text x) c.as_slice-4.ensures
    in
    let own = variable_faults h.variable.place (find h.variable.text) in
    c.first_of.ensures ∙ ap (λ f. better f c.fault_if.result) (c.variable_fault.ensures (find h.variable.text) first)
    ∙ ap (better (least own))
    (c.fault_if.ensures ∙ ap (λ (b : Bool). least (fault_if (not b) c.second_rule.result h.again.place)) same
    ∙ ap (λ (r : Rule). least (fault_if (not (same_name h.variable.text h.again.text)) r h.again.place)) (c.second_rule.ensures (find h.again.text) second))
    ∙ sym (least_append own (second_faults (view.loop_head h) find))
