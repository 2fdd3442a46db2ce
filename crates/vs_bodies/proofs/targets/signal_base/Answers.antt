use Rattle.std.proofs.Common.{◌≡◌, ◌∙◌, ◌&&◌, Bool, ap, sym, subst}
use Rattle.vs_const.proofs.Least.{least_append}
use Rattle.vs_const.specs.Faults.{least, better, fault_if}
use Rattle.vs_const.specs.Meanings.{Meaning}
use Rattle.vs_const.specs.Selects as selects
use Rattle.vs_const.specs.declared.rules.Rule.{Rule}
use Rattle.vs_const.specs.declared.rules.Rule.TheVariants.{WrongKind}
use Rattle.vs_elaborated.specs.Targets.{is_wrong_target, target_base, target_rule}
use Rattle.vs_bodies.specs.Targets.{IsBase}
use Rattle.vs_bodies.proofs.targets.signal_base.Goals as goal
use Rattle.vs_bodies.proofs.targets.signal_base.Goals.{then-selected, else-selected}

pub returns : goal.returns
returns c m = λ h.
    let t = h.0 in
    let range = h.3 in
    let role = h.5 in
    let known = h.6 in
    let net = h.8 in
    let input = h.9 in
    let place = c.args.place in
    let wrong = c.is_wrong-wrong.ensures t net input in
    let rule = c.target_rule.ensures t role in
    let scalar : c.if-selected.scalar ≡ (c.args.selected && selects.is_scalar t) = elim c.if-selected.branch [
      | then-selected w ↦ w.scalar-is ∙ w.is_scalar-scalar.ensures t known range ∙ sym (ap (λ (b : Bool). b && selects.is_scalar t) w.if-selected.true)
      | else-selected w ↦ w.scalar-is ∙ w.if-selected.false ∙ sym (ap (λ (b : Bool). b && selects.is_scalar t) w.if-selected.false)
    ] in
    let first = c.fault_if.ensures ∙ ap (λ (b : Bool). least (fault_if b c.target_rule.result place)) wrong ∙ ap (λ (x : Rule). least (fault_if (is_wrong_target c.args.procedural t) x place)) rule in
    let second = c.fault_if-2.ensures ∙ ap (λ (b : Bool). least (fault_if b WrongKind place)) scalar in
    subst (λ (x : Meaning). IsBase (record { range = c.args.s.range; fault = c.first_of.result }) (target_base c.args.procedural place c.args.selected x)) (sym h.1) (record {
      range = range;
      fault = c.first_of.ensures ∙ ap (λ x. better x c.fault_if-2.result) first ∙ ap (λ x. better (least (fault_if (is_wrong_target c.args.procedural t) (target_rule t) place)) x) second ∙ sym (least_append _ _);
    })
