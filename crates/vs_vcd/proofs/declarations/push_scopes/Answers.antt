use Rattle.std.proofs.Common.{◌≡◌, ℕ, ◌+◌, List, [], ◌∷◌, ◌++◌, length, sym, ap, ◌∙◌, subst, append-nil, length-append, arith}
use Rattle.std.proofs.lemmas.Grind.{common_steps}
use Rattle.vs_flat.specs.DesignOf.{design_of}
use Rattle.vs_vcd.specs.declared.declarations.Step.{Step}
use Rattle.vs_vcd.specs.Shared.{code_at, coded_by}
use Rattle.vs_vcd.specs.Steps.{step_text, steps_text, link_steps, AreSteps}
use Rattle.vs_vcd.proofs.Outline.{top_scopes, steps_text-more, AreSteps-front, AreSteps-last, no_steps}
use Rattle.vs_vcd.proofs.declarations.push_scopes.Goals as goal

pub loop-step-init : goal.loop-step-init
loop-step-init c =
    let d = coded_by (code_at c.args.codes.now) (design_of c.args.flat.now) in
    let top = top_scopes d (length c.args.flat.now.scopes + 1) _ _ c.first.result c.in_ok-scopes.ensures (omega arith) c.first.ensures in
    let steps : c.push_link.new.steps.items ≡ link_steps c.first.result = c.in_ok-push_link.ensures ∙ ap (λ (xs : List Step). xs ++ link_steps c.first.result) c.new-steps.ensures.items in
    record {
      text = ap (λ (xs : List Step). c.args.text.now.items ++ steps_text d xs) steps ∙ ap (λ (t : List ℕ). c.args.text.now.items ++ t) top.text;
      steps = subst (AreSteps d) (sym steps) top.steps;
    }

pub take_step-requires-clause-step : goal.take_step-requires-clause-step
take_step-requires-clause-step c =
    let d = coded_by (code_at c.args.codes.now) (design_of c.args.flat.now) in
    AreSteps-last d c.pop.new.self.items c.in-Some.step (subst (AreSteps d) c.in-Some.ensures.items c.loop-step.invariant.steps)

pub take_step-requires-clause-steps : goal.take_step-requires-clause-steps
take_step-requires-clause-steps c =
    let d = coded_by (code_at c.args.codes.now) (design_of c.args.flat.now) in
    AreSteps-front d c.pop.new.self.items (c.in-Some.step ∷ []) (subst (AreSteps d) c.in-Some.ensures.items c.loop-step.invariant.steps)

pub loop-step-smaller : goal.loop-step-smaller
loop-step-smaller c =
    let d = coded_by (code_at c.args.codes.now) (design_of c.args.flat.now) in
    let before = ap (steps_text d) c.in-Some.ensures.items ∙ steps_text-more d c.pop.new.self.items c.in-Some.step in
    omega (
      arith,
      ap length before,
      ap length c.in_ok-take_step.ensures.text,
      c.in_ok-take_step.ensures.more,
      length-append c.take_step.new.text.items (steps_text d c.take_step.new.steps.items),
      length-append c.loop-step.text.items (step_text d c.in-Some.step ++ steps_text d c.pop.new.self.items),
    )

pub loop-step-preserved : goal.loop-step-preserved
loop-step-preserved c =
    let d = coded_by (code_at c.args.codes.now) (design_of c.args.flat.now) in
    let before = ap (steps_text d) c.in-Some.ensures.items ∙ steps_text-more d c.pop.new.self.items c.in-Some.step in
    record {
      text = c.in_ok-take_step.ensures.text ∙ ap (λ (t : List ℕ). c.loop-step.text.items ++ t) (sym before) ∙ c.loop-step.invariant.text;
      steps = c.in_ok-take_step.ensures.steps;
    }

pub returns : goal.returns
returns c =
    let d = coded_by (code_at c.args.codes.now) (design_of c.args.flat.now) in
    let none : c.loop-step.steps.items ≡ [] = grind (arith, common_steps) in
    sym (append-nil c.loop-step.text.items) ∙ ap (λ (t : List ℕ). c.loop-step.text.items ++ t) (sym (ap (steps_text d) none ∙ (no_steps d).0)) ∙ c.loop-step.invariant.text
