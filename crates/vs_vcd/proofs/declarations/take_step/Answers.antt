use Rattle.std.proofs.Common.{ℕ, ◌+◌, List, ◌++◌, length, get_or, add-one, sym, ap, ◌∙◌, subst, append_assoc, arith}
use Rattle.std.specs.Prelude.{None}
use Rattle.vs_flat.specs.DesignOf.{design_of, scope_of}
use Rattle.vs_vcd.specs.declared.declarations.Step.{Step}
use Rattle.vs_vcd.specs.Scopes.{upscope_line}
use Rattle.vs_vcd.specs.Shared.{code_at, coded_by}
use Rattle.vs_vcd.specs.Steps.{step_text, steps_text, IsStep}
use Rattle.vs_vcd.proofs.Arenas.{scope-at, length-scopes}
use Rattle.vs_vcd.proofs.Outline.{inner_scopes, later_scopes, step-within, close_text, opened_step, opened_steps, length-scope_keys}
use Rattle.vs_vcd.proofs.declarations.take_step.Goals as goal

pub scope-requires : goal.scope-requires
scope-requires c =
    let d = coded_by (code_at c.args.codes.now) (design_of c.args.flat.now) in
    omega (arith, step-within d c.in-Scopes.scope (subst (IsStep d) c.in-Scopes.is c.requires.step), length-scopes c.args.flat.now)

pub push_variables-requires-clause-scope : goal.push_variables-requires-clause-scope
push_variables-requires-clause-scope c =
    let d = coded_by (code_at c.args.codes.now) (design_of c.args.flat.now) in
    omega (arith, step-within d c.in-Scopes.scope (subst (IsStep d) c.in-Scopes.is c.requires.step), length-scopes c.args.flat.now)

pub next-requires : goal.next-requires
next-requires c =
    let d = coded_by (code_at c.args.codes.now) (design_of c.args.flat.now) in
    omega (arith, step-within d c.in-Scopes.scope (subst (IsStep d) c.in-Scopes.is c.requires.step), c.requires.scopes.numbers_long, length-scope_keys 0 d.scopes)

pub first-requires : goal.first-requires
first-requires c =
    let d = coded_by (code_at c.args.codes.now) (design_of c.args.flat.now) in
    omega (arith, step-within d c.in-Scopes.scope (subst (IsStep d) c.in-Scopes.is c.requires.step), c.requires.scopes.groups_long, length-scopes c.args.flat.now)

pub returns-in_ok-extend_from_slice-in-Close-clause-text : goal.returns-in_ok-extend_from_slice-in-Close-clause-text
returns-in_ok-extend_from_slice-in-Close-clause-text c =
    let d = coded_by (code_at c.args.codes.now) (design_of c.args.flat.now) in
    let rest = steps_text d c.args.steps.now.items in
    ap (λ (t : List ℕ). t ++ rest) c.in_ok-extend_from_slice-in-Close.ensures.items
    ∙ append_assoc c.args.text.now.items upscope_line rest
    ∙ ap (λ (t : List ℕ). c.args.text.now.items ++ (t ++ rest)) (sym (ap (step_text d) c.in-Close.is ∙ close_text d))

pub returns-in_ok-push_link-in-Scopes-2-clause-text : goal.returns-in_ok-push_link-in-Scopes-2-clause-text
returns-in_ok-push_link-in-Scopes-2-clause-text c =
    let a = c.args.flat.now in
    let d = coded_by (code_at c.args.codes.now) (design_of a) in
    let n = c.in-Scopes.scope in
    let s = scope_of c.scope.result.now in
    let step = subst (IsStep d) c.in-Scopes.is c.requires.step in
    let here = scope-at a n c.scope.result.now c.scope.ensures in
    let within = step-within d n step in
    let linked = c.requires.scopes in
    let inner = inner_scopes d (length a.scopes + 1) n _ _ c.first.result linked (omega (arith, within, length-scopes a)) within (c.first.ensures ∙ ap (λ (m : ℕ). get_or c.args.scopes.now.first.items m None) (add-one n)) in
    let later = later_scopes d (length a.scopes + 1) n s _ _ c.next.result linked (omega (arith, length-scopes a)) step here c.next.ensures in
    opened_step d n s c.first.result c.next.result c.args.text.now.items c.push_scope_line.new.text.items c.push_variables.new.text.items c.args.steps.now.items c.push_link.new.steps.items c.push.new.self.items c.push_link-in-Scopes.new.steps.items here inner later
    c.in_ok-push_scope_line-in-Scopes.ensures.text c.in_ok-push_variables-in-Scopes.ensures c.in_ok-push_link-in-Scopes.ensures c.in_ok-push-in-Scopes.ensures.items c.in_ok-push_link-in-Scopes-2.ensures
    ∙ ap (λ (x : Step). c.args.text.now.items ++ (step_text d x ++ steps_text d c.args.steps.now.items)) (sym c.in-Scopes.is)

pub returns-in_ok-push_link-in-Scopes-2-clause-steps : goal.returns-in_ok-push_link-in-Scopes-2-clause-steps
returns-in_ok-push_link-in-Scopes-2-clause-steps c =
    let a = c.args.flat.now in
    let d = coded_by (code_at c.args.codes.now) (design_of a) in
    let n = c.in-Scopes.scope in
    let s = scope_of c.scope.result.now in
    let step = subst (IsStep d) c.in-Scopes.is c.requires.step in
    let here = scope-at a n c.scope.result.now c.scope.ensures in
    let within = step-within d n step in
    let linked = c.requires.scopes in
    let inner = inner_scopes d (length a.scopes + 1) n _ _ c.first.result linked (omega (arith, within, length-scopes a)) within (c.first.ensures ∙ ap (λ (m : ℕ). get_or c.args.scopes.now.first.items m None) (add-one n)) in
    let later = later_scopes d (length a.scopes + 1) n s _ _ c.next.result linked (omega (arith, length-scopes a)) step here c.next.ensures in
    opened_steps d c.first.result c.next.result _ _ _ _ c.args.steps.now.items c.push_link.new.steps.items c.push.new.self.items c.push_link-in-Scopes.new.steps.items inner later c.requires.steps
    c.in_ok-push_link-in-Scopes.ensures c.in_ok-push-in-Scopes.ensures.items c.in_ok-push_link-in-Scopes-2.ensures
