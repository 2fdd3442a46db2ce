use Rattle.std.proofs.Common.{sym, ◌∙◌}
use Rattle.vs_scope.specs.Frames.{around_env, view_env}
use Rattle.vs_scope.proofs.Scopes.{passed_within}
use Rattle.vs_scope.proofs.Viewing.{function_found, view_frames, view_outside}
use Rattle.vs_scope.proofs.places.View.signal_passed.Goals as goal

pub returns-in-Some : goal.returns-in-Some
returns-in-Some c = λ f is.
    let v = c.args.self.now in
    let name = c.args.name.now in
    let e = function_found (view_env v) name f is in
    passed_within (around_env v.around) v.names.now name e.0 f c.in-Some.field-0.now c.passed.result c.args.number v.kept (sym c.in-Some.ensures.value) (sym (view_frames v name) ∙ e.1) e.2
    (λ x g found called. c.passed.ensures (around_env v.around) x g v.kept found called)

pub returns-in-None : goal.returns-in-None
returns-in-None c = λ f is.
    let v = c.args.self.now in
    let name = c.args.name.now in
    let e = function_found (view_env v) name f is in
    c.passed-in-None.ensures e.0 f (sym (view_outside v name (sym c.in-None.ensures.value)) ∙ e.1) e.2
