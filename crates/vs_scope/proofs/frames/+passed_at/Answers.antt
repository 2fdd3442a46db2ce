use Rattle.std.proofs.Common.{ℕ, Option, sym, ap, ◌∙◌}
use Rattle.vs_elaborated.specs.Environments.{Env, find_name}
use Rattle.vs_scope.specs.Stacks.{envs, env_at}
use Rattle.vs_scope.proofs.Scopes.{env_past, found_above, passed_here, passed_nowhere}
use Rattle.vs_scope.proofs.frames.+passed_at.Goals as goal

pub returns-in-None : goal.returns-in-None
returns-in-None t c = λ e f found is. absurd (passed_nowhere c.args.name.now e (sym (ap (λ (n : Option ℕ). find_name (env_at (envs c.args.frames.now) n).frames c.args.name.now) c.in-None.is) ∙ found))

pub returns-in-Some-find : goal.returns-in-Some-find
returns-in-Some-find t c = λ e f found is.
    let fs = c.args.frames.now in
    let name = c.args.name.now in
    let i = c.in-Some.i in
    let frame = c.index-frames-i.result in
    let here = sym (ap (λ (n : Option ℕ). find_name (env_at (envs fs) n).frames name) c.in-Some.is) ∙ found in
    passed_here fs i frame name e f c.in-Some-find.field-0.now c.passed.result c.args.number c.if-i-frames.true c.index-frames-i.is c.requires (sym c.in-Some-find.ensures.value) here is
    (λ outer. c.passed.ensures outer)

pub returns-in-None-find : goal.returns-in-None-find
returns-in-None-find t c = λ e f found is.
    let fs = c.args.frames.now in
    let name = c.args.name.now in
    let frame = c.index-frames-i.result in
    c.passed_at.ensures e f
    (ap (λ (p : Option ℕ). find_name (env_at (envs fs) p).frames name) c.below.ensures
    ∙ sym (found_above fs c.in-Some.i frame name c.if-i-frames.true c.index-frames-i.is c.requires (sym c.in-None-find.ensures.value)) ∙ sym (ap (λ (n : Option ℕ). find_name (env_at (envs fs) n).frames name) c.in-Some.is)
    ∙ found)
    is

pub returns-else-i-frames : goal.returns-else-i-frames
returns-else-i-frames t c = λ e f found is.
    let fs = c.args.frames.now in
    let name = c.args.name.now in
    absurd (passed_nowhere name e
    (sym (ap (λ (n : Option ℕ). find_name (env_at (envs fs) n).frames name) c.in-Some.is ∙ ap (λ (x : Env). find_name x.frames name) (env_past fs c.in-Some.i c.if-i-frames.false)) ∙ found))
