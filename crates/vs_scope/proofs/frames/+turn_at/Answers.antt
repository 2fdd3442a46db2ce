use Rattle.std.proofs.Common.{ℕ, Option, sym, ap, ◌∙◌}
use Rattle.vs_elaborated.specs.Environments.{Env, turn_of}
use Rattle.vs_scope.specs.Frames.{value_or, envs, env_at}
use Rattle.vs_scope.proofs.Scopes.{turn_step, env_past}
use Rattle.vs_scope.proofs.frames.+turn_at.Goals as goal

pub returns-then-i-frames : goal.returns-then-i-frames
returns-then-i-frames t c =
    let fs = c.args.frames.now in
    let f = c.index-frames-i.result in
    let genvar = c.args.genvar in
    c.value_or.ensures ∙ ap (value_or f.turn genvar) (c.turn_at-other.ensures ∙ ap (λ (p : Option ℕ). turn_of (env_at (envs fs) p).turns genvar) c.below.ensures)
    ∙ sym (turn_step fs c.in-Some.i f genvar c.if-i-frames.true c.index-frames-i.is) ∙ sym (ap (λ (n : Option ℕ). turn_of (env_at (envs fs) n).turns genvar) c.in-Some.is)

pub returns-else-i-frames : goal.returns-else-i-frames
returns-else-i-frames t c =
    let fs = c.args.frames.now in
    sym (ap (λ (n : Option ℕ). turn_of (env_at (envs fs) n).turns c.args.genvar) c.in-Some.is ∙ ap (λ (e : Env). turn_of e.turns c.args.genvar) (env_past fs c.in-Some.i c.if-i-frames.false))
