use Rattle.std.proofs.Common.{◌≡◌, ℕ, Option, None, MatchOption, sym, ap, ◌∙◌, subst}
use Rattle.vs_elaborated.specs.Environments as environment
use Rattle.vs_elaborated.specs.Environments.{Env, find_name}
use Rattle.vs_scope.specs.Seen.{Finds}
use Rattle.vs_scope.specs.Stacks.{envs, env_at}
use Rattle.vs_scope.proofs.Scopes.{found_at, found_above, env_past}
use Rattle.vs_scope.proofs.frames.+entry_at.Goals as goal

pub returns-in-Some-find : goal.returns-in-Some-find
returns-in-Some-find t c =
    let fs = c.args.frames.now in
    let name = c.args.name.now in
    subst (λ (n : Option ℕ). Finds (find_name (env_at (envs fs) n).frames name) name c.in-Some-find.e.now) (sym c.in-Some.is)
    (found_at fs c.in-Some.i c.index-frames-i.result name c.in-Some-find.e.now c.if-i-frames.true c.index-frames-i.is c.requires (sym c.in-Some-find.ensures.value))

pub returns-in-None-find : goal.returns-in-None-find
returns-in-None-find t c =
    let fs = c.args.frames.now in
    let name = c.args.name.now in
    let f = c.index-frames-i.result in
    let same = ap (λ (p : Option ℕ). find_name (env_at (envs fs) p).frames name) c.below.ensures
    ∙ sym (found_above fs c.in-Some.i f name c.if-i-frames.true c.index-frames-i.is c.requires (sym c.in-None-find.ensures.value)) ∙ sym (ap (λ (n : Option ℕ). find_name (env_at (envs fs) n).frames name) c.in-Some.is) in
    subst (λ (x : Option environment.Entry). MatchOption c.entry_at.result (x ≡ None) (λ e. Finds x name e.now)) same c.entry_at.ensures

pub returns-else-i-frames : goal.returns-else-i-frames
returns-else-i-frames t c =
    let fs = c.args.frames.now in
    let name = c.args.name.now in
    ap (λ (n : Option ℕ). find_name (env_at (envs fs) n).frames name) c.in-Some.is ∙ ap (λ (e : Env). find_name e.frames name) (env_past fs c.in-Some.i c.if-i-frames.false)
