use Rattle.std.proofs.Common.{◌≡◌, List, None, MatchOption, sym, subst}
use Rattle.vs_elaborated.specs.Environments.{Entry, find_name}
use Rattle.vs_scope.specs.Seen.{Finds}
use Rattle.vs_scope.specs.Stacks.{env_at, envs}
use Rattle.vs_scope.proofs.Scopes.{turned_frames}
use Rattle.vs_scope.proofs.places.Around.entry.Goals as goal

pub entry_at-requires : goal.entry_at-requires
entry_at-requires c = c.args.self.now.kept

pub returns : goal.returns
returns c =
    let a = c.args.self.now in
    let name = c.args.name.now in
    subst (λ (fs : List (List Entry)). MatchOption c.entry_at.result (find_name fs name ≡ None) (λ e. Finds (find_name fs name) name e.now)) (sym (turned_frames (env_at (envs a.frames.now) a.parent) a.turn)) c.entry_at.ensures
