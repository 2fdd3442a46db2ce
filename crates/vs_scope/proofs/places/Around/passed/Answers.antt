use Rattle.std.proofs.Common.{List, sym, ap, ◌∙◌}
use Rattle.vs_elaborated.specs.Environments.{Entry, find_name}
use Rattle.vs_scope.specs.Stacks.{env_at, envs}
use Rattle.vs_scope.proofs.Scopes.{turned_frames}
use Rattle.vs_scope.proofs.places.Around.passed.Goals as goal

pub passed_at-requires : goal.passed_at-requires
passed_at-requires c = c.args.self.now.kept

pub returns : goal.returns
returns c = λ e f found is.
    let a = c.args.self.now in
    c.passed_at.ensures e f (sym (ap (λ (fs : List (List Entry)). find_name fs c.args.name.now) (turned_frames (env_at (envs a.frames.now) a.parent) a.turn)) ∙ found) is
