-- What the scopes around a place of the text stand for: the names and turns that are seen there.
use Rattle.std.specs.Prelude.{Bool, true, false, []}
use Rattle.vs_ast.specs.Views.{option}
use Rattle.vs_elaborated.specs.Environments.{Env, within, inside_function}
use Rattle.vs_elaborated.specs.Surveys.{turned}
use Rattle.vs_scope.specs.declared.places.Around.{Around}
use Rattle.vs_scope.specs.declared.places.View.{View}
use Rattle.vs_scope.specs.Complete.{complete}
pub use Rattle.vs_scope.specs.Stacks.{turn, value_or, below, env_at, env_above, frame_env, envs_after, envs, KeepShapes}

-- around a scope
abbrev pub around_env : Around → Env
around_env a = env_above (envs a.frames.now) a.parent a.turn

-- within a function nothing is declared yet
abbrev pub in_function_or : (in_function : Bool) → Env → Env
in_function_or true env = inside_function env []
in_function_or false env = env

-- where an expression stands
abbrev pub view_env : View → Env
view_env v = record (turned (in_function_or v.in_function (within (around_env v.around) (complete (around_env v.around) v.names.now))) (option turn v.inside)) { before = v.before }
