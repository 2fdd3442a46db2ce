-- Scopes, one within the other, and what is seen in each.
use Rattle.std.specs.Prelude.{◌≡◌, ℕ, List, [], ◌∷◌, ◌++◌, map, Option, Some, None, if◌then◌else◌, ◌==◌, nat_lt, slice_index_or}
use Rattle.vs_ast.specs.Views.{option}
use Rattle.vs_elaborated.specs.Environments as environment
use Rattle.vs_elaborated.specs.Environments.{Env, no_env, within}
use Rattle.vs_elaborated.specs.Surveys.{turned}
use Rattle.vs_scope.specs.declared.frames.Turn.{Turn}
use Rattle.vs_scope.specs.declared.frames.Frame.{Frame}
use Rattle.vs_scope.specs.Complete.{Shape, complete, shapes_in, shapes_of}

-- the value of a genvar
abbrev pub turn : Turn → environment.Turn
turn t = record { genvar = t.genvar; value = t.value }

-- the value of a loop's genvar if it is the one declared at this place, and else the other one
abbrev pub value_or : Option Turn → ℕ → Option ℕ → Option ℕ
value_or None genvar other = other
value_or (Some t) genvar other = if t.genvar == genvar then Some t.value else other

-- a parent's number is less than the scope's own
abbrev pub below : Option ℕ → ℕ → Option ℕ
below None number = None
below (Some p) number = if nat_lt p number then Some p else None

-- what is seen in the scope of this number
abbrev pub env_at : List Env → Option ℕ → Env
env_at es None = no_env
env_at es (Some i) = slice_index_or es i no_env

-- around a scope whose parent has this number
abbrev pub env_above : List Env → Option ℕ → Option Turn → Env
env_above es parent t = turned (env_at es parent) (option turn t)

-- a scope, where those of lesser numbers are known
abbrev pub frame_env : List Env → Frame → Env
frame_env es f = within (env_above es f.parent f.turn) (complete (env_above es f.parent f.turn) f.names)

-- the scopes of the next numbers
abbrev pub envs_after : List Env → List Frame → List Env
envs_after es [] = es
envs_after es (f ∷ fs) = envs_after (es ++ frame_env es f ∷ []) fs

-- what is seen in each scope
abbrev pub envs : List Frame → List Env
envs fs = envs_after [] fs

-- what each scope keeps of its functions, and what they mean
abbrev pub stack_shapes : List Frame → List (List (Option Shape))
stack_shapes fs = map (λ (f : Frame). shapes_in f.names) fs

abbrev pub stack_shapes_after : List Env → List Frame → List (List (Option Shape))
stack_shapes_after es [] = []
stack_shapes_after es (f ∷ fs) = shapes_of (complete (env_above es f.parent f.turn) f.names) ∷ stack_shapes_after (es ++ frame_env es f ∷ []) fs

-- they are the same
abbrev pub KeepShapes : List Frame → Type 0
KeepShapes fs = stack_shapes fs ≡ stack_shapes_after [] fs
