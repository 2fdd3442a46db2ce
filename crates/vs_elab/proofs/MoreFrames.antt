-- One scope more leaves what is seen in those before it, and what is pending there, as it was.
use Rattle.std.proofs.Common.{◌≡◌, ℕ, zero, suc, ◌+◌, ◌<◌, List, [], ◌∷◌, ◌++◌, length, length-append, map, flat_map, Some, refl, sym, ap, ◌∙◌, subst, arith}
use Rattle.std.specs.Prelude.{slice_index_or, reverse}
use Rattle.std.proofs.lemmas.List.{reverse-append}
use Rattle.vs_grammar.specs.Trees as tree
use Rattle.vs_grammar.specs.Shapes.{Each}
use Rattle.vs_elaborated.specs.Environments.{Env, no_env}
use Rattle.vs_scope.specs.declared.frames.Frame.{Frame}
use Rattle.vs_maps.specs.MapViews.{pairs}
use Rattle.vs_scope.specs.Complete.{KeepsShapes, complete, shapes_in, shapes_of}
use Rattle.vs_scope.specs.Frames.{env_at, env_above, frame_env, envs_after, envs, KeepShapes}
use Rattle.vs_scope.specs.Stacks.{stack_shapes, stack_shapes_after}
use Rattle.vs_elab.specs.declared.stack.Pending.{Pending}
use Rattle.vs_elab.specs.Stacks as stacks
use Rattle.vs_elab.specs.Pending.{part_pieces, pending_pieces, stack_pieces, AreWithin}

envs_behind : (es : List Env) (fs : List Frame) (f : Frame) → envs_after es (fs ++ f ∷ []) ≡ envs_after es fs ++ frame_env (envs_after es fs) f ∷ []
envs_behind es [] f = refl
envs_behind es (g ∷ fs) f = envs_behind (es ++ frame_env es g ∷ []) fs f

envs_length : (es : List Env) (fs : List Frame) → length (envs_after es fs) ≡ length es + length fs
envs_length es [] = omega arith
envs_length es (f ∷ fs) = let a = envs_length (es ++ frame_env es f ∷ []) fs in let b = length-append es (frame_env es f ∷ []) in omega (arith, a, b)

read_before : {A : Type 0} (xs : List A) (y d : A) (i : ℕ) → i < length xs → slice_index_or (xs ++ y ∷ []) i d ≡ slice_index_or xs i d
read_before [] y d i h = absurd (let no : ⊥ = omega (arith, h) in no)
read_before (x ∷ xs) y d zero h = refl
read_before (x ∷ xs) y d (suc i) h = read_before xs y d i (omega (arith, h))

read_last : {A : Type 0} (xs : List A) (y d : A) → slice_index_or (xs ++ y ∷ []) (length xs) d ≡ y
read_last [] y d = refl
read_last (x ∷ xs) y d = read_last xs y d

-- in the scopes before
pub env_kept : (fs : List Frame) (f : Frame) (i : ℕ) → i < length fs → env_at (envs (fs ++ f ∷ [])) (Some i) ≡ env_at (envs fs) (Some i)
env_kept fs f i h =
    ap (λ es. slice_index_or es i no_env) (envs_behind [] fs f) ∙ read_before (envs fs) (frame_env (envs fs) f) no_env i (let a = envs_length [] fs in omega (arith, h, a))

-- and in the new one
pub env_new : (fs : List Frame) (f : Frame) → env_at (envs (fs ++ f ∷ [])) (Some (length fs)) ≡ frame_env (envs fs) f
env_new fs f =
    ap (λ es. slice_index_or es (length fs) no_env) (envs_behind [] fs f)
    ∙ ap (λ n. slice_index_or (envs fs ++ frame_env (envs fs) f ∷ []) n no_env) (let a = envs_length [] fs in let e : length fs ≡ length (envs fs) = omega (arith, a) in e)
    ∙ read_last (envs fs) (frame_env (envs fs) f) no_env

one_kept : (source : tree.Source) (fs : List Frame) (f : Frame) (p : Pending) → p.frame < length fs → pending_pieces source (fs ++ f ∷ []) p ≡ pending_pieces source fs p
one_kept source fs f p h = ap (λ (e : Env). map (stacks.pending p.left) (part_pieces source (record { scope = p.frame; depth = p.depth; env = e }) p.part)) (env_kept fs f p.frame h)

all_kept : (source : tree.Source) (fs : List Frame) (f : Frame) (ps : List Pending) → AreWithin (length fs) ps → flat_map (pending_pieces source (fs ++ f ∷ [])) ps ≡ flat_map (pending_pieces source fs) ps
all_kept source fs f [] h = refl
all_kept source fs f (p ∷ ps) h =
    ap (λ r. r ++ flat_map (pending_pieces source (fs ++ f ∷ [])) ps) (one_kept source fs f p h.0) ∙ ap (λ r. pending_pieces source fs p ++ r) (all_kept source fs f ps h.1)

pub each_behind : {A : Type 0} (P : A → Type 0) (xs ys : List A) → Each P xs → Each P ys → Each P (xs ++ ys)
each_behind P [] ys h k = k
each_behind P (x ∷ xs) ys h k = (h.0, each_behind P xs ys h.1 k)

each_reversed : {A : Type 0} (P : A → Type 0) (xs : List A) → Each P xs → Each P (reverse xs)
each_reversed P [] h = tt
each_reversed P (x ∷ xs) h = subst (Each P) (sym (reverse-append (x ∷ []) xs)) (each_behind P (reverse xs) (x ∷ []) (each_reversed P xs h.1) (h.0, tt))

-- what is pending stays so
pub stack_kept : (source : tree.Source) (fs : List Frame) (f : Frame) (ps : List Pending) → AreWithin (length fs) ps → stack_pieces source (fs ++ f ∷ []) ps ≡ stack_pieces source fs ps
stack_kept source fs f ps h = all_kept source fs f (reverse ps) (each_reversed (λ (p : Pending). p.frame < length fs) ps h)

-- ---- what scopes keep of their functions

stack_behind : (fs : List Frame) (f : Frame) → stack_shapes (fs ++ f ∷ []) ≡ stack_shapes fs ++ shapes_in f.names ∷ []
stack_behind [] f = refl
stack_behind (g ∷ fs) f = ap (λ r. shapes_in g.names ∷ r) (stack_behind fs f)

after_behind : (es : List Env) (fs : List Frame) (f : Frame)
    → stack_shapes_after es (fs ++ f ∷ []) ≡ stack_shapes_after es fs ++ shapes_of (complete (env_above (envs_after es fs) f.parent f.turn) f.names) ∷ []
after_behind es [] f = refl
after_behind es (g ∷ fs) f = ap (λ r. shapes_of (complete (env_above es g.parent g.turn) g.names) ∷ r) (after_behind (es ++ frame_env es g ∷ []) fs f)

-- one scope more that keeps its own
pub kept_behind : (fs : List Frame) (f : Frame) → KeepShapes fs → KeepsShapes (env_above (envs fs) f.parent f.turn) f.names → KeepShapes (fs ++ f ∷ [])
kept_behind fs f all own =
    stack_behind fs f ∙ ap (λ r. r ++ shapes_in f.names ∷ []) all ∙ ap (λ x. stack_shapes_after [] fs ++ x ∷ []) own ∙ sym (after_behind [] fs f)
