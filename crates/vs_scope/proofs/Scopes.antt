-- What is seen in a scope, by what is seen around it.
use Rattle.std.proofs.Common.{slice_get, ◌≡◌, ℕ, zero, suc, ◌+◌, ◌<◌, ◌≤◌, Bool, true, false, List, [], ◌∷◌, ◌++◌, length, get_or, slice_index_or, nat_lt, Option, Some, None, MatchOption, if◌then◌else◌, refl, sym, ap, ◌∙◌, subst, arith, length-append}
use Rattle.std.proofs.lemmas.Bool.{ltb-true, ltb-false}
use Rattle.vs_ast.specs.Views.{option}
use Rattle.vs_const.specs.Meanings.{FunctionMeaning, IsShapeIn}
use Rattle.vs_const.specs.declared.names.SignalShape.{SignalShape}
use Rattle.vs_elaborated.specs.Environments.{Entry, Env, OfFunction, no_env, within, find_entry, find_name, turn_of}
use Rattle.vs_elaborated.specs.Surveys.{turned}
use Rattle.vs_scope.specs.declared.frames.Frame.{Frame}
use Rattle.vs_scope.specs.declared.frames.Turn.{Turn}
use Rattle.vs_scope.specs.declared.names.Names.{Names}
use Rattle.vs_maps.specs.Maps.{value_at}
use Rattle.vs_maps.specs.MapViews.{pairs}
use Rattle.vs_scope.specs.declared.names.Entry.{Entry as EntryOf}
use Rattle.vs_scope.specs.Complete.{complete, shapes_in, shapes_of, KeepsShapes}
use Rattle.vs_scope.specs.Seen.{Finds}
use Rattle.vs_scope.specs.Stacks.{turn, value_or, below, env_at, env_above, frame_env, envs_after, envs, stack_shapes, stack_shapes_after, KeepShapes}
use Rattle.vs_scope.proofs.Completing.{found_complete}

-- a loop's value changes no name
pub turned_frames : (env : Env) (t : Option Turn) → (turned env (option turn t)).frames ≡ env.frames
turned_frames env None = refl
turned_frames env (Some t) = refl

pub turned_turns : (env : Env) (t : Option Turn) (genvar : ℕ) → turn_of (turned env (option turn t)).turns genvar ≡ value_or t genvar (turn_of env.turns genvar)
turned_turns env None genvar = refl
turned_turns env (Some t) genvar = refl

at_first : {A : Type 0} (es : List A) (x : A) (rest : List A) (d : A) → slice_index_or (es ++ x ∷ rest) (length es) d ≡ x
at_first [] x rest d = refl
at_first (e ∷ es) x rest d = at_first es x rest d

at_front : {A : Type 0} (es rest : List A) (i : ℕ) (d : A) → i < length es → slice_index_or (es ++ rest) i d ≡ slice_index_or es i d
at_front [] rest i d h = absurd (omega arith)
at_front (e ∷ es) rest zero d h = refl
at_front (e ∷ es) rest (suc i) d h = at_front es rest i d (omega arith)

past : {A : Type 0} (es : List A) (i : ℕ) (d : A) → length es ≤ i → slice_index_or es i d ≡ d
past [] i d h = refl
past (e ∷ es) zero d h = absurd (omega arith)
past (e ∷ es) (suc i) d h = past es i d (omega arith)

more : {A : Type 0} (es : List A) (x : A) → length (es ++ x ∷ []) ≡ suc (length es)
more es x = simp length-append (omega arith)

length_after : (es : List Env) (fs : List Frame) → length (envs_after es fs) ≡ length es + length fs
length_after es [] = omega arith
length_after es (f ∷ fs) = length_after (es ++ frame_env es f ∷ []) fs ∙ omega (arith, more es (frame_env es f))

-- those of lesser numbers stay
kept : (es : List Env) (fs : List Frame) (i : ℕ) → i < length es → slice_index_or (envs_after es fs) i no_env ≡ slice_index_or es i no_env
kept es [] i h = refl
kept es (f ∷ fs) i h = kept (es ++ frame_env es f ∷ []) fs i (omega (arith, more es (frame_env es f))) ∙ at_front es (frame_env es f ∷ []) i no_env h

-- a parent is among those of lesser numbers
parent_kept : (es : List Env) (fs : List Frame) (parent : Option ℕ) → env_at es parent ≡ env_at (envs_after es fs) (below parent (length es))
parent_kept es fs None = refl
parent_kept es fs (Some p) = by (nat_lt p (length es)) refl
  where
    by : (b : Bool) → nat_lt p (length es) ≡ b → slice_index_or es p no_env ≡ env_at (envs_after es fs) (if b then Some p else None)
    by true e = sym (kept es fs p (ltb-true p (length es) e))
    by false e = past es p no_env (ltb-false p (length es) e)

-- a scope within what is around it
abbrev placed_env : List Env → Frame → ℕ → Env
placed_env es f n = let outer = env_above es (below f.parent n) f.turn in within outer (complete outer f.names)

step_from : (es : List Env) (fs : List Frame) (i : ℕ) (f : Frame) → i < length fs → f ≡ get_or fs i f
    → slice_index_or (envs_after es fs) (length es + i) no_env ≡ placed_env (envs_after es fs) f (length es + i)
step_from es [] i f h e = absurd (omega arith)
step_from es (g ∷ gs) zero f h e =
    subst (λ (n : ℕ). slice_index_or (envs_after es (g ∷ gs)) n no_env ≡ placed_env (envs_after es (g ∷ gs)) f n) (omega arith)
    (kept (es ++ frame_env es g ∷ []) gs (length es) (omega (arith, more es (frame_env es g))) ∙ at_first es (frame_env es g) [] no_env
    ∙ ap (frame_env es) (sym e)
    ∙ ap (λ (a : Env). let outer = turned a (option turn f.turn) in within outer (complete outer f.names)) (parent_kept es (g ∷ gs) f.parent))
step_from es (g ∷ gs) (suc i) f h e =
    subst (λ (n : ℕ). slice_index_or (envs_after es (g ∷ gs)) n no_env ≡ placed_env (envs_after es (g ∷ gs)) f n) (omega (arith, more es (frame_env es g)))
    (step_from (es ++ frame_env es g ∷ []) gs i f (omega arith) e)

-- a scope within what is around it
pub env_step : (fs : List Frame) (i : ℕ) (f : Frame) → i < length fs → f ≡ get_or fs i f
    → env_at (envs fs) (Some i) ≡ (let outer = env_above (envs fs) (below f.parent i) f.turn in within outer (complete outer f.names))
env_step fs i f h e = subst (λ (n : ℕ). slice_index_or (envs fs) n no_env ≡ placed_env (envs fs) f n) (omega arith) (step_from [] fs i f h e)

shapes_from : (es : List Env) (fs : List Frame) (i : ℕ) (f : Frame) → i < length fs → f ≡ get_or fs i f → stack_shapes fs ≡ stack_shapes_after es fs
    → KeepsShapes (env_above (envs_after es fs) (below f.parent (length es + i)) f.turn) f.names
shapes_from es [] i f h e k = absurd (omega arith)
shapes_from es (g ∷ gs) zero f h e k =
    let first : shapes_in g.names ≡ shapes_of (complete (env_above es g.parent g.turn) g.names) = cc in
    subst (λ (n : ℕ). KeepsShapes (env_above (envs_after es (g ∷ gs)) (below f.parent n) f.turn) f.names) (omega arith)
    (subst (λ (a : Env). KeepsShapes (turned a (option turn f.turn)) f.names) (parent_kept es (g ∷ gs) f.parent) (subst (λ (x : Frame). KeepsShapes (env_above es x.parent x.turn) x.names) (sym e) first))
shapes_from es (g ∷ gs) (suc i) f h e k =
    let rest : stack_shapes gs ≡ stack_shapes_after (es ++ frame_env es g ∷ []) gs = cc in
    subst (λ (n : ℕ). KeepsShapes (env_above (envs_after es (g ∷ gs)) (below f.parent n) f.turn) f.names) (omega (arith, more es (frame_env es g)))
    (shapes_from (es ++ frame_env es g ∷ []) gs i f (omega arith) e rest)

-- what a scope keeps of its functions
pub shapes_at : (fs : List Frame) (i : ℕ) (f : Frame) → i < length fs → f ≡ get_or fs i f → KeepShapes fs → KeepsShapes (env_above (envs fs) (below f.parent i) f.turn) f.names
shapes_at fs i f h e k = subst (λ (n : ℕ). KeepsShapes (env_above (envs fs) (below f.parent n) f.turn) f.names) (omega arith) (shapes_from [] fs i f h e k)

-- a number that is no scope's
pub env_past : (fs : List Frame) (i : ℕ) → length fs ≤ i → env_at (envs fs) (Some i) ≡ no_env
env_past fs i h = past (envs fs) i no_env (omega (arith, length_after [] fs))

-- a scope's number, as a measure
abbrev pub height : Option ℕ → ℕ
height None = 0
height (Some i) = suc i

pub below_falls : (parent : Option ℕ) (i : ℕ) → height (below parent i) < suc i
below_falls None i = omega arith
below_falls (Some p) i = by (nat_lt p i) refl
  where
    by : (b : Bool) → nat_lt p i ≡ b → height (if b then Some p else None) < suc i
    by true e = let h = ltb-true p i e in omega arith
    by false e = omega arith

find_in : (f : List Entry) (fs : List (List Entry)) (name : List ℕ) (e : Entry) → find_entry f name ≡ Some e → find_name (f ∷ fs) name ≡ Some e
find_in f fs name e h = ap (λ (o : Option Entry). elim o [ Some d ↦ Some d | None ↦ find_name fs name ]) h

find_out : (f : List Entry) (fs : List (List Entry)) (name : List ℕ) → find_entry f name ≡ None → find_name (f ∷ fs) name ≡ find_name fs name
find_out f fs name h = ap (λ (o : Option Entry). elim o [ Some d ↦ Some d | None ↦ find_name fs name ]) h

-- a name that the scope declares
pub found_within : (env : Env) (es : List Entry) (name : List ℕ) (c : EntryOf) → Finds (find_entry es name) name c → Finds (find_name (es ∷ env.frames) name) name c
found_within env es name c f = record { entry = f.entry; found_is = find_in es env.frames name f.entry f.found_is; name_is = f.name_is; place_is = f.place_is; declared_is = f.declared_is }

-- and one that it doesn't
pub found_outside : (env : Env) (t : Option Turn) (es : List Entry) (name : List ℕ) → find_entry es name ≡ None
    → find_name (within (turned env (option turn t)) es).frames name ≡ find_name env.frames name
found_outside env t es name h = find_out es (turned env (option turn t)).frames name h ∙ ap (λ fs. find_name fs name) (turned_frames env t)

-- by what a look-up in the names of the scope finds
pub at_some : (outer : Env) (names : Names) (name : List ℕ) (c : EntryOf) → KeepsShapes outer names → value_at name (pairs names.map) ≡ Some c → Finds (find_entry (complete outer names) name) name c
at_some outer names name c k e = subst (λ (o : Option EntryOf). MatchOption o (find_entry (complete outer names) name ≡ None) (λ v. Finds (find_entry (complete outer names) name) name v)) e (found_complete outer names name k)

pub at_none : (outer : Env) (names : Names) (name : List ℕ) → KeepsShapes outer names → value_at name (pairs names.map) ≡ None → find_entry (complete outer names) name ≡ None
at_none outer names name k e = subst (λ (o : Option EntryOf). MatchOption o (find_entry (complete outer names) name ≡ None) (λ v. Finds (find_entry (complete outer names) name) name v)) e (found_complete outer names name k)

pub found_at : (fs : List Frame) (i : ℕ) (f : Frame) (name : List ℕ) (c : EntryOf) → i < length fs → f ≡ get_or fs i f → KeepShapes fs → value_at name (pairs f.names.map) ≡ Some c
    → Finds (find_name (env_at (envs fs) (Some i)).frames name) name c
found_at fs i f name c h e k m =
    let outer = env_above (envs fs) (below f.parent i) f.turn in
    subst (λ (a : Env). Finds (find_name a.frames name) name c) (sym (env_step fs i f h e)) (found_within outer (complete outer f.names) name c (at_some outer f.names name c (shapes_at fs i f h e k) m))

pub found_above : (fs : List Frame) (i : ℕ) (f : Frame) (name : List ℕ) → i < length fs → f ≡ get_or fs i f → KeepShapes fs → value_at name (pairs f.names.map) ≡ None
    → find_name (env_at (envs fs) (Some i)).frames name ≡ find_name (env_at (envs fs) (below f.parent i)).frames name
found_above fs i f name h e k m =
    let outer = env_above (envs fs) (below f.parent i) f.turn in
    ap (λ (a : Env). find_name a.frames name) (env_step fs i f h e) ∙ found_outside (env_at (envs fs) (below f.parent i)) f.turn (complete outer f.names) name (at_none outer f.names name (shapes_at fs i f h e k) m)

pub turn_step : (fs : List Frame) (i : ℕ) (f : Frame) (genvar : ℕ) → i < length fs → f ≡ get_or fs i f
    → turn_of (env_at (envs fs) (Some i)).turns genvar ≡ value_or f.turn genvar (turn_of (env_at (envs fs) (below f.parent i)).turns genvar)
turn_step fs i f genvar h k = ap (λ (a : Env). turn_of a.turns genvar) (env_step fs i f h k) ∙ turned_turns (env_at (envs fs) (below f.parent i)) f.turn genvar

-- ---- what a call passes

pub passed_nowhere : (name : List ℕ) (e : Entry) → find_name no_env.frames name ≡ Some e → ⊥
passed_nowhere name e h = cc

-- a name that the scope declares is found there
found_here : (env : Env) (es : List Entry) (name : List ℕ) (e : Entry) (c : EntryOf) → Finds (find_entry es name) name c → find_name (es ∷ env.frames) name ≡ Some e → find_entry es name ≡ Some e
found_here env es name e c f h = f.found_is ∙ sym (find_in es env.frames name f.entry f.found_is) ∙ h

pub passed_here : (fs : List Frame) (i : ℕ) (f : Frame) (name : List ℕ) (e : Entry) (g : FunctionMeaning) (c : EntryOf) (s : Option SignalShape) (number : ℕ) → i < length fs → f ≡ get_or fs i f → KeepShapes fs
    → value_at name (pairs f.names.map) ≡ Some c → find_name (env_at (envs fs) (Some i)).frames name ≡ Some e → e.declared ≡ OfFunction (Some g)
    → ((outer : Env) (x : Entry) (y : FunctionMeaning) → KeepsShapes outer f.names → find_entry (complete outer f.names) name ≡ Some x → x.declared ≡ OfFunction (Some y) → IsShapeIn s (slice_get y.passed number)) → IsShapeIn s (slice_get g.passed number)
passed_here fs i f name e g c s number h k keeps at found is passes =
    let outer = env_above (envs fs) (below f.parent i) f.turn in
    let shapes = shapes_at fs i f h k keeps in
    passes outer e g shapes
    (found_here outer (complete outer f.names) name e c (at_some outer f.names name c shapes at) (sym (ap (λ (a : Env). find_name a.frames name) (env_step fs i f h k)) ∙ found)) is

-- and in a scope with what is around it
pub passed_within : (outer : Env) (names : Names) (name : List ℕ) (e : Entry) (g : FunctionMeaning) (c : EntryOf) (s : Option SignalShape) (number : ℕ) → KeepsShapes outer names → value_at name (pairs names.map) ≡ Some c
    → find_name (complete outer names ∷ outer.frames) name ≡ Some e → e.declared ≡ OfFunction (Some g)
    → ((x : Entry) (y : FunctionMeaning) → find_entry (complete outer names) name ≡ Some x → x.declared ≡ OfFunction (Some y) → IsShapeIn s (slice_get y.passed number)) → IsShapeIn s (slice_get g.passed number)
passed_within outer names name e g c s number keeps at found is passes = passes e g (found_here outer (complete outer names) name e c (at_some outer names name c keeps at) found) is
