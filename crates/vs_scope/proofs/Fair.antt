-- Each value that a name stands for has 1 to 64 bits, and a range of as many.
use Rattle.std.proofs.Common.{ℕ, zero, suc, Bool, true, false, List, [], ◌∷◌, ◌++◌, slice_index_or, map, Option, Some, None, if◌then◌else◌, refl, sym, subst, arith}
use Rattle.vs_four.specs.declared.Range.{Range}
use Rattle.vs_design.specs.Clocks.{same_name}
use Rattle.vs_const.specs.Meanings.{ConstantValue, SignalMeaning, FunctionMeaning, Unknown, IsFairValue, IsFairMeaning, IsFair}
use Rattle.vs_elaborated.specs.Environments.{Declared, Later, OfSignal, OfParameter, OfGenvar, OfInteger, OfFunction, OfScope, Entry, Env, no_env, within, find_entry, find_name, is_late, turn_meaning, turn_of, parameter_meaning, with_words, function_meaning, declared_meaning, entry_meaning, named}
use Rattle.vs_maps.specs.Maps.{Pair}
use Rattle.vs_maps.specs.MapViews.{pairs}
use Rattle.vs_scope.specs.declared.names.Declared.{Declared as DeclaredOf}
use Rattle.vs_scope.specs.declared.names.Declared.TheVariants as states
use Rattle.vs_scope.specs.declared.names.Evaluated.{Evaluated}
use Rattle.vs_scope.specs.declared.names.Evaluated.TheVariants.{Value, Undefined}
use Rattle.vs_scope.specs.declared.names.Entry.{Entry as EntryOf}
use Rattle.vs_scope.specs.declared.frames.Frame.{Frame}
use Rattle.vs_scope.specs.declared.places.View.{View}
use Rattle.vs_scope.specs.declared.names.Names.{Names}
use Rattle.vs_scope.specs.Views.{declared, evaluated, pair_entry, entries}
use Rattle.vs_scope.specs.Complete.{complete}
use Rattle.vs_scope.specs.Functions.{IsCompletedDeclared, AreCompleted}
use Rattle.vs_scope.specs.Frames.{env_at, env_above, frame_env, envs_after, envs, around_env, in_function_or, view_env}
use Rattle.vs_scope.proofs.Completing.{names_completed}
use Rattle.vs_scope.proofs.Scopes.{turned_frames}

abbrev FairDeclared : Declared → Type 0
FairDeclared (OfParameter (Some v) (Some r)) = IsFairValue v r
FairDeclared _ = Unit {0}

abbrev Each : {A : Type 0} → (A → Type 0) → List A → Type 0
Each P [] = Unit {0}
Each P (a ∷ rest) = P a × Each P rest

abbrev AreFair : List Entry → Type 0
AreFair es = Each (λ (e : Entry). FairDeclared e.declared) es

abbrev IsFairEnv : Env → Type 0
IsFairEnv env = Each AreFair env.frames

fair_evaluated : (v : Evaluated) → FairDeclared (evaluated v)
fair_evaluated (Value p) = p.fair
fair_evaluated (Undefined None) = tt
fair_evaluated (Undefined (Some r)) = tt

fair_declared : (d : DeclaredOf) → FairDeclared (declared d)
fair_declared states.Later = tt
fair_declared states.Announced = tt
fair_declared (states.Signal s) = tt
fair_declared (states.Parameter value) = fair_evaluated value
fair_declared (states.Function f) = tt
fair_declared states.Genvar = tt
fair_declared (states.Integer scope) = tt
fair_declared states.Scope = tt

fair_entries : (ps : List (Pair EntryOf)) → AreFair (map pair_entry ps)
fair_entries [] = tt
fair_entries (p ∷ ps) = (fair_declared p.value.declared, fair_entries ps)

fair_completed : (c d : Declared) → IsCompletedDeclared c d → FairDeclared c → FairDeclared d
fair_completed Later d h k = subst FairDeclared (sym h) k
fair_completed (OfSignal s) d h k = subst FairDeclared (sym h) k
fair_completed (OfParameter v r) d h k = subst FairDeclared (sym h) k
fair_completed OfGenvar d h k = subst FairDeclared (sym h) k
fair_completed (OfInteger owner) d h k = subst FairDeclared (sym h) k
fair_completed (OfFunction None) d h k = subst FairDeclared (sym h.1) tt
fair_completed (OfFunction (Some f)) d h k = subst FairDeclared (sym h) k
fair_completed OfScope d h k = subst FairDeclared (sym h) k

all_fair_completed : (es fs : List Entry) → AreCompleted es fs → AreFair es → AreFair fs
all_fair_completed [] [] h k = tt
all_fair_completed [] (f ∷ fs) h k = absurd h
all_fair_completed (e ∷ es) [] h k = absurd h
all_fair_completed (e ∷ es) (f ∷ fs) h k = (fair_completed e.declared f.declared h.0.2 k.0, all_fair_completed es fs h.1 k.1)

fair_names : (outer : Env) (names : Names) → AreFair (complete outer names)
fair_names outer names = all_fair_completed (entries names) (complete outer names) (names_completed outer names) (fair_entries (pairs names.map))

fair_at : (es : List Env) (i : ℕ) → Each IsFairEnv es → IsFairEnv (slice_index_or es i no_env)
fair_at [] i h = tt
fair_at (e ∷ es) zero h = h.0
fair_at (e ∷ es) (suc i) h = fair_at es i h.1

fair_parent : (es : List Env) (n : Option ℕ) → Each IsFairEnv es → IsFairEnv (env_at es n)
fair_parent es None h = tt
fair_parent es (Some i) h = fair_at es i h

fair_frame : (es : List Env) (f : Frame) → Each IsFairEnv es → IsFairEnv (frame_env es f)
fair_frame es f h = (fair_names (env_above es f.parent f.turn) f.names, subst (λ (x : List (List Entry)). Each AreFair x) (sym (turned_frames (env_at es f.parent) f.turn)) (fair_parent es f.parent h))

each_more : {A : Type 0} (P : A → Type 0) (xs : List A) (y : A) → Each P xs → P y → Each P (xs ++ y ∷ [])
each_more P [] y h k = (k, tt)
each_more P (x ∷ xs) y h k = (h.0, each_more P xs y h.1 k)

fair_after : (es : List Env) (fs : List Frame) → Each IsFairEnv es → Each IsFairEnv (envs_after es fs)
fair_after es [] h = h
fair_after es (f ∷ fs) h = fair_after (es ++ frame_env es f ∷ []) fs (each_more IsFairEnv es (frame_env es f) h (fair_frame es f h))

fair_around : (v : View) → Each AreFair (around_env v.around).frames
fair_around v = subst (λ (x : List (List Entry)). Each AreFair x) (sym (turned_frames (env_at (envs v.around.frames.now) v.around.parent) v.around.turn)) (fair_parent (envs v.around.frames.now) v.around.parent (fair_after [] v.around.frames.now tt))

fair_frames : (v : View) → Each AreFair (view_env v).frames
fair_frames v =
    subst (λ (x : List (List Entry)). Each AreFair x) (sym (turned_frames (in_function_or v.in_function (within (around_env v.around) (complete (around_env v.around) v.names.now))) v.inside))
    (by v.in_function (fair_names (around_env v.around) v.names.now, fair_around v))
  where
    by : (b : Bool) → Each AreFair (complete (around_env v.around) v.names.now ∷ (around_env v.around).frames) → Each AreFair (in_function_or b (within (around_env v.around) (complete (around_env v.around) v.names.now))).frames
    by true h = (tt, h)
    by false h = h

abbrev FairOption : Option Entry → Type 0
FairOption None = Unit {0}
FairOption (Some e) = FairDeclared e.declared

found_entry : (es : List Entry) (name : List ℕ) → AreFair es → FairOption (find_entry es name)
found_entry [] name h = tt
found_entry (e ∷ es) name h = by (same_name e.name name) (found_entry es name h.1)
  where
    by : (b : Bool) → FairOption (find_entry es name) → FairOption (if b then Some e else find_entry es name)
    by true k = h.0
    by false k = k

found_name : (fs : List (List Entry)) (name : List ℕ) → Each AreFair fs → FairOption (find_name fs name)
found_name [] name h = tt
found_name (f ∷ fs) name h = by (find_entry f name) (found_entry f name h.0) (found_name fs name h.1)
  where
    by : (o : Option Entry) → FairOption o → FairOption (find_name fs name) → FairOption (elim o [ Some e ↦ Some e | None ↦ find_name fs name ])
    by None k m = m
    by (Some e) k m = k

fair_turn : (o : Option ℕ) → IsFairMeaning (turn_meaning o)
fair_turn None = tt
fair_turn (Some v) = record { some = omega arith; most = omega arith; range = refl }

fair_parameter : (value : Option ConstantValue) (range : Option Range) → FairDeclared (OfParameter value range) → IsFairMeaning (parameter_meaning value range)
fair_parameter None range h = tt
fair_parameter (Some v) None h = tt
fair_parameter (Some v) (Some r) h = h

fair_signal : (s : SignalMeaning) (words : Option Range) → IsFairMeaning (with_words words s)
fair_signal s None = tt
fair_signal s (Some r) = tt

fair_function : (o : Option FunctionMeaning) → IsFairMeaning (function_meaning o)
fair_function None = tt
fair_function (Some f) = tt

fair_meaning : (env : Env) (place : ℕ) (d : Declared) → FairDeclared d → IsFairMeaning (declared_meaning env place d)
fair_meaning env place Later h = tt
fair_meaning env place (OfSignal s) h = fair_signal s s.signal.words
fair_meaning env place (OfParameter value range) h = by (is_late env.before place)
  where
    by : (b : Bool) → IsFairMeaning (if b then Unknown else parameter_meaning value range)
    by true = tt
    by false = fair_parameter value range h
fair_meaning env place OfGenvar h = fair_turn (turn_of env.turns place)
fair_meaning env place (OfInteger owner) h = tt
fair_meaning env place (OfFunction f) h = fair_function f
fair_meaning env place OfScope h = tt

fair_found : (env : Env) (o : Option Entry) → FairOption o → IsFairMeaning (entry_meaning env o)
fair_found env None h = tt
fair_found env (Some e) h = fair_meaning env e.place e.declared h

-- what is seen at any place
pub view_fair : (v : View) → IsFair (named (view_env v))
view_fair v name = fair_found (view_env v) (find_name (view_env v).frames name) (found_name (view_env v).frames name (fair_frames v))
