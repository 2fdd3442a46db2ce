-- What is seen where an expression stands.
use Rattle.std.proofs.Common.{◌≡◌, ℕ, Bool, true, false, List, [], ◌∷◌, Option, Some, None, if◌then◌else◌, refl, ap, ◌∙◌}
use Rattle.vs_ast.specs.Views.{option}
use Rattle.vs_four.specs.declared.Range.{Range}
use Rattle.vs_const.specs.Meanings.{ConstantValue, SignalMeaning, FunctionMeaning, AFunction, Unknown}
use Rattle.vs_elaborated.specs.Environments.{Declared, Later, OfSignal, OfParameter, OfFunction, OfGenvar, OfInteger, OfScope, Entry, Env, within, inside_function, find_name, turn_of, is_late, with_words, parameter_meaning, turn_meaning, declared_meaning, entry_meaning, named}
use Rattle.vs_maps.specs.Maps.{value_at}
use Rattle.vs_maps.specs.MapViews.{pairs}
use Rattle.vs_scope.specs.declared.names.Entry.{Entry as EntryOf}
use Rattle.vs_scope.specs.declared.places.View.{View}
use Rattle.vs_scope.specs.Complete.{complete}
use Rattle.vs_scope.specs.Seen.{Finds}
use Rattle.vs_elaborated.specs.Surveys.{turned}
use Rattle.vs_scope.specs.declared.frames.Turn.{Turn}
use Rattle.vs_scope.specs.Frames.{turn, value_or, around_env, in_function_or, view_env}
use Rattle.vs_scope.proofs.Scopes.{turned_frames, turned_turns, at_some, at_none}

-- the scope itself
abbrev scope_env : View → Env
scope_env v = within (around_env v.around) (complete (around_env v.around) v.names.now)

find_either : (b : Bool) (env : Env) (name : List ℕ) → find_name (in_function_or b env).frames name ≡ find_name env.frames name
find_either true env name = refl
find_either false env name = refl

turns_either : (b : Bool) (env : Env) → (in_function_or b env).turns ≡ env.turns
turns_either true env = refl
turns_either false env = refl

-- the names of the scope, and around them those of the others
pub view_frames : (v : View) (name : List ℕ) → find_name (view_env v).frames name ≡ find_name (complete (around_env v.around) v.names.now ∷ (around_env v.around).frames) name
view_frames v name = ap (λ (fs : List (List Entry)). find_name fs name) (turned_frames (in_function_or v.in_function (scope_env v)) v.inside) ∙ find_either v.in_function (scope_env v) name

-- a name of the scope
pub view_found : (v : View) (name : List ℕ) (c : EntryOf) → value_at name (pairs v.names.now.map) ≡ Some c → Finds (find_name (view_env v).frames name) name c
view_found v name c h =
    let f = at_some (around_env v.around) v.names.now name c v.kept h in
    record {
      entry = f.entry;
      found_is = view_frames v name ∙ ap (λ (o : Option Entry). elim o as (λ _. Option Entry) [ Some d ↦ Some d | None ↦ find_name (around_env v.around).frames name ]) f.found_is;
      name_is = f.name_is;
      place_is = f.place_is;
      declared_is = f.declared_is;
    }

-- and one that it hasn't
pub view_outside : (v : View) (name : List ℕ) → value_at name (pairs v.names.now.map) ≡ None → find_name (view_env v).frames name ≡ find_name (around_env v.around).frames name
view_outside v name h =
    view_frames v name
    ∙ ap (λ (o : Option Entry). elim o as (λ _. Option Entry) [ Some d ↦ Some d | None ↦ find_name (around_env v.around).frames name ]) (at_none (around_env v.around) v.names.now name v.kept h)

-- the values of genvars
pub view_turns : (v : View) (genvar : ℕ) → turn_of (view_env v).turns genvar ≡ value_or v.inside genvar (turn_of (around_env v.around).turns genvar)
view_turns v genvar =
    turned_turns (in_function_or v.in_function (scope_env v)) v.inside genvar ∙ ap (λ ts. value_or v.inside genvar (turn_of ts genvar)) (turns_either v.in_function (scope_env v))

-- whether a function is around
pub view_in : (v : View) → (view_env v).in_function ≡ v.in_function
view_in v = by v.in_function v.inside
  where
    by : (b : Bool) (t : Option Turn) → (let e : Env = record (turned (in_function_or b (scope_env v)) (option turn t)) { before = v.before } in e.in_function) ≡ b
    by true None = refl
    by true (Some t) = refl
    by false None = refl
    by false (Some t) = refl

-- the scope seen from within a function of it
pub view_inside : (v : View) → v.in_function ≡ true → v.inside ≡ None → v.before ≡ None → view_env v ≡ inside_function (scope_env v) []
view_inside v h k m = by v.in_function v.inside v.before h k m
  where
    by : (b : Bool) (t : Option Turn) (p : Option ℕ) → b ≡ true → t ≡ None → p ≡ None
        → (let e : Env = record (turned (in_function_or b (scope_env v)) (option turn t)) { before = p } in e) ≡ inside_function (scope_env v) []
    by true None None h k m = refl
    by true None (Some p) h k m = cc
    by true (Some t) p h k m = cc
    by false t p h k m = cc

-- ---- what a call passes

-- what means a function is one that is complete
no_words : (o : Option Range) (s : SignalMeaning) (f : FunctionMeaning) → with_words o s ≡ AFunction f → ⊥
no_words None s f h = cc
no_words (Some r) s f h = cc

no_parameter : (b : Bool) (o : Option ConstantValue) (r : Option Range) (f : FunctionMeaning) → (if b then Unknown else parameter_meaning o r) ≡ AFunction f → ⊥
no_parameter true o r f h = cc
no_parameter false None r f h = cc
no_parameter false (Some v) None f h = cc
no_parameter false (Some v) (Some r) f h = cc

no_turn : (o : Option ℕ) (f : FunctionMeaning) → turn_meaning o ≡ AFunction f → ⊥
no_turn None f h = cc
no_turn (Some v) f h = cc

function_declared : (env : Env) (place : ℕ) (d : Declared) (f : FunctionMeaning) → declared_meaning env place d ≡ AFunction f → d ≡ OfFunction (Some f)
function_declared env place Later f h = cc
function_declared env place (OfSignal s) f h = absurd (no_words s.signal.words s f h)
function_declared env place (OfParameter v r) f h = absurd (no_parameter (is_late env.before place) v r f h)
function_declared env place (OfFunction None) f h = cc
function_declared env place (OfFunction (Some g)) f h = let is : g ≡ f = cc in ap (λ (x : FunctionMeaning). OfFunction (Some x)) is
function_declared env place OfGenvar f h = absurd (no_turn (turn_of env.turns place) f h)
function_declared env place (OfInteger owner) f h = cc
function_declared env place OfScope f h = cc

-- where it is declared
pub function_found : (env : Env) (name : List ℕ) (f : FunctionMeaning) → named env name ≡ AFunction f → (e : Entry) × (find_name env.frames name ≡ Some e) × (e.declared ≡ OfFunction (Some f))
function_found env name f h = by (find_name env.frames name) refl h
  where
    by : (o : Option Entry) → find_name env.frames name ≡ o → entry_meaning env o ≡ AFunction f → (e : Entry) × (find_name env.frames name ≡ Some e) × (e.declared ≡ OfFunction (Some f))
    by None is h = cc
    by (Some e) is h = (e, is, function_declared env e.place e.declared f h)
