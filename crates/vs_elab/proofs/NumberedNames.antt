-- Functions stand at their numbers in a design that has more behind them.
use Rattle.std.proofs.Common.{◌≡◌, ◌<◌, ◌≤◌, ℕ, zero, suc, List, [], ◌∷◌, ◌++◌, length, length-append, Some, None, sym, ap, ◌∙◌, subst, arith, ◌⊎◌, inl, inr}
use Rattle.std.specs.Prelude.{slice_get}
use Rattle.std.proofs.lemmas.Bool.{cases_lt}
use Rattle.std.proofs.lemmas.List.{append-nil}
use Rattle.vs_design.specs.Statements.{Function}
use Rattle.vs_design.specs.Designs.{Design}
use Rattle.vs_const.specs.Meanings.{FunctionMeaning, Meaning, AValue, Undefined, ASignal, AMemory, AFunction, Incomplete, Another, Barred, Unknown, Find}
use Rattle.vs_elaborated.specs.Environments.{Declared, Later, OfSignal, OfParameter, OfGenvar, OfInteger, OfFunction, OfScope, Entry, Env, within}
use Rattle.vs_elaborated.specs.Numbers.{IsAtNumber, IsNumbered, AreNumbered, IsNumberedDeclared, AreNumberedEntries, AreNumberedFrames}
use Rattle.vs_scope.specs.declared.frames.Frame.{Frame}
use Rattle.vs_scope.specs.Frames.{env_at, envs}
use Rattle.vs_elab.specs.Reading.{AreNumberedIn}
use Rattle.vs_elab.proofs.MoreFrames.{env_kept}

get_before : (xs ys : List Function) (i : ℕ) (f : Function) → slice_get xs i ≡ Some f → slice_get (xs ++ ys) i ≡ Some f
get_before [] ys i f h = absurd (nothing i h)
  where
    nothing : (n : ℕ) → (let none : List Function = [] in slice_get none n ≡ Some f) → ⊥
    nothing zero k = cc
    nothing (suc n) k = cc
get_before (x ∷ xs) ys zero f h = h
get_before (x ∷ xs) ys (suc i) f h = get_before xs ys i f h

module _ (c d : Design) (more : List Function) (e : d.functions ≡ c.functions ++ more) where
  at_number : (f : FunctionMeaning) → IsAtNumber c f → IsAtNumber d f
  at_number f h = ap (λ (fs : List Function). slice_get fs f.number) e ∙ get_before c.functions more f.number _ h

  pub numbered_more : (m : Meaning) → IsNumbered c m → IsNumbered d m
  numbered_more (AValue v r turns) h = tt
  numbered_more (Undefined r) h = tt
  numbered_more (ASignal s) h = tt
  numbered_more (AMemory s) h = tt
  numbered_more (AFunction f) h = at_number f h
  numbered_more Incomplete h = tt
  numbered_more Another h = tt
  numbered_more (Barred rule) h = tt
  numbered_more Unknown h = tt

  pub names_numbered : (find : Find) → AreNumbered c find → AreNumbered d find
  names_numbered find h name = numbered_more (find name) (h name)

  declared_numbered : (x : Declared) → IsNumberedDeclared c x → IsNumberedDeclared d x
  declared_numbered Later h = tt
  declared_numbered (OfSignal s) h = tt
  declared_numbered (OfParameter v r) h = tt
  declared_numbered OfGenvar h = tt
  declared_numbered (OfInteger owner) h = tt
  declared_numbered (OfFunction (Some f)) h = at_number f h
  declared_numbered (OfFunction None) h = tt
  declared_numbered OfScope h = tt

  pub entries_numbered : (es : List Entry) → AreNumberedEntries c es → AreNumberedEntries d es
  entries_numbered [] h = tt
  entries_numbered (x ∷ es) h = (declared_numbered x.declared h.0, entries_numbered es h.1)

  pub frames_numbered : (fs : List (List Entry)) → AreNumberedFrames c fs → AreNumberedFrames d fs
  frames_numbered [] h = tt
  frames_numbered (f ∷ fs) h = (entries_numbered f h.0, frames_numbered fs h.1)

  -- all scopes
  pub seen_numbered : (frames : List Frame) → AreNumberedIn c frames → AreNumberedIn d frames
  seen_numbered frames h = λ i within. frames_numbered (env_at (envs frames) (Some i)).frames (h i within)

  -- and one more with these names
  pub numbered_behind : (fs : List Frame) (f : Frame) (env : Env) (es : List Entry) → env_at (envs (fs ++ f ∷ [])) (Some (length fs)) ≡ within env es
      → AreNumberedIn c fs → AreNumberedFrames d env.frames → AreNumberedEntries d es → AreNumberedIn d (fs ++ f ∷ [])
  numbered_behind fs f env es new old around own i h = of (cases_lt i (length fs))
    where
      of : (i < length fs) ⊎ (length fs ≤ i) → AreNumberedFrames d (env_at (envs (fs ++ f ∷ [])) (Some i)).frames
      of (inl k) = subst (λ (x : Env). AreNumberedFrames d x.frames) (sym (env_kept fs f i k)) (frames_numbered (env_at (envs fs) (Some i)).frames (old i k))
      of (inr k) =
          let a = length-append fs (f ∷ []) in
          let same : length fs ≡ i = omega (arith, h, k, a) in
          subst (λ n. AreNumberedFrames d (env_at (envs (fs ++ f ∷ [])) (Some n)).frames) same (subst (λ (x : Env). AreNumberedFrames d x.frames) (sym new) (own, around))

-- in a design of the same functions
pub same_functions : (c d : Design) → d.functions ≡ c.functions → d.functions ≡ c.functions ++ []
same_functions c d e = e ∙ sym (append-nil c.functions)
