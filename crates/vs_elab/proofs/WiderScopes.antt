-- What is sound in a design is sound in one that has its signals too: the names of scopes, and a scope that is to be read.
use Rattle.std.proofs.Common.{◌≡◌, ◌<◌, ◌≤◌, Bool, false, List, [], ◌∷◌, ◌++◌, length, length-append, Some, None, sym, subst, arith, ◌⊎◌, inl, inr}
use Rattle.std.proofs.lemmas.Bool.{cases_lt}
use Rattle.vs_design.specs.Designs.{Design}
use Rattle.vs_const.specs.Meanings.{AFunction}
use Rattle.vs_elaborated.specs.Environments.{Declared, Later, OfSignal, OfParameter, OfGenvar, OfInteger, OfFunction, OfScope, Entry, Env, within, signal_means}
use Rattle.vs_elaborated.specs.Parameters.{Override}
use Rattle.vs_elaborated.specs.Pieces.{Task}
use Rattle.vs_elaborated.specs.Surveys.{overrides_of}
use Rattle.vs_elaborated.specs.Sound.{IsSoundDeclared, AreSoundEntries, AreSoundFrames, AreFineOverrides, IsSoundTask}
use Rattle.vs_build.proofs.Wider.{IsWider, expression_wider}
use Rattle.vs_scope.specs.declared.frames.Frame.{Frame}
use Rattle.vs_scope.specs.Frames.{env_at, envs}
use Rattle.vs_elab.specs.Reading.{AreSeen}
use Rattle.vs_elab.proofs.MoreFrames.{env_kept}
use Rattle.vs_elab.proofs.Wider.{meaning_wider}

module _ (c d : Design) (w : IsWider c d) where
  declared_wider : (needed : Bool) (x : Declared) → IsSoundDeclared c needed x → IsSoundDeclared d needed x
  declared_wider needed Later h = h
  declared_wider needed (OfSignal s) h = (meaning_wider c d w needed (signal_means s) h.0, h.1)
  declared_wider needed (OfParameter (Some v) (Some r)) h = h
  declared_wider needed (OfParameter (Some v) None) h = h
  declared_wider needed (OfParameter None r) h = h
  declared_wider needed OfGenvar h = h
  declared_wider needed (OfInteger owner) h = h
  declared_wider needed (OfFunction (Some f)) h = meaning_wider c d w needed (AFunction f) h
  declared_wider needed (OfFunction None) h = h
  declared_wider needed OfScope h = h

  pub entries_wider : (needed : Bool) (es : List Entry) → AreSoundEntries c needed es → AreSoundEntries d needed es
  entries_wider needed [] h = tt
  entries_wider needed (e ∷ es) h = (declared_wider needed e.declared h.0, entries_wider needed es h.1)

  pub frames_wider : (needed : Bool) (fs : List (List Entry)) → AreSoundFrames c needed fs → AreSoundFrames d needed fs
  frames_wider needed [] h = tt
  frames_wider needed (f ∷ fs) h = (entries_wider needed f h.0, frames_wider needed fs h.1)

  overrides_wider : (os : List Override) → AreFineOverrides c os → AreFineOverrides d os
  overrides_wider [] h = tt
  overrides_wider (o ∷ os) h =
      (record { is_fine = record { good = h.0.is_fine.good; formed = expression_wider c d w o.typed.expression h.0.is_fine.formed; length = h.0.is_fine.length; constant = h.0.is_fine.constant }; most = h.0.most }, overrides_wider os h.1)

  -- a scope that is to be read
  pub task_wider : (t : Task) → IsSoundTask c t → IsSoundTask d t
  task_wider t h = record { frames = frames_wider false t.env.frames h.frames; overrides = overrides_wider (overrides_of t.contents) h.overrides; shaped = h.shaped }

  -- all scopes, and one more with these names
  pub seen_more : (fs : List Frame) (f : Frame) (env : Env) (es : List Entry) → env_at (envs (fs ++ f ∷ [])) (Some (length fs)) ≡ within env es
      → AreSeen c fs → AreSoundFrames d false env.frames → AreSoundEntries d false es → AreSeen d (fs ++ f ∷ [])
  seen_more fs f env es new old around own i h = of (cases_lt i (length fs))
    where
      of : (i < length fs) ⊎ (length fs ≤ i) → AreSoundFrames d false (env_at (envs (fs ++ f ∷ [])) (Some i)).frames
      of (inl k) = subst (λ (e : Env). AreSoundFrames d false e.frames) (sym (env_kept fs f i k)) (frames_wider false (env_at (envs fs) (Some i)).frames (old i k))
      of (inr k) =
          let a = length-append fs (f ∷ []) in
          let e : length fs ≡ i = omega (arith, h, k, a) in
          subst (λ n. AreSoundFrames d false (env_at (envs (fs ++ f ∷ [])) (Some n)).frames) e (subst (λ (x : Env). AreSoundFrames d false x.frames) (sym new) (own, around))
