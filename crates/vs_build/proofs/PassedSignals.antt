-- The signals that a call passes behind its arguments.
use Rattle.std.proofs.Common.{◌≡◌, ◌<◌, ◌≤◌, ◌+◌, ℕ, zero, suc, false, true, Option, Some, None, List, [], ◌∷◌, ◌++◌, length, take, slice_get, sym, ap, ◌∙◌, subst, arith}
use Rattle.std.proofs.lemmas.List.{take_all}
use Rattle.vs_design.specs.Expressions.{Expression, At, Name}
use Rattle.vs_design.specs.Designs.{Design}
use Rattle.vs_design.specs.Elaborated.{is_plain}
use Rattle.vs_const.specs.declared.names.SignalShape.{SignalShape}
use Rattle.vs_const.specs.Meanings.{SignalMeaning, FunctionMeaning, Meaning, AFunction, IsShapeIn}
use Rattle.vs_const.specs.Sound.{IsSoundSignal, AreSoundSignals}
use Rattle.vs_flat.specs.Trees.{signal_at}
use Rattle.vs_build.specs.Drafts.{Draft, AddsExpression, AddsParts, home}
use Rattle.vs_build.specs.Buildable.{ArePassable, passed_expressions}
use Rattle.vs_build.proofs.Lists.{parts_are, parts_home, parts_more, parts_none}
use Rattle.vs_build.proofs.SignalNames.{plain_signal, signal_is, signal_within}

-- ---- one of them

-- it stands at its number
pub record IsPassed (d : Design) (f : FunctionMeaning) (n : ℕ) (s : SignalShape) : Type 0 where
  pub signal : SignalMeaning
  pub found : slice_get f.passed n ≡ Some signal
  pub at : signal_at d.signals s.number ≡ signal.signal
  pub below : s.number < length d.signals
  pub formed : is_plain d (signal_at d.signals s.number) ≡ true

sound_at : (d : Design) (ss : List SignalMeaning) (n : ℕ) (t : SignalMeaning) → AreSoundSignals d ss → slice_get ss n ≡ Some t → IsSoundSignal d false t
sound_at d [] n t h k = cc
sound_at d (s ∷ ss) zero t h k = let is : s ≡ t = cc in subst (λ (x : SignalMeaning). IsSoundSignal d false x) is h.0
sound_at d (s ∷ ss) (suc n) t h k = sound_at d ss n t h.1 k

pub is_passed : (d : Design) (m : Meaning) (f : FunctionMeaning) (n : ℕ) (o : Option SignalShape) (s : SignalShape) → ArePassable d m → m ≡ AFunction f → IsShapeIn o (slice_get f.passed n) → o ≡ Some s → IsPassed d f n s
is_passed d m f n o s h e k is =
    let t = subst (λ (x : Option SignalShape). IsShapeIn x (slice_get f.passed n)) is k in
    let sound = sound_at d f.passed n t.0 (h f e) t.1 in
    let of_design = plain_signal d t.0.signal sound.0 in
    let at : signal_at d.signals s.number ≡ t.0.signal = ap (signal_at d.signals) t.2.number ∙ signal_is d t.0.signal of_design in
    record {
      signal = t.0;
      found = t.1;
      at = at;
      below = subst (λ (k : ℕ). k < length d.signals) (sym t.2.number) (signal_within d t.0.signal of_design);
      formed = ap (is_plain d) at ∙ sound.0;
    }

-- none is missing
there : (ss : List SignalMeaning) (n : ℕ) → n < length ss → slice_get ss n ≡ None → ⊥
there [] n h k = absurd (omega arith)
there (s ∷ ss) zero h k = cc
there (s ∷ ss) (suc n) h k = there ss n (omega arith) k

pub is_there : (f : FunctionMeaning) (n count : ℕ) (o : Option SignalShape) → n < count → count ≡ length f.passed → IsShapeIn o (slice_get f.passed n) → o ≡ None → ⊥
is_there f n count o h many k is = there f.passed n (subst (λ (c : ℕ). n < c) many h) (subst (λ (x : Option SignalShape). IsShapeIn x (slice_get f.passed n)) is k)

-- ---- one after the other

-- the first of them are built
pub record AreBuiltTo (old now : Draft) (m : Meaning) (place n : ℕ) : Type 0 where
  pub parts : (f : FunctionMeaning) → m ≡ AFunction f → AddsParts old now (passed_expressions place (take n f.passed)) 1

pub none_built : (s : Draft) (m : Meaning) (place : ℕ) → AreBuiltTo s s m place 0
none_built s m place = record { parts = λ f e. parts_none s 1 }

next_passed : (place : ℕ) (ss : List SignalMeaning) (n : ℕ) (t : SignalMeaning) → slice_get ss n ≡ Some t → passed_expressions place (take n ss) ++ At place (Name t.signal) ∷ [] ≡ passed_expressions place (take (suc n) ss)
next_passed place [] n t h = cc
next_passed place (s ∷ ss) zero t h = let is : s ≡ t = cc in ap (λ (x : SignalMeaning). At place (Name x.signal) ∷ []) (sym is)
next_passed place (s ∷ ss) (suc n) t h = ap (λ (r : List Expression). At place (Name s.signal) ∷ r) (next_passed place ss n t h)

pub one_built : (old now new : Draft) (m : Meaning) (place n : ℕ) (o : Option SignalShape) (s : SignalShape) → ArePassable (home old) m → ((f : FunctionMeaning) → m ≡ AFunction f → IsShapeIn o (slice_get f.passed n)) → o ≡ Some s
    → AddsExpression now new (At place (Name (signal_at (home now).signals s.number))) 1 → AreBuiltTo old now m place n → AreBuiltTo old new m place (n + 1)
one_built old now new m place n o s h passed is a before =
    subst (AreBuiltTo old new m place) (let on : suc n ≡ n + 1 = omega arith in on) (record {
      parts = λ f e.
          let b = before.parts f e in
          let p = is_passed (home old) m f n o s h e (passed f e) is in
          let same : signal_at (home now).signals s.number ≡ p.signal.signal = ap (λ (d : Design). signal_at d.signals s.number) (sym (parts_home old now (passed_expressions place (take n f.passed)) 1 b)) ∙ p.at in
          parts_are old new (passed_expressions place (take n f.passed) ++ At place (Name p.signal.signal) ∷ []) (passed_expressions place (take (suc n) f.passed)) 1 (next_passed place f.passed n p.signal p.found)
          (parts_more old now new (passed_expressions place (take n f.passed)) (At place (Name p.signal.signal)) 1 1 b (subst (λ x. AddsExpression now new (At place (Name x)) 1) same a) (omega arith));
    })

pub all_built : (old now : Draft) (m : Meaning) (place n count : ℕ) (f : FunctionMeaning) → count ≤ n → count ≡ length f.passed → m ≡ AFunction f → AreBuiltTo old now m place n → AddsParts old now (passed_expressions place f.passed) 1
all_built old now m place n count f h many e b =
    parts_are old now (passed_expressions place (take n f.passed)) (passed_expressions place f.passed) 1 (ap (passed_expressions place) (take_all n f.passed (subst (λ (c : ℕ). c ≤ n) many h))) (b.parts f e)

-- the next one is in the design that is built over
pub passed_now : (old now : Draft) (m : Meaning) (place n : ℕ) (o : Option SignalShape) (s : SignalShape) (f : FunctionMeaning) → m ≡ AFunction f → ArePassable (home old) m → IsShapeIn o (slice_get f.passed n) → o ≡ Some s → AreBuiltTo old now m place n
    → IsPassed (home now) f n s
passed_now old now m place n o s f e h k is b = subst (λ (d : Design). IsPassed d f n s) (parts_home old now (passed_expressions place (take n f.passed)) 1 (b.parts f e)) (is_passed (home old) m f n o s h e k is)
