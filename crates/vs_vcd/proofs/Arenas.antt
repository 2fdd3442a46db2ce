-- Scopes and signals of a flat design as those of the plain one.
use Rattle.std.proofs.Common.{◌≡◌, false, ℕ, zero, suc, ◌+◌, List, [], ◌∷◌, length, map, refl, sym, ap, ◌∙◌, subst, arith}
use Rattle.std.specs.Prelude.{slice_get, Option, None, Some, is_some, option_map}
use Rattle.std.proofs.lemmas.List.{length-map}
use Rattle.std.proofs.lemmas.Option.{slice_get-map}
use Rattle.vs_four.specs.declared.Range.{Range}
use Rattle.vs_design.specs.Expressions as E
use Rattle.vs_design.specs.Designs.{Design}
use Rattle.vs_design.specs.Footprints.{is_memory}
use Rattle.vs_flat.specs.Arena.{Arena}
use Rattle.vs_flat.specs.DesignOf.{design_of, scope_of}
use Rattle.vs_flat.specs.Trees.{signal_of, signals_from}
use Rattle.vs_flat.specs.declared.processes.Scope.{Scope}
use Rattle.vs_flat.specs.declared.processes.Signal.{Signal}
use Rattle.vs_vcd.specs.Groups.{AreLinked}
use Rattle.vs_vcd.specs.Shared.{coded_by}
use Rattle.vs_vcd.specs.Steps.{signal_key, signal_keys}

pub scope-at : (a : Arena) (n : ℕ) (s : Scope) → slice_get a.scopes n ≡ Some s → slice_get (design_of a).scopes n ≡ Some (scope_of s)
scope-at a n s h = slice_get-map scope_of a.scopes n ∙ ap (option_map scope_of) h

pub length-scopes : (a : Arena) → length (design_of a).scopes ≡ length a.scopes
length-scopes a = length-map a.scopes scope_of

signal_from : (k n : ℕ) (signals : List Signal) (s : Signal) → slice_get signals n ≡ Some s → slice_get (signals_from k signals) n ≡ Some (signal_of (k + n) s)
signal_from k n [] s h = cc
signal_from k zero (x ∷ signals) s h = let same : x ≡ s = cc in let e : k ≡ k + 0 = omega arith in ap (λ (y : Signal). Some (signal_of k y)) same ∙ ap (λ (m : ℕ). Some (signal_of m s)) e
signal_from k (suc n) (x ∷ signals) s h = let e : suc k + n ≡ k + suc n = omega arith in signal_from (suc k) n signals s h ∙ ap (λ (m : ℕ). Some (signal_of m s)) e

pub signal-at : (a : Arena) (n : ℕ) (s : Signal) → slice_get a.signals n ≡ Some s → slice_get (design_of a).signals n ≡ Some (signal_of n s)
signal-at a n s h = let e : 0 + n ≡ n = omega arith in signal_from 0 n a.signals s h ∙ ap (λ (m : ℕ). Some (signal_of m s)) e

length-from : (k : ℕ) (signals : List Signal) → length (signals_from k signals) ≡ length signals
length-from k [] = refl
length-from k (s ∷ signals) = ap suc (length-from (suc k) signals)

pub length-signals : (a : Arena) → length (design_of a).signals ≡ length a.signals
length-signals a = length-from 0 a.signals

-- what is no memory has the length of its range
pub plain_length : (s : E.Signal) → is_memory s ≡ false → E.signal_length s ≡ E.range_or_one s.range
plain_length s plain = of s.words plain
  where
    of : (words : Option Range) → is_some words ≡ false → E.words_length words (E.range_or_one s.range) ≡ E.range_or_one s.range
    of None e = refl
    of (Some r) e = cc

-- ---- with codes for numbers

pub coded-at : (a : Arena) (code : ℕ → ℕ) (n : ℕ) (s : Signal) → slice_get a.signals n ≡ Some s → slice_get (coded_by code (design_of a)).signals n ≡ Some (signal_of (code n) s)
coded-at a code n s h =
    slice_get-map (λ (t : E.Signal). record t { number = code t.number }) (design_of a).signals n
    ∙ ap (option_map (λ (t : E.Signal). record t { number = code t.number })) (signal-at a n s h)

pub coded-keys : (code : ℕ → ℕ) (d : Design) → signal_keys (coded_by code d).signals ≡ signal_keys d.signals
unfolding signal_keys
coded-keys code d = keys d.signals
  where
    keys : (ss : List E.Signal) → map signal_key (map (λ (t : E.Signal). record t { number = code t.number }) ss) ≡ map signal_key ss
    keys [] = refl
    keys (s ∷ ss) = ap (λ (rest : List (Option ℕ)). signal_key s ∷ rest) (keys ss)

pub length-coded : (a : Arena) (code : ℕ → ℕ) → length (coded_by code (design_of a)).signals ≡ length a.signals
length-coded a code = length-map (design_of a).signals (λ (t : E.Signal). record t { number = code t.number }) ∙ length-signals a

pub linked_coded : (code : ℕ → ℕ) (d : Design) (groups : ℕ) (first next : List (Option ℕ)) → AreLinked groups (signal_keys d.signals) first next → AreLinked groups (signal_keys (coded_by code d).signals) first next
linked_coded code d groups first next h = subst (λ (keys : List (Option ℕ)). AreLinked groups keys first next) (sym (coded-keys code d)) h
