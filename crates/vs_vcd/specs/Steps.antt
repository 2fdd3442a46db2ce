-- What is still to be written of the scopes of a design.
use Rattle.std.specs.Prelude.{◌≡◌, ℕ, suc, true, false, List, [], ◌∷◌, ◌++◌, drop, map, nat_lt, slice_get, Option, None, Some}
use Rattle.vs_design.specs.Expressions.{Signal}
use Rattle.vs_design.specs.Designs.{Scope, Design}
use Rattle.vs_design.specs.Footprints.{is_memory}
use Rattle.vs_vcd.specs.declared.declarations.Step.{Step}
use Rattle.vs_vcd.specs.declared.declarations.Step.TheVariants.{Scopes, Close}
use Rattle.vs_vcd.specs.Scopes.{upscope_line, scopes_in, shown_signals}

-- group 0 is the top's, and group n + 1 that of the scopes in scope n; a scope stands in an earlier one
abbrev pub scope_key : ℕ → Option ℕ → Option ℕ
scope_key n None = Some 0
scope_key n (Some parent) = elim (nat_lt parent n) [ true ↦ Some (suc parent) | false ↦ None ]

unfoldable pub scope_keys : ℕ → List Scope → List (Option ℕ)
scope_keys n [] = []
scope_keys n (s ∷ ss) = scope_key n s.parent ∷ scope_keys (suc n) ss

-- a signal is in the group of its scope; a memory has no line, and is in none
abbrev pub signal_key : Signal → Option ℕ
signal_key s = elim (is_memory s) [ true ↦ None | false ↦ Some s.scope ]

unfoldable pub signal_keys : List Signal → List (Option ℕ)
signal_keys signals = map signal_key signals

-- a scope and those after it that stand in the same one, each with what is in it
unfoldable pub scopes_from : Design → ℕ → Option Scope → List ℕ
scopes_from d n None = []
scopes_from d n (Some s) = scopes_in (shown_signals d) s.parent n (drop n d.scopes)

unfoldable pub step_text : Design → Step → List ℕ
step_text d (Scopes n) = scopes_from d n (slice_get d.scopes n)
step_text d Close = upscope_line

-- the last of the steps comes first
unfoldable pub steps_text : Design → List Step → List ℕ
steps_text d [] = []
steps_text d (step ∷ steps) = steps_text d steps ++ step_text d step

abbrev pub link_steps : Option ℕ → List Step
link_steps None = []
link_steps (Some n) = Scopes n ∷ []

-- the scope is in a group
unfoldable pub IsStep : Design → Step → Type 0
IsStep d (Scopes n) = (g : ℕ) × (slice_get (scope_keys 0 d.scopes) n ≡ Some (Some g))
IsStep d Close = Unit {0}

unfoldable pub AreSteps : Design → List Step → Type 0
AreSteps d [] = Unit {0}
AreSteps d (step ∷ steps) = IsStep d step × AreSteps d steps
