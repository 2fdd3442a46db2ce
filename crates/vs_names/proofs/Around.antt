-- The names of the scopes around one.
use Rattle.std.proofs.Common.{◌≡◌, ℕ, suc, ◌-◌, ◌<◌, List, [], ◌++◌, map, Some, codes, Result, OnOk, ap, ◌∙◌, refl, arith}
use Rattle.std.specs.List.{slice_get}
use Rattle.std.specs.Option.{option_map_or, option_map}
use Rattle.std.proofs.lemmas.Option.{slice_get-map}
use Rattle.vs_design.specs.Designs as D
use Rattle.vs_flat.specs.declared.processes.Scope.{Scope}
use Rattle.vs_flat.specs.DesignOf.{scope_of}
use Rattle.vs_excerpt.specs.Escapes.{escaped}
use Rattle.vs_names.specs.Names.{scope_text}
use Rattle.vs_names.proofs.Added.{then_ok, as_ok}

step : (left fewer : ℕ) (scopes : List D.Scope) (n : ℕ) (s : D.Scope) → left ≡ suc fewer → slice_get scopes n ≡ Some s
    → option_map_or (scope_text fewer scopes) s.parent [] ++ (escaped s.name ++ codes ".") ≡ scope_text left scopes n
step left fewer scopes n s e at = rw (e, at) refl

pub scope_added : {V E : Type 0} (result : Result V E) (old page named new : List ℕ) (left n : ℕ) (scopes : List Scope) (s : Scope) → 0 < left → slice_get scopes n ≡ Some s
    → page ≡ old ++ option_map_or (scope_text (left - 1) (map scope_of scopes)) s.parent [] → named ≡ page ++ escaped s.name → OnOk result (new ≡ named ++ codes ".")
    → OnOk result (new ≡ old ++ scope_text left (map scope_of scopes) n)
scope_added result old page named new left n scopes s some at around own dot =
    let fewer : left ≡ suc (left - 1) = omega (arith, some) in
    as_ok result old new _ _ (step left (left - 1) (map scope_of scopes) n (scope_of s) fewer (slice_get-map scope_of scopes n ∙ ap (option_map scope_of) at))
    (then_ok result old page new _ _ around (then_ok result page named new _ _ own dot))
