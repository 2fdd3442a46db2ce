-- The entries of a scope, as the pairs of its map.
use Rattle.std.proofs.Common.{◌≡◌, ℕ, Bool, true, false, List, [], ◌∷◌, Option, Some, None, map, MatchOption, option_map, if◌then◌else◌, refl, sym, ap, subst}
use Rattle.vs_design.specs.Clocks.{same_name}
use Rattle.vs_elaborated.specs.Environments.{find_entry}
pub use Rattle.vs_maps.proofs.NameSets.{same_is}
use Rattle.vs_scope.specs.declared.names.Entry.{Entry}
use Rattle.vs_maps.specs.Maps.{Pair, value_at}
use Rattle.vs_scope.specs.Views.{entry_of, pair_entry}

-- what a look-up finds, with a reference in place of the value
pub match_copied : {R V : Type 0} (now : R → V) (P : Type 0) (Q : V → Type 0) (r : Option R) (o : Option V) → option_map now r ≡ o → MatchOption o P Q → MatchOption r P (λ e. Q (now e))
match_copied now P Q None o e h = subst (λ z. MatchOption z P Q) (sym e) h
match_copied now P Q (Some x) o e h = subst (λ z. MatchOption z P Q) (sym e) h

pub find_value : (name : List ℕ) (ps : List (Pair Entry))
    → MatchOption (value_at name ps) (find_entry (map pair_entry ps) name ≡ None) (λ v. find_entry (map pair_entry ps) name ≡ Some (entry_of name v))
find_value name [] = refl
find_value name (p ∷ ps) = by (same_name p.name name) refl (find_value name ps)
  where
    by : (b : Bool) → same_name p.name name ≡ b → MatchOption (value_at name ps) (find_entry (map pair_entry ps) name ≡ None) (λ v. find_entry (map pair_entry ps) name ≡ Some (entry_of name v))
        → MatchOption (if b then Some p.value else value_at name ps) ((if b then Some (pair_entry p) else find_entry (map pair_entry ps) name) ≡ None)
        (λ v. (if b then Some (pair_entry p) else find_entry (map pair_entry ps) name) ≡ Some (entry_of name v))
    by true e rest = ap (λ n. Some (entry_of n p.value)) (same_is p.name name e)
    by false e rest = rest
