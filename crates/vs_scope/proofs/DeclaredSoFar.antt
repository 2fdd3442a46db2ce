-- What a loop over declarations has made.
use Rattle.std.proofs.Common.{◌≡◌, ℕ, ◌+◌, ◌<◌, List, [], ◌∷◌, ◌++◌, map, take, length, get_or, Option, sym, ap, ◌∙◌, subst}
use Rattle.std.proofs.lemmas.List.{take_more, map-append}
use Rattle.vs_const.specs.declared.faults.Fault.{Fault}
use Rattle.vs_const.specs.Faults.{least, better, fault_if}
use Rattle.vs_const.specs.declared.rules.Rule.TheVariants.{DuplicateName}
use Rattle.vs_const.proofs.Least.{least_append}
use Rattle.vs_elaborated.specs.Declarations as spec
use Rattle.vs_scope.specs.declared.counts.Counts.{Counts}
use Rattle.vs_scope.specs.declared.names.Declaration.{Declaration}
use Rattle.vs_scope.specs.declared.names.Names.{Names}
use Rattle.vs_scope.specs.Views.{declaration}
use Rattle.vs_scope.specs.Complete.{IsIncomplete, IsStill}
use Rattle.vs_scope.specs.Declares.{named_list, AreFirst, with_named, is_one_too_many}
use Rattle.vs_scope.proofs.NamedLists.{names_of_more, repeated_more}

pub record IsDeclared (number : ℕ) (before : Counts) (ds : List Declaration) (names : Names) (found : Option Fault) : Type 0 where
  pub named : named_list names ≡ spec.names_of (map declaration ds)
  pub first : AreFirst names
  pub fault : found ≡ least (spec.repeated_names [] (map declaration ds))
  pub scope : names.scope ≡ number
  pub counts_are : names.counts ≡ before
  pub incomplete : IsIncomplete names

more_of : (ds : List Declaration) (i : ℕ) (d : Declaration) → i < length ds → d ≡ get_or ds i d → take (i + 1) ds ≡ take i ds ++ d ∷ []
more_of ds i d h e = take_more ds i d h ∙ ap (λ (x : Declaration). take i ds ++ x ∷ []) (sym e)

-- one declaration more
pub declared_more : (number : ℕ) (counts : Counts) (ds : List Declaration) (i : ℕ) (d : Declaration) (names new : Names) (fault repeated sum : Option Fault) → i < length ds → d ≡ get_or ds i d
    → IsDeclared number counts (take i ds) names fault → IsStill names new
    → named_list new ≡ with_named (declaration d) (named_list names) → AreFirst new → repeated ≡ least (fault_if (is_one_too_many (named_list names) (declaration d)) DuplicateName d.name.now.place) → sum ≡ better fault repeated
    → IsDeclared number counts (take (i + 1) ds) new sum
declared_more number counts ds i d names new fault repeated sum h e before still n f r s =
    subst (λ (x : List Declaration). IsDeclared number counts x new sum) (sym (more_of ds i d h e)) (record {
      named = n ∙ ap (with_named (declaration d)) before.named ∙ sym (names_of_more (map declaration (take i ds)) (declaration d)) ∙ ap spec.names_of (sym (map-append declaration (take i ds) (d ∷ [])));
      first = f;
      fault =
          s ∙ ap (λ (x : Option Fault). better x repeated) before.fault
          ∙ ap (better (least (spec.repeated_names [] (map declaration (take i ds))))) (r ∙ ap (λ (ns : List spec.Named). least (fault_if (is_one_too_many ns (declaration d)) DuplicateName d.name.now.place)) before.named)
          ∙ sym (least_append (spec.repeated_names [] (map declaration (take i ds))) (fault_if (is_one_too_many (spec.names_of (map declaration (take i ds))) (declaration d)) DuplicateName d.name.now.place))
          ∙ ap least (sym (repeated_more (map declaration (take i ds)) (declaration d)))
          ∙ ap (λ (x : List spec.Declaration). least (spec.repeated_names [] x)) (sym (map-append declaration (take i ds) (d ∷ [])));
      scope = still.scope ∙ before.scope;
      counts_are = still.counts ∙ before.counts_are;
      incomplete = still.incomplete before.incomplete;
    })
