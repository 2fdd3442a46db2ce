-- The pattern of an item's value, by what holds of its bits.
use Rattle.std.proofs.Common.{◌≡◌, ℕ, Bool, true, false, ◌&&◌, List, [], ◌∷◌, map, take, drop, if◌then◌else◌, refl, sym, ap, ◌∙◌}
use Rattle.std.specs.List.{list_all}
use Rattle.vs_four.specs.Logic.{BitList}
use Rattle.vs_design.specs.Sets.{Set4}
use Rattle.vs_design.specs.Statements.{CaseKind}
use Rattle.vs_design.specs.Covers.{Pattern, is_open, matched, patterns_of}

abbrev zeros : Pattern → Bool
zeros p = list_all (λ (s : Set4). s.zero?) p

abbrev one_if : Bool → Pattern → List Pattern
one_if c p = if c then (p ∷ []) else []

parts_are : (kind : CaseKind) (n : ℕ) (v : BitList) (p : Pattern) → p ≡ map (matched kind) v → patterns_of kind n v ≡ one_if (list_all is_open (take n p) && zeros (drop n p)) (take n p)
parts_are kind n v p is = ap (λ (q : Pattern). one_if (list_all is_open (take n q) && zeros (drop n q)) (take n q)) (sym is)

none_and : (a : Bool) → (a && false) ≡ false
none_and true = refl
none_and false = refl

pub no_end : (kind : CaseKind) (n : ℕ) (v : BitList) (p : Pattern) (r : Bool) → p ≡ map (matched kind) v → r ≡ list_all (λ s. s.zero?) (drop n p) → r ≡ false → [] ≡ patterns_of kind n v
no_end kind n v p r is zero h =
    sym (parts_are kind n v p is ∙ ap (λ (c : Bool). one_if (list_all is_open (take n p) && c) (take n p)) (sym zero ∙ h) ∙ ap (λ (c : Bool). one_if c (take n p)) (none_and (list_all is_open (take n p))))

pub not_open : (kind : CaseKind) (n : ℕ) (v : BitList) (p cut : Pattern) (r : Bool) → p ≡ map (matched kind) v → cut ≡ take n p → r ≡ list_all is_open cut → r ≡ false → [] ≡ patterns_of kind n v
not_open kind n v p cut r is short opened h =
    sym (parts_are kind n v p is ∙ ap (λ (c : Bool). one_if (c && zeros (drop n p)) (take n p)) (ap (list_all is_open) (sym short) ∙ sym opened ∙ h))

pub open_pattern : (kind : CaseKind) (n : ℕ) (v : BitList) (p cut : Pattern) (r s : Bool) → p ≡ map (matched kind) v → s ≡ list_all (λ s. s.zero?) (drop n p) → s ≡ true → cut ≡ take n p → r ≡ list_all is_open cut → r ≡ true → cut ∷ [] ≡ patterns_of kind n v
open_pattern kind n v p cut r s is zero k short opened h =
    ap (λ (q : Pattern). q ∷ []) short
    ∙ sym (parts_are kind n v p is ∙ ap (λ (c : Bool). one_if (c && zeros (drop n p)) (take n p)) (ap (list_all is_open) (sym short) ∙ sym opened ∙ h) ∙ ap (λ (c : Bool). one_if c (take n p)) (sym zero ∙ k))
