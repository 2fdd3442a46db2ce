-- Names of connections without a fault are different.
use Rattle.std.proofs.Common.{◌≡◌, ℕ, Bool, true, false, not, ◌||◌, List, [], ◌∷◌, ◌++◌, None, if◌then◌else◌, refl, ap, ◌∙◌}
use Rattle.std.specs.List.{list_any}
use Rattle.vs_design.specs.Clocks.{same_name}
use Rattle.vs_grammar.specs.Trees as tree
use Rattle.vs_grammar.specs.Trees.{Name}
use Rattle.vs_grammar.specs.Shapes.{Each}
use Rattle.vs_const.specs.declared.faults.Fault.{Fault}
use Rattle.vs_const.specs.Faults.{least, fault, fault_if}
use Rattle.vs_const.specs.declared.rules.Rule.TheVariants.{DuplicateName, UnknownPort}
use Rattle.vs_elaborated.specs.Ports.{is_named}
use Rattle.vs_elaborated.specs.Instances.{connected_names}
use Rattle.vs_items.specs.Connections.{AreApart}
use Rattle.vs_items.proofs.OverrideFaults.{same_swapped}

none_of : (fs gs : List Fault) → least (fs ++ gs) ≡ None → (least fs ≡ None) × (least gs ≡ None)
none_of [] gs h = (refl, h)
none_of (f ∷ fs) gs h = cc

either_false : (a b : Bool) → (a || b) ≡ false → (a ≡ false) × (b ≡ false)
either_false true b h = cc
either_false false b h = (refl, h)

abbrev AreNew : List Name → List tree.NamedConnection → Type 0
AreNew seen cs = Each (λ (d : tree.NamedConnection). is_named d.name.bytes seen ≡ false) cs

new_still : (seen : List Name) (n : Name) (cs : List tree.NamedConnection) → AreNew (n ∷ seen) cs → AreNew seen cs
new_still seen n [] h = tt
new_still seen n (c ∷ cs) h = ((either_false (same_name n.bytes c.name.bytes) (is_named c.name.bytes seen) h.0).1, new_still seen n cs h.1)

is_new : (b : Bool) (place : ℕ) (others : List Fault) → least (if b then fault DuplicateName place else others) ≡ None → b ≡ false
is_new true place others h = cc
is_new false place others h = refl

all_new : (known : List ℕ → Bool) (seen : List Name) (cs : List tree.NamedConnection) → least (connected_names known seen cs) ≡ None → AreNew seen cs
all_new known seen [] h = tt
all_new known seen (c ∷ cs) h =
    let both = none_of (if is_named c.name.bytes seen then fault DuplicateName c.name.place else fault_if (not (known c.name.bytes)) UnknownPort c.name.place) (connected_names known (c.name ∷ seen) cs) h in
    (is_new (is_named c.name.bytes seen) c.name.place (fault_if (not (known c.name.bytes)) UnknownPort c.name.place) both.0, new_still seen c.name cs (all_new known (c.name ∷ seen) cs both.1))

none_has : (seen : List Name) (n : Name) (cs : List tree.NamedConnection) → AreNew (n ∷ seen) cs → list_any (λ (d : tree.NamedConnection). same_name d.name.bytes n.bytes) cs ≡ false
none_has seen n [] h = refl
none_has seen n (c ∷ cs) h =
    let other = (either_false (same_name n.bytes c.name.bytes) (is_named c.name.bytes seen) h.0).0 in
    ap (λ b. b || list_any (λ (d : tree.NamedConnection). same_name d.name.bytes n.bytes) cs) (same_swapped c.name.bytes n.bytes ∙ other) ∙ none_has seen n cs h.1

apart_after : (known : List ℕ → Bool) (seen : List Name) (cs : List tree.NamedConnection) → least (connected_names known seen cs) ≡ None → AreApart cs
apart_after known seen [] h = tt
apart_after known seen (c ∷ cs) h =
    let both = none_of (if is_named c.name.bytes seen then fault DuplicateName c.name.place else fault_if (not (known c.name.bytes)) UnknownPort c.name.place) (connected_names known (c.name ∷ seen) cs) h in
    (none_has seen c.name cs (all_new known (c.name ∷ seen) cs both.1), apart_after known (c.name ∷ seen) cs both.1)

-- where no name is at fault
pub are_apart : (known : List ℕ → Bool) (cs : List tree.NamedConnection) → least (connected_names known [] cs) ≡ None → AreApart cs
are_apart known cs h = apart_after known [] cs h
