-- The only module that no instance names, found one after the other.
use Rattle.std.proofs.Common.{◌≡◌, ℕ, ◌+◌, ◌<◌, Bool, true, false, not, cond, List, [], ◌∷◌, ◌++◌, length, take, drop, get_or, map, Option, None, Some, refl, sym, ap, ◌∙◌, subst}
use Rattle.std.specs.Prelude.{is_some, option_map}
use Rattle.std.specs.List.{filter}
use Rattle.std.proofs.lemmas.List.{take-append-drop}
use Rattle.std.proofs.lemmas.List.Elements.{filter_more, filter-append}
use Rattle.vs_grammar.specs.Trees as tree
use Rattle.vs_ast.specs.Views as view
use Rattle.vs_ast.specs.declared.modules.Module.{Module}
use Rattle.vs_tops.specs.Tops.{is_instantiated, top_level, only_name, own_top}

abbrev pub is_top_level : tree.Source → Module → Bool
is_top_level source m = not (is_instantiated source (view.module_tree m).name.bytes)

-- those of these modules that no instance of the text names
abbrev pub top_level_in : tree.Source → List Module → List Module
top_level_in source ms = filter (is_top_level source) ms

-- there is none of them, or this is the only one
abbrev pub AreOnly : Option (List ℕ) → List Module → Type 0
AreOnly None ms = ms ≡ []
AreOnly (Some name) ms = (m : Module) × (ms ≡ m ∷ []) × (name ≡ (view.module_tree m).name.bytes)

filtered : (source : tree.Source) (ms : List Module) → map view.module_tree (top_level_in source ms) ≡ filter (λ (m : tree.Module). not (is_instantiated source m.name.bytes)) (map view.module_tree ms)
filtered source [] = refl
filtered source (m ∷ ms) = by (is_top_level source m) (filtered source ms)
  where
    by : (t : Bool) → map view.module_tree (top_level_in source ms) ≡ filter (λ (n : tree.Module). not (is_instantiated source n.name.bytes)) (map view.module_tree ms)
        → map view.module_tree (cond t (m ∷ top_level_in source ms) (top_level_in source ms))
        ≡ cond t (view.module_tree m ∷ filter (λ (n : tree.Module). not (is_instantiated source n.name.bytes)) (map view.module_tree ms)) (filter (λ (n : tree.Module). not (is_instantiated source n.name.bytes)) (map view.module_tree ms))
    by true h = ap (λ ns. view.module_tree m ∷ ns) h
    by false h = h

-- at the end
pub only_is : (source : tree.Source) (ms : List Module) (o : Option (List ℕ)) → source.modules ≡ map view.module_tree ms → AreOnly o (top_level_in source ms) → o ≡ own_top source
only_is source ms o are h = named o h ∙ ap only_name (filtered source ms ∙ ap (λ ns. filter (λ (m : tree.Module). not (is_instantiated source m.name.bytes)) ns) (sym are))
  where
    named : (o : Option (List ℕ)) → AreOnly o (top_level_in source ms) → o ≡ only_name (map view.module_tree (top_level_in source ms))
    named None e = sym (ap (λ ns. only_name (map view.module_tree ns)) e)
    named (Some name) e = ap Some e.2 ∙ sym (ap (λ ns. only_name (map view.module_tree ns)) e.1)

more : (source : tree.Source) (ms : List Module) (i : ℕ) (m : Module) (t : Bool) → i < length ms → m ≡ get_or ms i m → is_top_level source m ≡ t
    → top_level_in source (take (i + 1) ms) ≡ top_level_in source (take i ms) ++ cond t (m ∷ []) []
more source ms i m t lt at is =
    filter_more (is_top_level source) ms i m lt ∙ ap (λ (x : Module). top_level_in source (take i ms) ++ cond (is_top_level source x) (x ∷ []) []) (sym at)
    ∙ ap (λ b. top_level_in source (take i ms) ++ cond b (m ∷ []) []) is

append_nothing : {A : Type 0} (xs : List A) → xs ++ [] ≡ xs
append_nothing [] = refl
append_nothing (x ∷ xs) = ap (λ ys. x ∷ ys) (append_nothing xs)

-- one that an instance names
pub only_passed : (source : tree.Source) (ms : List Module) (i : ℕ) (m : Module) (o : Option (List ℕ)) → i < length ms → m ≡ get_or ms i m → is_instantiated source (view.module_tree m).name.bytes ≡ true
    → AreOnly o (top_level_in source (take i ms)) → AreOnly o (top_level_in source (take (i + 1) ms))
only_passed source ms i m o lt at named h =
    subst (AreOnly o) (sym (more source ms i m false lt at (ap not named) ∙ append_nothing (top_level_in source (take i ms)))) h

-- the first that none names
pub only_found : (source : tree.Source) (ms : List Module) (i : ℕ) (m : Module) (name : List ℕ) → i < length ms → m ≡ get_or ms i m → is_instantiated source (view.module_tree m).name.bytes ≡ false
    → name ≡ (view.module_tree m).name.bytes → AreOnly None (top_level_in source (take i ms)) → AreOnly (Some name) (top_level_in source (take (i + 1) ms))
only_found source ms i m name lt at named is none =
    (m, more source ms i m true lt at (ap not named) ∙ ap (λ (ns : List Module). ns ++ m ∷ []) none, is)

-- a second one that none names
pub two_found : (source : tree.Source) (ms : List Module) (i : ℕ) (m : Module) (name : List ℕ) → source.modules ≡ map view.module_tree ms → i < length ms → m ≡ get_or ms i m
    → is_instantiated source (view.module_tree m).name.bytes ≡ false → AreOnly (Some name) (top_level_in source (take i ms)) → None ≡ own_top source
two_found source ms i m name are lt at named h =
    let rest = top_level_in source (drop (i + 1) ms) in
    let front : top_level_in source (take (i + 1) ms) ≡ h.0 ∷ m ∷ [] = more source ms i m true lt at (ap not named) ∙ ap (λ (ns : List Module). ns ++ m ∷ []) h.1 in
    let whole : top_level_in source ms ≡ h.0 ∷ m ∷ rest =
    ap (top_level_in source) (sym (take-append-drop (i + 1) ms)) ∙ filter-append (is_top_level source) (take (i + 1) ms) (drop (i + 1) ms) ∙ ap (λ (ns : List Module). ns ++ rest) front in
    sym (ap (λ (ns : List tree.Module). only_name (filter (λ (n : tree.Module). not (is_instantiated source n.name.bytes)) ns)) are
    ∙ ap only_name (sym (filtered source ms) ∙ ap (λ (ns : List Module). map view.module_tree ns) whole))

-- ---- where the one so far is seen in another value

pub some_seen : {X : Type 0} (f : X → List ℕ) (o : Option X) → is_some o ≡ true → is_some (option_map f o) ≡ true
some_seen f None h = cc
some_seen f (Some x) h = refl

pub none_seen : {X : Type 0} (f : X → List ℕ) (o : Option X) → is_some o ≡ false → None ≡ option_map f o
none_seen f None h = refl
none_seen f (Some x) h = cc

pub two_found_in : (source : tree.Source) (ms : List Module) (i : ℕ) (m : Module) (o : Option (List ℕ)) → is_some o ≡ true → source.modules ≡ map view.module_tree ms → i < length ms → m ≡ get_or ms i m
    → is_instantiated source (view.module_tree m).name.bytes ≡ false → AreOnly o (top_level_in source (take i ms)) → None ≡ own_top source
two_found_in source ms i m None some are lt at named h = cc
two_found_in source ms i m (Some name) some are lt at named h = two_found source ms i m name are lt at named h
